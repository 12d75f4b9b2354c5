-- Turns one after another.
use Rattle.std.proofs.Common.{◌≡◌, ℕ, zero, suc, ◌+◌, ◌-◌, ◌*◌, ◌<◌, ◌≤◌, List, [], ◌∷◌, ◌++◌, map, length, replicate, Bool, true, false, Option, Some, None, ◌⊎◌, inl, inr, refl, sym, ap, ◌∙◌, subst, arith, length-append}
use Rattle.std.specs.Prelude.{nat_eq, slice_index, if◌then◌else◌}
use Rattle.std.proofs.Common.{eqb-true, eq-eqb}
use Rattle.std.proofs.Math.Nat.{add-mul, mul-add}
use Rattle.std.proofs.lemmas.Bool.{cases_lt}
use Rattle.std.proofs.lemmas.List.{get_or-replicate, get_or_past}
use Rattle.sc_base.specs.declared.names.Class.{Class}
use Rattle.sc_base.specs.declared.names.Class.TheVariants.{Q, C}
use Rattle.sc_gate.specs.declared.gate.Wire.{Wire}
use Rattle.sc_gate.specs.Chains.{Timed, Reached, when, best}
use Rattle.sc_gate.specs.Paths.{WiresAre}
use Rattle.sc_gate.specs.Renaming.{rename_timed}
use Rattle.sc_gate.specs.Wires.{same_wire}
use Rattle.sc_gate.proofs.Weighs.{Weighs, greatest_weighs}
use Rattle.sc_gate.proofs.Joined.{in_first, in_second}
use Rattle.sc_gate.proofs.PathRename.{best_renamed}
use Rattle.sc_gate.proofs.WireLemmas.{same_wire-true, same_wire-refl}
use Rattle.sc_path.specs.declared.row.Entry.{Entry}
use Rattle.sc_path.specs.Rows.{look, row_at, Passes, place}
use Rattle.sc_path.specs.Ends.{begin, start_in}
use Rattle.sc_path.specs.Tables.{param}
use Rattle.sc_path.specs.Fronts.{Bounded, Stands, Placed}
use Rattle.sc_path.specs.Powers.{IsParam, Follows, AreTurns, params_at, IsRange}
use Rattle.sc_path.proofs.CallStar.{lt_true, lt_false}
use Rattle.sc_path.proofs.Gate.{passes_bound}
use Rattle.sc_path.proofs.TableLemmas.{begin_star}

unfoldable wire_in : Class → ℕ → Wire
wire_in class number = record { class = class; number = number }

pub param_low : (q u : ℕ) → u < q → param q u ≡ record { class = Q; number = u }
param_low q u h = ap (λ (t : Bool). if t then record { class = Q; number = u } else record { class = C; number = u - q }) (lt_true u q h)

pub param_high : (q u : ℕ) → q ≤ u → param q u ≡ record { class = C; number = u - q }
param_high q u h = ap (λ (t : Bool). if t then record { class = Q; number = u } else record { class = C; number = u - q }) (lt_false u q h)

one_by : (q a b : ℕ) → (a < q) ⊎ (q ≤ a) → (b < q) ⊎ (q ≤ b) → param q a ≡ param q b → a ≡ b
one_by q a b (inl x) (inl y) e = ap (λ (w : Wire). w.number) (sym (param_low q a x) ∙ e ∙ param_low q b y)
one_by q a b (inl x) (inr y) e = let c : Q ≡ C = ap (λ (w : Wire). w.class) (sym (param_low q a x) ∙ e ∙ param_high q b y) in cc
one_by q a b (inr x) (inl y) e = let c : C ≡ Q = ap (λ (w : Wire). w.class) (sym (param_high q a x) ∙ e ∙ param_low q b y) in cc
one_by q a b (inr x) (inr y) e = let n : a - q ≡ b - q = ap (λ (w : Wire). w.number) (sym (param_high q a x) ∙ e ∙ param_high q b y) in omega arith

-- two parameter wires with one number are one
pub param_one : (q a b : ℕ) → param q a ≡ param q b → a ≡ b
param_one q a b e = one_by q a b (cases_lt a q) (cases_lt b q) e

same_by : (t u : Bool) → (t ≡ true → u ≡ true) → (u ≡ true → t ≡ true) → t ≡ u
same_by true u f g = sym (f refl)
same_by false true f g = g refl
same_by false false f g = refl

pub same_param : (q u v : ℕ) → nat_eq u v ≡ same_wire (param q v) (param q u)
same_param q u v =
    same_by (nat_eq u v) (same_wire (param q v) (param q u)) (λ e. subst (λ (x : ℕ). same_wire (param q v) (param q x) ≡ true) (sym (eqb-true u v e)) (same_wire-refl (param q v)))
    (λ e. eq-eqb u v (sym (param_one q v u (same_wire-true (param q v) (param q u) e))))

start_param : (k w : ℕ) → w < k → start_in 0 k w ≡ Some w
start_param k w h = ap (λ (t : Bool). if t then Some (0 + w) else None) (lt_true w k h) ∙ ap Some (omega arith)

pub zeros : (n p : ℕ) → p < n → slice_index (replicate n 0) p ≡ 0
zeros n p h = get_or-replicate n p 0 0 h

pub length_zeros : (n : ℕ) → length {A = ℕ} (replicate n 0) ≡ n
length_zeros zero = refl
length_zeros (suc n) = ap suc (length_zeros n)

pub last_size : (k : ℕ) (last : List ℕ) → last ≡ replicate (k + 0 + 1) 0 → length last ≡ k + 1
last_size k last e = ap length e ∙ length_zeros (k + 0 + 1) ∙ (let q : k + 0 + 1 ≡ k + 1 = omega arith in q)

some_number : (u w : ℕ) → Some w ≡ Some u → w ≡ u
some_number u w e = cc

-- the rows of parameter wires before any gate
pub stands_idle : (q k : ℕ) (rows : List (List Entry)) (last : List ℕ) → length rows ≡ k → ((w : ℕ) (s : Option ℕ) → w < k → look (row_at rows w) s ≡ begin (start_in 0 k w) s) → last ≡ replicate (k + 0 + 1) 0 →
    Stands [] (params_at q) rows last
stands_idle q k rows last size made none = record {
  apart = λ a b h l e. param_one q a b e;
  stars = λ w s h l.
      let hw : w < k = omega arith in
      made w s hw ∙ ap (λ (o : Option ℕ). begin o s) (start_param k w hw)
      ∙ begin_star (Some w) (params_at q) w s (λ u v e f. ap (λ (x : ℕ). nat_eq x v) (sym (some_number u w e)) ∙ same_param q w v) (λ v e f. cc);
  lasts = λ s h.
      let n = last_size k last none in
      let p : place s < k + 0 + 1 = omega arith in
      ap (λ (l : List ℕ). slice_index l (place s)) none ∙ zeros (k + 0 + 1) (place s) p;
}

pub apart_none : (w v : ℕ) → w < v → when (nat_eq w v) (Some 0) ≡ None
apart_none w v h = by (nat_eq w v) refl
  where
    by : (t : Bool) → nat_eq w v ≡ t → when t (Some 0) ≡ None
    by true e = let q : w ≡ v = eqb-true w v e in absurd (omega arith)
    by false e = refl

idle_none : (k : ℕ) (rows : List (List Entry)) (w : ℕ) (s : Option ℕ) → length rows ≡ k → ((w : ℕ) (s : Option ℕ) → w < k → look (row_at rows w) s ≡ begin (start_in 0 k w) s) → k + 1 ≤ place s → (w < k) ⊎ (k ≤ w) → look (row_at rows w) s ≡ None
idle_none k rows w None size made h c = absurd (omega arith)
idle_none k rows w (Some v) size made h (inl l) = made w (Some v) l ∙ ap (λ (o : Option ℕ). begin o (Some v)) (start_param k w l) ∙ apart_none w v (omega arith)
idle_none k rows w (Some v) size made h (inr l) = ap (λ (x : List Entry). look x (Some v)) (get_or_past rows w [] (omega arith))

pub bounded_idle : (k : ℕ) (rows : List (List Entry)) (last : List ℕ) → length rows ≡ k → ((w : ℕ) (s : Option ℕ) → w < k → look (row_at rows w) s ≡ begin (start_in 0 k w) s) → last ≡ replicate (k + 0 + 1) 0 → Bounded rows (length last)
bounded_idle k rows last size made blank = record {
  none = λ w s h. let n = last_size k last blank in idle_none k rows w s size made (omega arith) (cases_lt w k);
}

pub wires_weaker : (P R : Wire → Type 0) (gates : List Timed) → ((w : Wire) → P w → R w) → WiresAre P gates → WiresAre R gates
wires_weaker P R [] h a = tt
wires_weaker P R (g ∷ gates) h a = (λ w k. h w (a.0 w k), wires_weaker P R gates h a.1)

pub after_by : (q : ℕ) (wires : List ℕ) (own : Wire → Bool) (w : Wire) → IsRange wires → IsParam q (length wires) w ⊎ (own w ≡ true) → ((i : ℕ) × (i < length wires) × (w ≡ param q (slice_index wires i))) ⊎ (own w ≡ true)
after_by q wires own w range (inl p) = inl (p.0, p.1, p.2 ∙ ap (param q) (sym (range p.0 p.1)))
after_by q wires own w range (inr o) = inr o

-- one more turn is a call on the parameter wires
unfoldable pub placed_turns : (q n m : ℕ) (wires : List ℕ) (xs ys zs : List Timed) → n ≡ length wires → m ≡ length wires + 1 → IsRange wires → Follows q (length wires) xs ys zs → Placed xs ys (params_at q) n m q wires
placed_turns q n m wires xs ys zs en em range f = record {
  rename = f.rename;
  own = f.own;
  one_to_one = f.one_to_one;
  params = λ i h. f.params i h ∙ ap (param q) (sym (range i h));
  before = f.before;
  rows = λ w h. f.shared w (omega arith);
  starts = λ u h. f.shared u (omega arith);
  after = wires_weaker (λ w. IsParam q (length wires) w ⊎ (f.own w ≡ true)) (λ w. ((i : ℕ) × (i < length wires) × (w ≡ param q (slice_index wires i))) ⊎ (f.own w ≡ true)) (map (rename_timed f.rename) ys)
      (λ w. after_by q wires f.own w range) f.after;
}

passes_by : (xs ys : List Timed) (o : Option ℕ) → ((n : ℕ) → Weighs xs None None n → Weighs ys None None n) → Reached (Weighs xs None None) o → Passes o → Passes (best ys None None)
passes_by xs ys None f r h = absurd h
passes_by xs ys (Some n) f r h = passes_bound (best ys None None) n h ((greatest_weighs ys None None).bounds n (f n r))

pub passes_in : (xs ys : List Timed) → ((n : ℕ) → Weighs xs None None n → Weighs ys None None n) → Passes (best xs None None) → Passes (best ys None None)
passes_in xs ys f h = passes_by xs ys (best xs None None) f (greatest_weighs xs None None).reached h

-- a chain of fewer turns is one of more turns
pub passes_front : (q k a b : ℕ) (turns : ℕ → List Timed) → AreTurns q k turns → Passes (best (turns a) None None) → Passes (best (turns (a + b)) None None)
passes_front q k a b turns are h =
    let f = are.adds a b in
    subst (λ (gs : List Timed). Passes (best gs None None)) (sym f.is)
    (passes_in (turns a) (turns a ++ map (rename_timed f.rename) (turns b)) (in_first (turns a) (map (rename_timed f.rename) (turns b)) None None) h)

pub passes_back : (q k a b : ℕ) (turns : ℕ → List Timed) → AreTurns q k turns → Passes (best (turns b) None None) → Passes (best (turns (a + b)) None None)
passes_back q k a b turns are h =
    let f = are.adds a b in
    subst (λ (gs : List Timed). Passes (best gs None None)) (sym f.is)
    (passes_in (map (rename_timed f.rename) (turns b)) (turns a ++ map (rename_timed f.rename) (turns b)) (in_second (turns a) (map (rename_timed f.rename) (turns b)) None None)
    (subst (λ (o : Option ℕ). Passes o) (sym (best_renamed f.rename f.one_to_one (turns b) None None)) h))

-- the turns of a number of twice as many turns, and one more where it is odd
pub even_turns : (a b n h : ℕ) → n ≡ h + h → a + h * (b + b) ≡ a + n * b
even_turns a b n h e = ap (λ (x : ℕ). a + x) (mul-add h b b ∙ sym (add-mul h h b) ∙ ap (λ (x : ℕ). x * b) (sym e))

pub odd_turns : (a b n h : ℕ) → n ≡ 1 + (h + h) → (a + b) + h * (b + b) ≡ a + n * b
odd_turns a b n h e =
    let x : h * (b + b) ≡ (h + h) * b = mul-add h b b ∙ sym (add-mul h h b) in
    let y : n * b ≡ 1 * b + (h + h) * b = ap (λ (z : ℕ). z * b) e ∙ add-mul 1 (h + h) b in
    let z : 1 * b ≡ b = omega arith in
    omega arith

range_by : (now : List ℕ) (k i : ℕ) → IsRange now → length now ≡ k → (i < length now) ⊎ (length now ≤ i) → i < k + 1 → slice_index (now ++ k ∷ []) i ≡ i
range_by now k i r l (inl c) h = left now i c ∙ r i c
  where
    left : (xs : List ℕ) (i : ℕ) → i < length xs → slice_index (xs ++ k ∷ []) i ≡ slice_index xs i
    left [] i c = absurd (omega arith)
    left (x ∷ xs) zero c = refl
    left (x ∷ xs) (suc i) c = left xs i (omega arith)
range_by now k i r l (inr c) h = let e : i ≡ length now = omega arith in last now i e ∙ sym (e ∙ l)
  where
    last : (xs : List ℕ) (i : ℕ) → i ≡ length xs → slice_index (xs ++ k ∷ []) i ≡ k
    last [] zero e = refl
    last [] (suc i) e = absurd (omega arith)
    last (x ∷ xs) zero e = absurd (omega arith)
    last (x ∷ xs) (suc i) e = last xs i (omega arith)

-- one more number
pub range_more : (now : List ℕ) (k : ℕ) → IsRange now → length now ≡ k → IsRange (now ++ k ∷ [])
range_more now k r l = λ i h. range_by now k i r l (cases_lt i (length now)) (let a = length-append now (k ∷ []) in omega arith)
