-- A row of a callee's table, entry by entry.
use Rattle.std.proofs.Common.{◌≡◌, ℕ, suc, ◌+◌, ◌<◌, ◌≤◌, List, [], ◌∷◌, map, length, Bool, true, false, Option, Some, None, ◌⊎◌, inl, inr, refl, sym, ap, ◌∙◌, arith}
use Rattle.std.specs.Prelude.{max, slice_index}
use Rattle.std.proofs.lemmas.Bool.{cases_lt}
use Rattle.sc_gate.specs.declared.gate.Wire.{Wire}
use Rattle.sc_gate.specs.Chains.{Greatest, Reached, Bounds, more, plus, when, over}
use Rattle.sc_gate.specs.Wires.{member}
use Rattle.sc_gate.proofs.Greatest.{Above, greatest_none, greatest_either, SumOf, greatest_sum, greatest_one, AtSome, greatest_over, greatest_unique, greatest_back}
use Rattle.sc_gate.proofs.Weighs.{at_some_from, at_some_wire}
use Rattle.sc_gate.proofs.WireLemmas.{member_cases}
use Rattle.sc_path.specs.declared.row.Entry.{Entry}
use Rattle.sc_path.specs.Rows.{same_start, look}
use Rattle.sc_path.specs.Fronts.{called}
use Rattle.sc_path.proofs.Rows.{same_start-refl, same_start-true}
use Rattle.sc_path.proofs.FrontRows.{in_get}
use Rattle.sc_path.proofs.Gate.{member_in}

abbrev pub Is : Option ℕ → ℕ → Type 0
Is o n = o ≡ Some n

is_reached : (o : Option ℕ) → Reached (Is o) o
is_reached None = tt
is_reached (Some n) = refl

is_bounds : (o : Option ℕ) (m : ℕ) → o ≡ Some m → Bounds o m
is_bounds None m h = cc
is_bounds (Some n) m h = let e : n ≡ m = cc in let l : m ≤ n = omega arith in l

pub greatest_is : (o : Option ℕ) → Greatest (Is o) o
greatest_is o = record { reached = is_reached o; bounds = is_bounds o }

abbrev pub CalledBy : (Option ℕ → Option ℕ) → List Entry → ℕ → Type 0
CalledBy F [] n = ⊥
CalledBy F (e ∷ es) n = SumOf (λ k. k ≡ e.weight) (Is (F e.start)) n ⊎ CalledBy F es n

greatest_called : (F : Option ℕ → Option ℕ) (es : List Entry) → Greatest (CalledBy F es) (called F es)
greatest_called F [] = greatest_none (CalledBy F []) (λ m h. h)
greatest_called F (e ∷ es) = greatest_either (SumOf (λ k. k ≡ e.weight) (Is (F e.start))) (CalledBy F es) (plus (Some e.weight) (F e.start)) (called F es)
    (greatest_sum (λ k. k ≡ e.weight) (Is (F e.start)) (Some e.weight) (F e.start) (greatest_one e.weight) (greatest_is (F e.start))) (greatest_called F es)

max_by : (a b : ℕ) → (a < b) ⊎ (b ≤ a) → (max a b ≡ a) ⊎ (max a b ≡ b)
max_by a b (inl h) = inr (omega arith)
max_by a b (inr h) = inl (omega arith)

max_cases : (a b : ℕ) → (max a b ≡ a) ⊎ (max a b ≡ b)
max_cases a b = max_by a b (cases_lt a b)

more_by : (w b c : ℕ) → max w c ≡ b → (max w c ≡ w) ⊎ (max w c ≡ c) → (b ≡ w) ⊎ (Some c ≡ Some b)
more_by w b c e (inl h) = inl (sym e ∙ h)
more_by w b c e (inr h) = inr (ap Some (sym h ∙ e))

more_cases : (w b : ℕ) (o : Option ℕ) → more (Some w) o ≡ Some b → (b ≡ w) ⊎ (o ≡ Some b)
more_cases w b None h = let e : w ≡ b = cc in inl (sym e)
more_cases w b (Some c) h = let e : max w c ≡ b = cc in more_by w b c e (max_cases w c)

entry_case : (F : Option ℕ → Option ℕ) (e : Entry) (es : List Entry) (t : Option ℕ) (a b n : ℕ) → e.start ≡ t → (look es t ≡ Some b → CalledBy F es n) → F t ≡ Some a → n ≡ b + a → (b ≡ e.weight) ⊎ (look es t ≡ Some b) → CalledBy F (e ∷ es) n
entry_case F e es t a b n q ih f k (inl h) = inl (b, a, h, ap F q ∙ f, k)
entry_case F e es t a b n q ih f k (inr h) = inr (ih h)

-- an entry of the weight that is looked up
entry_by : (F : Option ℕ → Option ℕ) (e : Entry) (es : List Entry) (t : Option ℕ) (a b n : ℕ) (u : Bool) → same_start e.start t ≡ u → (look es t ≡ Some b → CalledBy F es n) →
    more (when u (Some e.weight)) (look es t) ≡ Some b → F t ≡ Some a → n ≡ b + a → CalledBy F (e ∷ es) n
entry_by F e es t a b n true q ih h f k = entry_case F e es t a b n (same_start-true e.start t q) ih f k (more_cases e.weight b (look es t) h)
entry_by F e es t a b n false q ih h f k = inr (ih h)

look_entry : (F : Option ℕ → Option ℕ) (es : List Entry) (t : Option ℕ) (a b n : ℕ) → look es t ≡ Some b → F t ≡ Some a → n ≡ b + a → CalledBy F es n
look_entry F [] t a b n h f k = cc
look_entry F (e ∷ es) t a b n h f k = entry_by F e es t a b n (same_start e.start t) refl (λ q. look_entry F es t a b n q f k) h f k

-- the look-up that is no less than an entry
record Looked (F : Option ℕ → Option ℕ) (es : List Entry) (n : ℕ) : Type 0 where
  pub start : Option ℕ
  pub weight : ℕ
  pub before : ℕ
  pub looks : look es start ≡ Some weight
  pub comes : F start ≡ Some before
  pub above : n ≤ weight + before

looked_here : (F : Option ℕ → Option ℕ) (e : Entry) (es : List Entry) (n w a : ℕ) (o : Option ℕ) → w ≡ e.weight → F e.start ≡ Some a → n ≡ w + a → look es e.start ≡ o → Looked F (e ∷ es) n
looked_here F e es n w a None q f k h = record {
  start = e.start;
  weight = e.weight;
  before = a;
  looks = ap (λ (u : Bool). more (when u (Some e.weight)) (look es e.start)) (same_start-refl e.start) ∙ ap (more (Some e.weight)) h;
  comes = f;
  above = (let l : n ≤ e.weight + a = omega arith in l);
}
looked_here F e es n w a (Some c) q f k h = record {
  start = e.start;
  weight = max e.weight c;
  before = a;
  looks = ap (λ (u : Bool). more (when u (Some e.weight)) (look es e.start)) (same_start-refl e.start) ∙ ap (more (Some e.weight)) h;
  comes = f;
  above = (let l : n ≤ max e.weight c + a = omega arith in l);
}

looked_by : (F : Option ℕ → Option ℕ) (e : Entry) (es : List Entry) (n : ℕ) (l : Looked F es n) (u : Bool) → same_start e.start l.start ≡ u → Looked F (e ∷ es) n
looked_by F e es n l true q = record {
  start = l.start;
  weight = max e.weight l.weight;
  before = l.before;
  looks = ap (λ (u : Bool). more (when u (Some e.weight)) (look es l.start)) q ∙ ap (more (Some e.weight)) l.looks;
  comes = l.comes;
  above = (let h : n ≤ l.weight + l.before = l.above in let k : n ≤ max e.weight l.weight + l.before = omega arith in k);
}
looked_by F e es n l false q = record {
  start = l.start;
  weight = l.weight;
  before = l.before;
  looks = ap (λ (u : Bool). more (when u (Some e.weight)) (look es l.start)) q ∙ l.looks;
  comes = l.comes;
  above = l.above;
}

looked_of : (F : Option ℕ → Option ℕ) (es : List Entry) (n : ℕ) → CalledBy F es n → Looked F es n
looked_of F [] n h = absurd h
looked_of F (e ∷ es) n (inl s) = looked_here F e es n s.0 s.1 (look es e.start) s.2 s.3 s.4 refl
looked_of F (e ∷ es) n (inr h) = let l = looked_of F es n h in looked_by F e es n l (same_start e.start l.start) refl

-- a row of the callee's table, with what stands before the call
pub record RowOf (F : Option ℕ → Option ℕ) (es : List Entry) (at : ℕ → Wire) (ws : List ℕ) (A B : Option ℕ) (S T : Wire → Option ℕ) : Type 0 where
  pub first : F None ≡ A
  pub none : look es None ≡ B
  pub starts : (i : ℕ) → i < length ws → F (Some i) ≡ S (at (slice_index ws i))
  pub wires : (i : ℕ) → i < length ws → look es (Some i) ≡ T (at (slice_index ws i))
  pub past : (i : ℕ) → length ws ≤ i → look es (Some i) ≡ None

abbrev Terms : (ℕ → Wire) → List ℕ → Option ℕ → Option ℕ → (Wire → Option ℕ) → (Wire → Option ℕ) → ℕ → Type 0
Terms at ws A B S T n = SumOf (Is A) (Is B) n ⊎ AtSome (map at ws) (λ v. SumOf (Is (S v)) (Is (T v))) n

index_by : (at : ℕ → Wire) (v : Wire) (x : ℕ) (ws : List ℕ) → (member v (map at ws) ≡ true → (i : ℕ) × (i < length ws) × (at (slice_index ws i) ≡ v)) → (at x ≡ v) ⊎ (member v (map at ws) ≡ true) → (i : ℕ) × (i < suc (length ws)) × (at (slice_index (x ∷ ws) i) ≡ v)
index_by at v x ws f (inl e) = (0, omega arith, e)
index_by at v x ws f (inr h) = let r = f h in let l : r.0 < length ws = r.1 in (suc r.0, omega arith, r.2)

pub index_of : (at : ℕ → Wire) (v : Wire) (ws : List ℕ) → member v (map at ws) ≡ true → (i : ℕ) × (i < length ws) × (at (slice_index ws i) ≡ v)
index_of at v [] h = cc
index_of at v (x ∷ ws) h = index_by at v x ws (index_of at v ws) (member_cases (at x) v (map at ws) h)

term_called : (F : Option ℕ → Option ℕ) (es : List Entry) (at : ℕ → Wire) (ws : List ℕ) (A B : Option ℕ) (S T : Wire → Option ℕ) → RowOf F es at ws A B S T → (n : ℕ) → Terms at ws A B S T n → CalledBy F es n
term_called F es at ws A B S T r n (inl s) =
    let e : n ≡ s.0 + s.1 = s.4 in
    look_entry F es None s.0 s.1 n (r.none ∙ s.3) (r.first ∙ s.2) (let k : n ≡ s.1 + s.0 = omega arith in k)
term_called F es at ws A B S T r n (inr h) =
    let a = at_some_wire (λ v. SumOf (Is (S v)) (Is (T v))) (map at ws) n h in
    let s = a.2 in
    let i = index_of at a.0 ws a.1 in
    let e : n ≡ s.0 + s.1 = s.4 in
    look_entry F es (Some i.0) s.0 s.1 n (r.wires i.0 i.1 ∙ ap T i.2 ∙ s.3) (r.starts i.0 i.1 ∙ ap S i.2 ∙ s.2) (let k : n ≡ s.1 + s.0 = omega arith in k)

some_called : (F : Option ℕ → Option ℕ) (es : List Entry) (at : ℕ → Wire) (ws : List ℕ) (A B : Option ℕ) (S T : Wire → Option ℕ) → RowOf F es at ws A B S T → (n i w a : ℕ) → look es (Some i) ≡ Some w → F (Some i) ≡ Some a → n ≤ w + a → (i < length ws) ⊎ (length ws ≤ i) → Above (Terms at ws A B S T) n
some_called F es at ws A B S T r n i w a l f k (inl h) =
    record {
      number = a + w;
      holds = inr (at_some_from (λ v. SumOf (Is (S v)) (Is (T v))) (map at ws) (a + w) (at (slice_index ws i)) (member_in at ws (slice_index ws i) (in_get ws i 0 h)) (a, w, sym (r.starts i h) ∙ f, sym (r.wires i h) ∙ l, refl));
      above = (let h : n ≤ a + w = omega arith in h);
    }
some_called F es at ws A B S T r n i w a l f k (inr c) = let e : look es (Some i) ≡ None = r.past i c in cc

called_term : (F : Option ℕ → Option ℕ) (es : List Entry) (at : ℕ → Wire) (ws : List ℕ) (A B : Option ℕ) (S T : Wire → Option ℕ) → RowOf F es at ws A B S T → (n : ℕ) (t : Option ℕ) (w a : ℕ) → look es t ≡ Some w → F t ≡ Some a → n ≤ w + a → Above (Terms at ws A B S T) n
called_term F es at ws A B S T r n None w a l f k = record { number = a + w; holds = inl (a, w, sym r.first ∙ f, sym r.none ∙ l, refl); above = (let h : n ≤ a + w = omega arith in h) }
called_term F es at ws A B S T r n (Some i) w a l f k = some_called F es at ws A B S T r n i w a l f k (cases_lt i (length ws))

called_above : (F : Option ℕ → Option ℕ) (es : List Entry) (at : ℕ → Wire) (ws : List ℕ) (A B : Option ℕ) (S T : Wire → Option ℕ) → RowOf F es at ws A B S T → (n : ℕ) → CalledBy F es n → Above (Terms at ws A B S T) n
called_above F es at ws A B S T r n h =
    let l = looked_of F es n h in
    called_term F es at ws A B S T r n l.start l.weight l.before l.looks l.comes l.above

-- the entries of the row give the terms of the call law
pub called_is : (F : Option ℕ → Option ℕ) (es : List Entry) (at : ℕ → Wire) (ws : List ℕ) (A B : Option ℕ) (S T : Wire → Option ℕ) → RowOf F es at ws A B S T → called F es ≡ more (plus A B) (over (map at ws) (λ v. plus (S v) (T v)))
called_is F es at ws A B S T r =
    greatest_unique (Terms at ws A B S T) (called F es) (more (plus A B) (over (map at ws) (λ v. plus (S v) (T v))))
    (greatest_back (Terms at ws A B S T) (CalledBy F es) (called F es) (term_called F es at ws A B S T r) (called_above F es at ws A B S T r) (greatest_called F es))
    (greatest_either (SumOf (Is A) (Is B)) (AtSome (map at ws) (λ v. SumOf (Is (S v)) (Is (T v)))) (plus A B) (over (map at ws) (λ v. plus (S v) (T v)))
    (greatest_sum (Is A) (Is B) A B (greatest_is A) (greatest_is B))
    (greatest_over (λ v. SumOf (Is (S v)) (Is (T v))) (λ v. plus (S v) (T v)) (λ v. greatest_sum (Is (S v)) (Is (T v)) (S v) (T v) (greatest_is (S v)) (greatest_is (T v))) (map at ws)))
