-- The other operations.
use Rattle.std.proofs.Common.{◌≡◌, ℕ, zero, suc, ◌+◌, ◌-◌, ◌*◌, ◌/◌, ◌%◌, ◌^◌, ◌<◌, ◌≤◌, ◌≢◌, ◌⊎◌, inl, inr, Bool, true, false, not, ◌&&◌, nat_eq, List, [], ◌∷◌, ◌++◌, length, map, take, drop, min, if◌then◌else◌, refl, sym, ap, ◌∙◌, arith, length-append}
use Rattle.std.proofs.Math.Nat.{zero-add, add-zero, zero-mul, mul-zero, mul-one, mul_left_comm, mul-add, mul_assoc, add-mod}
use Rattle.std.proofs.lemmas.Bool.Decides.{nat_tests, eqb_tells}
use mathlib.Core.Path.{fun_ext}
use Rattle.sc_rev.proofs.Shifts.{map_append, map_take, map_drop, every_take, every_drop, take_length, drop_length, number_take, number_drop, number_zeros, number_append, cases_le, zero_mod, shl_small, shl_value, drop_min}
use Rattle.sc_rev.specs.declared.bit_gate.BitGate.TheVariants.{X, Cnot, Toffoli}
use Rattle.sc_gate.specs.Runs.{xor, bit, number}
use Rattle.sc_rev.specs.Cells.{wires_from, each, and_cell, same_cell}
use Rattle.sc_rev.specs.Circuits.{Circuit, joined, each_piece, add_piece, equal_piece, all_piece, chain_rest, literal_gates, literal_piece, pick_gates, pick_piece, left_piece, right_piece, ext_piece, low_piece, part_piece, mul_rest, mul_piece}
use Rattle.sc_word.specs.Value.{picked}
use Rattle.sc_rev.proofs.Run.{Wires, choose, flip, step, run, flip_else, flip_at_target, run_append, Every, every_append, map_keeps, map_flip, Held, Placed, run_keeps, from_before}
use Rattle.sc_rev.proofs.Fill.{fill, fill_keeps, pairs, each_fills, and_is, xor_is, same_is, flip_both, fill_flip, apart_from}
use Rattle.sc_rev.proofs.Number.{twice}
use Rattle.sc_rev.proofs.Makes.{bits_length, Zero, Makes, Operands, held_below, held_later, fresh_held, fresh_length, word_keeps, zero_after, joined_makes, cnot_placed, x_placed, same_lengths, filled_word, each_word, each_places, pairs_length, each_makes, same_places, and_places}
use Rattle.sc_rev.proofs.Words.{bit_number, same_value, add_makes, binary_makes}

-- Literals.
abbrev pub literal_bits : ℕ → ℕ → List Bool
literal_bits zero v = []
literal_bits (suc w) v = nat_eq (v % 2) 1 ∷ literal_bits w (v / 2)

choose_same : (c x : Bool) → choose c (xor x false) x ≡ x
choose_same true true = refl
choose_same true false = refl
choose_same false x = refl

flip_none : (t : ℕ) (s : Wires) → flip t false s ≡ s
unfolding flip
flip_none t s = fun_ext (λ w. choose_same (nat_eq w t) (s w))

literal_one : (b : Bool) (t : ℕ) (s : Wires) → run (if b then X t ∷ [] else []) s ≡ flip t b s
literal_one true t s = refl
literal_one false t s = sym (flip_none t s)

literal_fill : (w v t : ℕ) (s : Wires) → run (literal_gates w v t) s ≡ fill t (literal_bits w v) s
literal_fill zero v t s = refl
literal_fill (suc w) v t s =
    let b : Bool = nat_eq (v % 2) 1 in
    run_append (if b then X t ∷ [] else []) (literal_gates w (v / 2) (suc t)) s ∙ ap (run (literal_gates w (v / 2) (suc t))) (literal_one b t s) ∙ literal_fill w (v / 2) (suc t) (flip t b s)

literal_length : (w v : ℕ) → length (literal_bits w v) ≡ w
literal_length zero v = refl
literal_length (suc w) v = ap suc (literal_length w (v / 2))

one_places : (b : Bool) (lo hi n m t : ℕ) → n ≤ t → t < m → Every (Placed lo hi n m) (if b then X t ∷ [] else [])
one_places true lo hi n m t h l = (x_placed lo hi n m t h l, tt)
one_places false lo hi n m t h l = tt

literal_places : (w v lo hi n m t : ℕ) → n ≤ t → t + w ≤ m → Every (Placed lo hi n m) (literal_gates w v t)
literal_places zero v lo hi n m t h l = tt
literal_places (suc w) v lo hi n m t h l = every_append (Placed lo hi n m) (if nat_eq (v % 2) 1 then X t ∷ [] else []) (literal_gates w (v / 2) (suc t)) (one_places (nat_eq (v % 2) 1) lo hi n m t h (omega arith)) (literal_places w (v / 2) lo hi n m (suc t) (omega arith) (omega arith))

bit_one_by : (r : ℕ) → r < 2 → ((nat_eq r 1 ≡ true) × (r ≡ 1)) ⊎ ((nat_eq r 1 ≡ false) × (r ≢ 1)) → bit (nat_eq r 1) ≡ r
bit_one_by r h (inl e) = ap bit e.0 ∙ sym e.1
bit_one_by r h (inr e) = ap bit e.0 ∙ (let d : r ≢ 1 = e.1 in omega arith)

literal_number : (w v : ℕ) → v < 2 ^ w → number (literal_bits w v) ≡ v
literal_number zero v h = omega arith
literal_number (suc w) v h =
    let r : bit (nat_eq (v % 2) 1) ≡ v % 2 = bit_one_by (v % 2) (omega arith) (eqb_tells (v % 2) 1) in
    let q : v / 2 < 2 ^ w = omega (arith, twice w) in
    omega (arith, literal_number w (v / 2) q)

pub literal_makes : (lo hi n w v : ℕ) (s : Wires) → hi ≤ n → v < 2 ^ w → Zero n s → Makes lo hi n s (literal_piece w v n) w v
literal_makes lo hi n w v s h l z = record {
  grows = omega arith;
  places = literal_places w v lo hi n (n + w) n (omega arith) (omega arith);
  held = fresh_held lo hi n w (n + w) h (omega arith);
  width = fresh_length n w;
  value = ap (λ (f : Wires). number (map f (wires_from n w))) (literal_fill w v n s) ∙ ap number (filled_word n w (literal_bits w v) s z (literal_length w v)) ∙ literal_number w v l;
}

-- Equality.
abbrev pub all_true : List Bool → Bool
all_true [] = true
all_true (b ∷ bs) = b && all_true bs

and_assoc : (a b c : Bool) → ((a && b) && c) ≡ (a && (b && c))
and_assoc true b c = refl
and_assoc false b c = refl

and_true : (a : Bool) → a ≡ (a && true)
and_true true = refl
and_true false = refl

chain_rest_last : (n : ℕ) (ds : List ℕ) → Every (λ w. w < n) ds → (g : ℕ) (s : Wires) → n ≤ g → ((w : ℕ) → g < w → s w ≡ false) → run (chain_rest ds g) s (g + length ds) ≡ (s g && all_true (map s ds))
chain_rest_last n [] p g s h z = let e : g + 0 ≡ g = omega arith in ap s e ∙ (and_true (s g))
chain_rest_last n (d ∷ ds) p g s h z =
    let v : Bool = s g && s d in
    let s' : Wires = flip (suc g) v s in
    let e : g + suc (length ds) ≡ suc g + length ds = omega arith in
    let a : s' (suc g) ≡ v = flip_at_target (suc g) v s ∙ ap (λ x. xor x v) (z (suc g) (omega arith)) in
    let b : map s' ds ≡ map s ds = map_flip (suc g) v s ds (apart_from n (suc g) (omega arith) ds p.1) in
    ap (run (chain_rest ds (suc g)) s') e
    ∙ chain_rest_last n ds p.1 (suc g) s' (omega arith) (λ w l. flip_else (suc g) v s w (λ q. absurd (omega arith)) ∙ z w (omega arith))
    ∙ ap (λ x. x && all_true (map s' ds)) a ∙ ap (λ x. v && all_true x) b ∙ and_assoc (s g) (s d) (all_true (map s ds))

chain_rest_places : (lo hi n m : ℕ) (ds : List ℕ) → Every (Held lo hi n) ds → (g : ℕ) → hi ≤ n → n ≤ g → g + length ds < m → Every (Placed lo hi n m) (chain_rest ds g)
chain_rest_places lo hi n m [] p g h l k = tt
chain_rest_places lo hi n m (d ∷ ds) p g h l k = (
  record { above = omega arith; below = omega arith; controls = (record { held = record { off = inr (omega arith); below = omega arith }; apart = λ q. absurd (omega arith) }, record { held = record { off = p.0.off; below = omega (arith, p.0.below) }; apart = λ q. absurd (omega (arith, p.0.below)) }); differ = λ q. absurd (omega (arith, p.0.below)) },
  chain_rest_places lo hi n m ds p.1 (suc g) h (omega arith) (omega arith),
)

pub all_makes : (lo hi n : ℕ) (ds : List ℕ) (j : ℕ) (s : Wires) → hi ≤ n → Every (Held lo hi n) ds → length ds ≡ suc j → Zero n s → Makes lo hi n s (all_piece ds n) 1 (bit (all_true (map s ds)))
all_makes lo hi n [] j s h p e z = absurd (omega arith)
all_makes lo hi n (d ∷ ds) j s h p e z =
    let s' : Wires = flip n (s d) s in
    let at : n + length (d ∷ ds) - 1 ≡ n + length ds = omega arith in
    let a : s' n ≡ s d = flip_at_target n (s d) s ∙ ap (λ x. xor x (s d)) (z.zeros n (omega arith)) in
    let b : map s' ds ≡ map s ds = map_flip n (s d) s ds (apart_from n n (omega arith) ds (held_below lo hi n ds p.1)) in
    let last : run (chain_rest ds n) s' (n + length ds) ≡ (s d && all_true (map s ds)) =
    chain_rest_last n ds (held_below lo hi n ds p.1) n s' (omega arith) (λ w l. flip_else n (s d) s w (λ q. absurd (omega arith)) ∙ z.zeros w (omega arith)) ∙ ap (λ x. x && all_true (map s' ds)) a ∙ ap (λ x. s d && all_true x) b in
    record {
      grows = omega arith;
      places = (cnot_placed lo hi n (n + length (d ∷ ds)) d n p.0 (omega arith) (omega arith), chain_rest_places lo hi n (n + length (d ∷ ds)) ds p.1 n h (omega arith) (omega arith));
      held = (record { off = inr (omega arith); below = omega arith }, tt);
      width = refl;
      value = ap (λ k. number (run (chain_rest ds n) s' k ∷ [])) at ∙ ap (λ x. number (x ∷ [])) last ∙ bit_number (s d && all_true (map s ds));
    }

same_bits : (x y : Bool) (p q : ℕ) → (not (xor x y) && nat_eq p q) ≡ nat_eq (bit x + 2 * p) (bit y + 2 * q)
same_bits true true p q = grind (arith, nat_tests)
same_bits true false p q = grind (arith, nat_tests)
same_bits false true p q = grind (arith, nat_tests)
same_bits false false p q = grind (arith, nat_tests)

number_same : (xs ys : List Bool) → length xs ≡ length ys → all_true (pairs (λ x y. not (xor x y)) xs ys) ≡ nat_eq (number xs) (number ys)
number_same [] [] h = refl
number_same [] (y ∷ ys) h = absurd (omega arith)
number_same (x ∷ xs) [] h = absurd (omega arith)
number_same (x ∷ xs) (y ∷ ys) h = ap (λ b. not (xor x y) && b) (number_same xs ys (omega arith)) ∙ same_bits x y (number xs) (number ys)

pub equal_makes : (lo hi n : ℕ) (es fs : List ℕ) (j : ℕ) (s : Wires) → Operands lo hi n es fs (suc j) → Zero n s
    → Makes lo hi n s (equal_piece es fs n) 1 (bit (nat_eq (number (map s es)) (number (map s fs))))
equal_makes lo hi n es fs j s o z =
    let a : Circuit = each_piece same_cell es fs n in
    let m : Makes lo hi n s a (suc j) (number (pairs (λ x y. not (xor x y)) (map s es) (map s fs))) = each_makes same_cell (λ x y. not (xor x y)) same_is same_places lo hi n es fs (suc j) s o z in
    let s1 : Wires = run a.gates s in
    let w : map s1 a.word ≡ pairs (λ x y. not (xor x y)) (map s es) (map s fs) = each_word same_cell (λ x y. not (xor x y)) same_is lo hi n es fs (suc j) s o z in
    let k : Makes lo hi a.next s1 (all_piece a.word a.next) 1 (bit (all_true (map s1 a.word))) = all_makes lo hi a.next a.word j s1 (omega (arith, o.output)) m.held m.width (zero_after lo hi n a.next a.gates s m.grows m.places z) in
    joined_makes lo hi n s a (all_piece a.word a.next) (suc j) _ 1 _ m
    (same_value lo hi a.next s1 (all_piece a.word a.next) 1 _ _ (ap (λ l. bit (all_true l)) w ∙ ap bit (number_same (map s es) (map s fs) (same_lengths es fs (suc j) s o.left_width o.right_width))) k)

-- A choice.
abbrev pub sel : Bool → Bool → Bool → Bool
sel b x y = xor y (b && xor x y)

pick_row : (e f g d t : ℕ) (s : Wires) → e < d → f < d → g < d → d < t → s d ≡ false
    → run (Cnot f d ∷ Cnot g d ∷ Cnot g t ∷ Toffoli e d t ∷ []) s ≡ flip t (sel (s e) (s f) (s g)) (flip d (xor (s f) (s g)) s)
pick_row e f g d t s p q r h z =
    let v : Bool = xor (s f) (s g) in
    let m : Wires = flip d v s in
    let a : m g ≡ s g = flip_else d v s g (λ x. absurd (omega arith)) in
    let b : flip t (s g) m e ≡ s e = flip_else t (s g) m e (λ x. absurd (omega arith)) ∙ flip_else d v s e (λ x. absurd (omega arith)) in
    let c : flip t (s g) m d ≡ v = flip_else t (s g) m d (λ x. absurd (omega arith)) ∙ flip_at_target d v s ∙ ap (λ x. xor x v) z in
    ap (run (Cnot g t ∷ Toffoli e d t ∷ [])) (xor_is.flips f g d s (λ x. absurd (omega arith)) (λ x. absurd (omega arith)))
    ∙ ap (λ x. step (Toffoli e d t) (flip t x m)) a
    ∙ ap (λ x. flip t (x && flip t (s g) m d) (flip t (s g) m)) b
    ∙ ap (λ x. flip t (s e && x) (flip t (s g) m)) c
    ∙ flip_both t (s e && v) (s g) m

pick_fill : (n e : ℕ) (fs gs : List ℕ) → e < n → Every (λ w. w < n) fs → Every (λ w. w < n) gs → (d t : ℕ) (s : Wires) → n ≤ d → d + length fs ≤ t → ((w : ℕ) → d ≤ w → w < d + length fs → s w ≡ false)
    → run (pick_gates e fs gs d t) s ≡ fill t (pairs (sel (s e)) (map s fs) (map s gs)) (fill d (pairs xor (map s fs) (map s gs)) s)
pick_fill n e [] gs h p q d t s l k z = refl
pick_fill n e (f ∷ fs) [] h p q d t s l k z = refl
pick_fill n e (f ∷ fs) (g ∷ gs) h p q d t s l k z =
    let v : Bool = xor (s f) (s g) in
    let u : Bool = sel (s e) (s f) (s g) in
    let s1 : Wires = flip d v s in
    let s2 : Wires = flip t u s1 in
    let ee : s2 e ≡ s e = flip_else t u s1 e (λ x. absurd (omega arith)) ∙ flip_else d v s e (λ x. absurd (omega arith)) in
    let mf : map s2 fs ≡ map s fs = map_flip t u s1 fs (apart_from n t (omega arith) fs p.1) ∙ map_flip d v s fs (apart_from n d l fs p.1) in
    let mg : map s2 gs ≡ map s gs = map_flip t u s1 gs (apart_from n t (omega arith) gs q.1) ∙ map_flip d v s gs (apart_from n d l gs q.1) in
    ap (run (pick_gates e fs gs (suc d) (suc t))) (pick_row e f g d t s (omega arith) (omega (arith, p.0)) (omega (arith, q.0)) (omega arith) (z d (omega arith) (omega arith)))
    ∙ pick_fill n e fs gs h p.1 q.1 (suc d) (suc t) s2 (omega arith) (omega arith) (λ w a b. flip_else t u s1 w (λ x. absurd (omega arith)) ∙ flip_else d v s w (λ x. absurd (omega arith)) ∙ z w (omega arith) (omega arith))
    ∙ ap (λ x. fill (suc t) (pairs (sel x) (map s2 fs) (map s2 gs)) (fill (suc d) (pairs xor (map s2 fs) (map s2 gs)) s2)) ee
    ∙ ap (λ x. fill (suc t) (pairs (sel (s e)) x (map s2 gs)) (fill (suc d) (pairs xor x (map s2 gs)) s2)) mf
    ∙ ap (λ x. fill (suc t) (pairs (sel (s e)) (map s fs) x) (fill (suc d) (pairs xor (map s fs) x) s2)) mg
    ∙ ap (fill (suc t) (pairs (sel (s e)) (map s fs) (map s gs))) (fill_flip (suc d) t (pairs xor (map s fs) (map s gs)) u s1)

pick_places : (lo hi n m e : ℕ) (fs gs : List ℕ) → Held lo hi n e → Every (Held lo hi n) fs → Every (Held lo hi n) gs → (d t : ℕ) → hi ≤ n → n ≤ d → d + length fs ≤ t → t + length fs ≤ m → Every (Placed lo hi n m) (pick_gates e fs gs d t)
pick_places lo hi n m e [] gs h p q d t i j k l = tt
pick_places lo hi n m e (f ∷ fs) [] h p q d t i j k l = tt
pick_places lo hi n m e (f ∷ fs) (g ∷ gs) h p q d t i j k l = (
  cnot_placed lo hi n m f d p.0 j (omega arith),
  (
    cnot_placed lo hi n m g d q.0 j (omega arith),
    (
      cnot_placed lo hi n m g t q.0 (omega arith) (omega arith),
      (
        record { above = omega arith; below = omega arith; controls = (record { held = record { off = h.off; below = omega (arith, h.below) }; apart = λ x. absurd (omega (arith, h.below)) }, record { held = record { off = inr (omega arith); below = omega arith }; apart = λ x. absurd (omega arith) }); differ = λ x. absurd (omega (arith, h.below)) },
        pick_places lo hi n m e fs gs h p.1 q.1 (suc d) (suc t) i (omega arith) (omega arith) (omega arith),
      ),
    ),
  ),
)

sel_true : (x y : Bool) → sel true x y ≡ x
sel_true true true = refl
sel_true true false = refl
sel_true false true = refl
sel_true false false = refl

sel_false : (x y : Bool) → sel false x y ≡ y
sel_false x true = refl
sel_false x false = refl

number_sel : (b : Bool) (xs ys : List Bool) → length xs ≡ length ys → number (pairs (sel b) xs ys) ≡ picked (bit b) (number xs) (number ys)
number_sel true [] [] h = refl
number_sel false [] [] h = refl
number_sel b [] (y ∷ ys) h = absurd (omega arith)
number_sel b (x ∷ xs) [] h = absurd (omega arith)
number_sel true (x ∷ xs) (y ∷ ys) h = ap (λ r. bit r + 2 * number (pairs (sel true) xs ys)) (sel_true x y) ∙ ap (λ r. bit x + 2 * r) (number_sel true xs ys (omega arith))
number_sel false (x ∷ xs) (y ∷ ys) h = ap (λ r. bit r + 2 * number (pairs (sel false) xs ys)) (sel_false x y) ∙ ap (λ r. bit y + 2 * r) (number_sel false xs ys (omega arith))

pub pick_makes : (lo hi n e : ℕ) (fs gs : List ℕ) (w : ℕ) (s : Wires) → Held lo hi n e → Operands lo hi n fs gs w → Zero n s
    → Makes lo hi n s (pick_piece e fs gs n) w (picked (bit (s e)) (number (map s fs)) (number (map s gs)))
pick_makes lo hi n e fs gs w s h o z =
    let v : ℕ = length fs in
    let same : length (map s fs) ≡ length (map s gs) = same_lengths fs gs w s o.left_width o.right_width in
    let d : List Bool = pairs xor (map s fs) (map s gs) in
    let dl : length d ≡ v = pairs_length xor (map s fs) (map s gs) same ∙ bits_length s fs in
    let z1 : Zero (n + v) (fill n d s) = record { zeros = λ x l. fill_keeps n d s x (inr (omega arith)) ∙ z.zeros x (omega arith) } in
    record {
      grows = omega arith;
      places = pick_places lo hi n (n + v + v) e fs gs h o.left o.right n (n + v) o.output (omega arith) (omega arith) (omega arith);
      held = fresh_held lo hi (n + v) v (n + v + v) (omega (arith, o.output)) (omega arith);
      width = fresh_length (n + v) v ∙ o.left_width;
      value = ap (λ (f : Wires). number (map f (wires_from (n + v) v))) (pick_fill n e fs gs h.below (held_below lo hi n fs o.left) (held_below lo hi n gs o.right) n (n + v) s (omega arith) (omega arith) (λ x a b. z.zeros x a))
          ∙ ap number (filled_word (n + v) v (pairs (sel (s e)) (map s fs) (map s gs)) (fill n d s) z1 (pairs_length (sel (s e)) (map s fs) (map s gs) same ∙ bits_length s fs))
          ∙ number_sel (s e) (map s fs) (map s gs) same;
    }

-- Wires renamed.
pub left_makes : (lo hi n by : ℕ) (es : List ℕ) (w : ℕ) (s : Wires) → Operands lo hi n es es w → Zero n s
    → Makes lo hi n s (left_piece by es n) w ((number (map s es) * 2 ^ by) % 2 ^ w)
left_makes lo hi n by es w s o z =
    let v : ℕ = length es in
    let k : ℕ = min by v in
    let zs : List ℕ = wires_from n k in
    let low : List ℕ = take (v - k) es in
    let zl : length (map s zs) ≡ k = bits_length s zs ∙ fresh_length n k in
    record {
      grows = omega arith;
      places = tt;
      held = every_append (Held lo hi (n + k)) zs low (fresh_held lo hi n k (n + k) o.output (omega arith)) (held_later lo hi n (n + k) (omega arith) low (every_take (Held lo hi n) (v - k) es o.left));
      width = omega (arith, length-append zs low, fresh_length n k, take_length (v - k) es (omega arith), o.left_width);
      value = ap number (map_append s zs low) ∙ number_append (map s zs) (map s low) ∙ (let e : number (map s zs) ≡ 0 = number_zeros k n s z in ap (λ x. x + number (map s low) * 2 ^ length (map s zs)) e) ∙ zero-add _
          ∙ ap (λ x. number (map s low) * 2 ^ x) zl ∙ ap (λ x. number x * 2 ^ k) (map_take s (v - k) es) ∙ ap (λ x. x * 2 ^ k) (number_take (v - k) (map s es))
          ∙ shl_value (number (map s es)) v by (cases_le by v) ∙ ap (λ x. (number (map s es) * 2 ^ by) % 2 ^ x) o.left_width;
    }

number_padded : (xs ys : List Bool) → number ys ≡ 0 → number (xs ++ ys) ≡ number xs
number_padded xs ys h = number_append xs ys ∙ ap (λ x. number xs + x * 2 ^ length xs) h ∙ (omega arith)

pub right_makes : (lo hi n by : ℕ) (es : List ℕ) (w : ℕ) (s : Wires) → Operands lo hi n es es w → Zero n s
    → Makes lo hi n s (right_piece by es n) w (number (map s es) / 2 ^ by)
right_makes lo hi n by es w s o z =
    let v : ℕ = length es in
    let k : ℕ = min by v in
    let zs : List ℕ = wires_from n k in
    let high : List ℕ = drop k es in
    record {
      grows = omega arith;
      places = tt;
      held = every_append (Held lo hi (n + k)) high zs (held_later lo hi n (n + k) (omega arith) high (every_drop (Held lo hi n) k es o.left)) (fresh_held lo hi n k (n + k) o.output (omega arith));
      width = omega (arith, length-append high zs, fresh_length n k, drop_length k es, o.left_width);
      value = ap number (map_append s high zs) ∙ number_padded (map s high) (map s zs) (number_zeros k n s z)
          ∙ ap (λ x. number (map s x)) (drop_min by es (cases_le by v)) ∙ ap number (map_drop s by es) ∙ number_drop by (map s es);
    }

pub ext_makes : (lo hi n : ℕ) (es : List ℕ) (v w : ℕ) (s : Wires) → Operands lo hi n es es v → v ≤ w → Zero n s
    → Makes lo hi n s (ext_piece w es n) w (number (map s es))
ext_makes lo hi n es v w s o l z =
    let k : ℕ = w - length es in
    let zs : List ℕ = wires_from n k in
    record {
      grows = omega arith;
      places = tt;
      held = every_append (Held lo hi (n + k)) es zs (held_later lo hi n (n + k) (omega arith) es o.left) (fresh_held lo hi n k (n + k) o.output (omega arith));
      width = omega (arith, length-append es zs, fresh_length n k, o.left_width);
      value = ap number (map_append s es zs) ∙ number_padded (map s es) (map s zs) (number_zeros k n s z);
    }

pub low_makes : (lo hi n : ℕ) (es : List ℕ) (v w : ℕ) (s : Wires) → Operands lo hi n es es v → w ≤ v → Zero n s
    → Makes lo hi n s (low_piece w es n) w (number (map s es) % 2 ^ w)
low_makes lo hi n es v w s o l z = record {
  grows = omega arith;
  places = tt;
  held = every_take (Held lo hi n) w es o.left;
  width = take_length w es (omega (arith, o.left_width));
  value = ap number (map_take s w es) ∙ number_take w (map s es);
}

-- Products.
abbrev pub times : Bool → ℕ → ℕ
times true n = n
times false n = 0

every_const : (P : ℕ → Type 0) (f : ℕ) (es : List ℕ) → P f → Every P (map (λ e. f) es)
every_const P f [] h = tt
every_const P f (e ∷ es) h = (h, every_const P f es h)

const_length : (f : ℕ) (es : List ℕ) → length (map (λ e. f) es) ≡ length es
const_length f [] = refl
const_length f (e ∷ es) = ap suc (const_length f es)

and_no : (a : Bool) → (a && false) ≡ false
and_no true = refl
and_no false = refl

const_ands : (s : Wires) (f : ℕ) (es : List ℕ) (b : Bool) → s f ≡ b → number (pairs (λ x y. x && y) (map s es) (map s (map (λ e. f) es))) ≡ times b (number (map s es))
const_ands s f [] true h = refl
const_ands s f [] false h = refl
const_ands s f (e ∷ es) true h = ap (λ x. bit (s e && x) + 2 * number (pairs (λ x y. x && y) (map s es) (map s (map (λ e. f) es)))) h ∙ ap (λ x. bit x + 2 * number (pairs (λ x y. x && y) (map s es) (map s (map (λ e. f) es)))) (sym (and_true (s e))) ∙ ap (λ x. bit (s e) + 2 * x) (const_ands s f es true h)
const_ands s f (e ∷ es) false h = ap (λ x. bit (s e && x) + 2 * number (pairs (λ x y. x && y) (map s es) (map s (map (λ e. f) es)))) h ∙ ap (λ x. bit x + 2 * number (pairs (λ x y. x && y) (map s es) (map s (map (λ e. f) es)))) (and_no (s e)) ∙ ap (λ x. 0 + 2 * x) (const_ands s f es false h)

pub wires_split : (n i k : ℕ) → wires_from n (i + k) ≡ wires_from n i ++ wires_from (n + i) k
wires_split n zero k = let e : 0 + k ≡ k = omega arith in let d : n ≡ n + 0 = omega arith in ap (wires_from n) e ∙ ap (λ x. wires_from x k) d
wires_split n (suc i) k = let e : suc i + k ≡ suc (i + k) = omega arith in let d : suc n + i ≡ n + suc i = omega arith in ap (wires_from n) e ∙ ap (λ l. n ∷ l) (wires_split (suc n) i k ∙ ap (λ x. wires_from (suc n) i ++ wires_from x k) d)

times_shl : (b : Bool) (x i d : ℕ) → times b (x % 2 ^ d) * 2 ^ i ≡ (times b x * 2 ^ i) % 2 ^ (d + i)
times_shl true x i d = shl_small x i d
times_shl false x i d = zero-mul (2 ^ i) ∙ sym (ap (λ y. y % 2 ^ (d + i)) (zero-mul (2 ^ i)) ∙ zero_mod (d + i))

pub part_makes : (lo hi n : ℕ) (es : List ℕ) (f i w : ℕ) (s : Wires) → hi ≤ n → Every (Held lo hi n) es → Held lo hi n f → length es ≡ w → i ≤ w → Zero n s
    → Makes lo hi n s (part_piece es f i n) w ((times (s f) (number (map s es)) * 2 ^ i) % 2 ^ w)
part_makes lo hi n es f i w s h p q e l z =
    let v : ℕ = length es in
    let d : ℕ = v - i in
    let low : List ℕ = take d es in
    let fs : List ℕ = map (λ e. f) low in
    let bits : List Bool = pairs (λ x y. x && y) (map s low) (map s fs) in
    let ll : length low ≡ d = take_length d es (omega arith) in
    let hl : Every (Held lo hi n) low = every_take (Held lo hi n) d es p in
    let hf : Every (Held lo hi n) fs = every_const (Held lo hi n) f low q in
    let bl : length bits ≡ d = pairs_length (λ x y. x && y) (map s low) (map s fs) (bits_length s low ∙ sym (const_length f low) ∙ sym (bits_length s fs)) ∙ bits_length s low ∙ ll in
    let s1 : Wires = fill (n + i) bits s in
    let r : run (each and_cell low fs (n + i)) s ≡ s1 = each_fills and_cell (λ x y. x && y) and_is n low fs (held_below lo hi n low hl) (held_below lo hi n fs hf) (n + i) (omega arith) s in
    let sp : wires_from n v ≡ wires_from n i ++ wires_from (n + i) d = (let g : v ≡ i + d = omega arith in ap (wires_from n) g ∙ wires_split n i d) in
    let a : map s1 (wires_from n i) ≡ map s (wires_from n i) = map_keeps s1 s (wires_from n i) (from_before n i (n + i) _ (omega arith) (λ x g. fill_keeps (n + i) bits s x (inl g))) in
    let b : map s1 (wires_from (n + i) d) ≡ bits = filled_word (n + i) d bits s (record { zeros = λ x g. z.zeros x (omega arith) }) bl in
    let nz : number (map s (wires_from n i)) ≡ 0 = number_zeros i n s z in
    let nl : length (map s (wires_from n i)) ≡ i = bits_length s (wires_from n i) ∙ fresh_length n i in
    let nb : number bits ≡ times (s f) (number (map s es) % 2 ^ d) = const_ands s f low (s f) refl ∙ ap (λ x. times (s f) (number x)) (map_take s d es) ∙ ap (times (s f)) (number_take d (map s es)) in
    let di : d + i ≡ w = omega arith in
    record {
      grows = omega arith;
      places = each_places and_cell and_places lo hi n (n + v) low fs hl hf (n + i) (omega arith) (omega arith);
      held = fresh_held lo hi n v (n + v) h (omega arith);
      width = fresh_length n v ∙ e;
      value = ap (λ (g : Wires). number (map g (wires_from n v))) r ∙ ap (λ x. number (map s1 x)) sp ∙ ap number (map_append s1 (wires_from n i) (wires_from (n + i) d))
          ∙ ap (λ x. number (x ++ map s1 (wires_from (n + i) d))) a ∙ ap (λ x. number (map s (wires_from n i) ++ x)) b ∙ number_append (map s (wires_from n i)) bits
          ∙ ap (λ x. x + number bits * 2 ^ length (map s (wires_from n i))) nz ∙ zero-add _ ∙ ap (λ x. number bits * 2 ^ x) nl ∙ ap (λ x. x * 2 ^ i) nb
          ∙ times_shl (s f) (number (map s es)) i d ∙ ap (λ x. (times (s f) (number (map s es)) * 2 ^ i) % 2 ^ x) di;
    }

times_more : (b : Bool) (x y p : ℕ) → x * y + times b x * p ≡ x * (y + p * bit b)
times_more true x y p = sym (mul-add x y (p * 1) ∙ ap (λ q. x * y + x * q) (mul-one p))
times_more false x y p = ap (λ q. x * y + q) (zero-mul p) ∙ add-zero (x * y) ∙ sym (ap (λ q. x * (y + q)) (mul-zero p) ∙ ap (λ q. x * q) (add-zero y))

two_parts : (x i b n : ℕ) → (x + 2 ^ i * b) + 2 ^ suc i * n ≡ x + 2 ^ i * (b + 2 * n)
two_parts x i b n =
    let e : 2 ^ i * (b + 2 * n) ≡ 2 ^ i * b + 2 ^ i * (2 * n) = mul-add (2 ^ i) b (2 * n) in
    let d : 2 ^ i * (2 * n) ≡ 2 * (2 ^ i * n) = mul_left_comm (2 ^ i) 2 n in
    let c : 2 ^ suc i * n ≡ 2 * (2 ^ i * n) = ap (λ q. q * n) (twice i) ∙ mul_assoc 2 (2 ^ i) n in
    omega arith

mul_rest_makes : (lo hi n : ℕ) (es : List ℕ) (w : ℕ) (s : Wires) (x i : ℕ) (a : Circuit) (fs : List ℕ) → hi ≤ n → Zero n s → Every (Held lo hi n) es → length es ≡ w → Every (Held lo hi n) fs → i + length fs ≡ w
    → Makes lo hi n s a w ((number (map s es) * x) % 2 ^ w) → Makes lo hi n s (mul_rest es i a fs) w ((number (map s es) * (x + 2 ^ i * number (map s fs))) % 2 ^ w)
mul_rest_makes lo hi n es w s x i a [] h z p e q l m = same_value lo hi n s a w _ _ (sym (ap (λ y. (number (map s es) * (x + y)) % 2 ^ w) (mul-zero (2 ^ i)) ∙ ap (λ y. (number (map s es) * y) % 2 ^ w) (add-zero x))) m
mul_rest_makes lo hi n es w s x i a (f ∷ fs) h z p e q l m =
    let c : ℕ = number (map s es) in
    let s1 : Wires = run a.gates s in
    let r : Circuit = part_piece es f i a.next in
    let kf : s1 f ≡ s f = run_keeps lo hi n a.next a.gates s f (inl q.0.below) m.places in
    let ke : map s1 es ≡ map s es = word_keeps lo hi n a.next a.gates s m.places es p in
    let mr : Makes lo hi a.next s1 r w ((times (s f) c * 2 ^ i) % 2 ^ w) = same_value lo hi a.next s1 r w _ _ (ap (λ y. (times y (number (map s1 es)) * 2 ^ i) % 2 ^ w) kf ∙ ap (λ y. (times (s f) (number y) * 2 ^ i) % 2 ^ w) ke)
    (part_makes lo hi a.next es f i w s1 (omega (arith, m.grows)) (held_later lo hi n a.next m.grows es p) (record { off = q.0.off; below = omega (arith, m.grows, q.0.below) }) e (omega arith) (zero_after lo hi n a.next a.gates s m.grows m.places z)) in
    let b : Circuit = joined a (joined r (add_piece a.word r.word r.next)) in
    let mb : Makes lo hi n s b w (((c * x) % 2 ^ w + (times (s f) c * 2 ^ i) % 2 ^ w) % 2 ^ w) = binary_makes lo hi n s a r add_piece w _ _ w (λ u v. (u + v) % 2 ^ w) h z m mr (λ k us vs t o y. add_makes lo hi k us vs w t o y) in
    let mc : Makes lo hi n s b w ((c * (x + 2 ^ i * bit (s f))) % 2 ^ w) = same_value lo hi n s b w _ _ (sym (add-mod (c * x) (times (s f) c * 2 ^ i) (2 ^ w)) ∙ ap (λ y. y % 2 ^ w) (times_more (s f) c x (2 ^ i))) mb in
    same_value lo hi n s (mul_rest es (suc i) b fs) w _ _ (ap (λ y. (c * y) % 2 ^ w) (two_parts x i (bit (s f)) (number (map s fs))))
    (mul_rest_makes lo hi n es w s (x + 2 ^ i * bit (s f)) (suc i) b fs h z p e q.1 (omega arith) mc)

first_part : (b : Bool) (c : ℕ) → times b c * 2 ^ 0 ≡ c * bit b
first_part true c = omega arith
first_part false c = omega arith

pub mul_makes : (lo hi n : ℕ) (es fs : List ℕ) (j : ℕ) (s : Wires) → Operands lo hi n es fs (suc j) → Zero n s
    → Makes lo hi n s (mul_piece es fs n) (suc j) ((number (map s es) * number (map s fs)) % 2 ^ suc j)
mul_makes lo hi n es [] j s o z = absurd (omega (arith, o.right_width))
mul_makes lo hi n es (f ∷ fs) j s o z =
    let w : ℕ = suc j in
    mul_rest_makes lo hi n es w s (bit (s f)) 1 (part_piece es f 0 n) fs o.output z o.left o.left_width o.right.1 (omega (arith, o.right_width))
    (same_value lo hi n s (part_piece es f 0 n) w _ _ (ap (λ y. y % 2 ^ w) (first_part (s f) (number (map s es)))) (part_makes lo hi n es f 0 w s o.output o.left o.right.0 o.left_width (omega arith) z))
