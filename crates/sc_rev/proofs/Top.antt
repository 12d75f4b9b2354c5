-- A function's gates xor its value into the output.
use Rattle.std.proofs.Common.{◌≡◌, ℕ, zero, suc, ◌+◌, ◌-◌, ◌<◌, ◌≤◌, ◌≢◌, ◌⊎◌, inl, inr, Bool, true, false, ◌&&◌, List, [], ◌∷◌, ◌++◌, length, map, take, drop, reverse, bit_xor, refl, sym, ap, ◌∙◌, subst, arith, append_assoc, length-append}
use mathlib.Core.Path.{fun_ext}
use Rattle.sc_rev.specs.declared.bit_gate.BitGate.{BitGate}
use Rattle.sc_rev.specs.declared.bit_gate.BitGate.TheVariants.{X, Cnot, Toffoli}
use Rattle.std.specs.Prelude.{sum}
use Rattle.std.proofs.lemmas.List.Sums.{sum_by-cons}
use Rattle.sc_gate.specs.BitRuns.{xors}
use Rattle.sc_gate.specs.Runs.{xor, bit_at, xor_at, bit_step, bit_run, number}
use Rattle.sc_word.specs.Pure.{PureTypedExpr}
use Rattle.sc_word.specs.Typed.{TypedWords}
use Rattle.sc_word.specs.Fits.{TypedAll, IsTypedFn}
use Rattle.sc_word.specs.Value.{value, value_all, fn_value}
use Rattle.sc_rev.specs.Cells.{gate_of, wires_from, copies, whole}
use Rattle.sc_rev.specs.Circuits.{Circuit}
use Rattle.sc_rev.specs.Functions.{circuit, words_from, circuit_all, operands_of, compute, gates_of}
use Rattle.sc_word.specs.Scratch.{fn_scratch}
use Rattle.sc_rev.specs.Reversible.{numbers_of, zeros, IsReversible}
use Rattle.sc_rev.proofs.Counted.{compute_takes}
use Rattle.sc_rev.proofs.Run.{Wires, flip, target, step, run, Every, every_append, every_weaker, every_reverse, Held, Placed, same_or, flip_else, flip_at_target, whole_keeps, whole_word}
use Rattle.sc_rev.proofs.Number.{number_xor}
use Rattle.sc_rev.proofs.Fill.{pairs}
use Rattle.sc_rev.proofs.Shifts.{cases_le}
use Rattle.sc_rev.proofs.Makes.{bits_length, fresh_length, Zero, Makes, zero_after, joined_makes}
use Rattle.sc_rev.proofs.Means.{Named, Scope, scope_later, circuit_node_makes}

abbrev apply : BitGate → List Bool → List Bool
apply g b = bit_step (gate_of g) b

abbrev bits : List BitGate → List Bool → List Bool
bits gs b = bit_run (map gate_of gs) b

-- Lists of bits and functions.
pub flip_length : (t : ℕ) (v : Bool) (b : List Bool) → length (xor_at t v b) ≡ length b
flip_length t v [] = refl
flip_length zero v (x ∷ xs) = refl
flip_length (suc t) v (x ∷ xs) = ap suc (flip_length t v xs)

pub flip_hit : (t : ℕ) (v : Bool) (b : List Bool) → t < length b → bit_at (xor_at t v b) t ≡ xor (bit_at b t) v
flip_hit t v [] h = absurd (omega arith)
flip_hit zero v (x ∷ xs) h = refl
flip_hit (suc t) v (x ∷ xs) h = flip_hit t v xs (omega arith)

pub flip_miss : (t w : ℕ) (v : Bool) (b : List Bool) → w ≢ t → bit_at (xor_at t v b) w ≡ bit_at b w
flip_miss t w v [] h = refl
flip_miss zero zero v (x ∷ xs) h = absurd (h refl)
flip_miss zero (suc w) v (x ∷ xs) h = refl
flip_miss (suc t) zero v (x ∷ xs) h = refl
flip_miss (suc t) (suc w) v (x ∷ xs) h = flip_miss t w v xs (λ e. h (ap suc e))

flip_at_by : (t w : ℕ) (v : Bool) (b : List Bool) → t < length b → (w ≡ t) ⊎ (w ≢ t) → bit_at (xor_at t v b) w ≡ flip t v (bit_at b) w
flip_at_by t w v b h (inl e) = ap (bit_at (xor_at t v b)) e ∙ flip_hit t v b h ∙ sym (flip_at_target t v (bit_at b)) ∙ ap (flip t v (bit_at b)) (sym e)
flip_at_by t w v b h (inr e) = flip_miss t w v b e ∙ sym (flip_else t v (bit_at b) w e)

flip_is : (t : ℕ) (v : Bool) (b : List Bool) → t < length b → bit_at (xor_at t v b) ≡ flip t v (bit_at b)
flip_is t v b h = fun_ext (λ w. flip_at_by t w v b h (same_or w t))

apply_is : (g : BitGate) (b : List Bool) → target g < length b → bit_at (apply g b) ≡ step g (bit_at b)
apply_is (X t) b h = flip_is t true b h
apply_is (Cnot a t) b h = flip_is t (bit_at b a) b h
apply_is (Toffoli a c t) b h = flip_is t (bit_at b a && bit_at b c) b h

apply_length : (g : BitGate) (b : List Bool) → length (apply g b) ≡ length b
apply_length (X t) b = flip_length t true b
apply_length (Cnot a t) b = flip_length t (bit_at b a) b
apply_length (Toffoli a c t) b = flip_length t (bit_at b a && bit_at b c) b

pub bits_run : (gs : List BitGate) (b : List Bool) → Every (λ g. target g < length b) gs → bit_at (bits gs b) ≡ run gs (bit_at b)
bits_run [] b h = refl
bits_run (g ∷ gs) b h =
    bits_run gs (apply g b) (subst (λ n. Every (λ g. target g < n) gs) (sym (apply_length g b)) h.1) ∙ ap (run gs) (apply_is g b h.0)

pub bits_length_run : (gs : List BitGate) (b : List Bool) → length (bits gs b) ≡ length b
bits_length_run [] b = refl
bits_length_run (g ∷ gs) b = bits_length_run gs (apply g b) ∙ apply_length g b

pub same_bits : (a b : List Bool) → length a ≡ length b → ((w : ℕ) → w < length a → bit_at a w ≡ bit_at b w) → a ≡ b
same_bits [] [] e h = refl
same_bits [] (y ∷ b) e h = absurd (omega arith)
same_bits (x ∷ a) [] e h = absurd (omega arith)
same_bits (x ∷ a) (y ∷ b) e h = let p : x ≡ y = h 0 (omega arith) in let q : a ≡ b = same_bits a b (omega arith) (λ w l. h (suc w) (omega arith)) in cc

pub bit_at_append_l : (a b : List Bool) (w : ℕ) → w < length a → bit_at (a ++ b) w ≡ bit_at a w
bit_at_append_l [] b w h = absurd (omega arith)
bit_at_append_l (x ∷ a) b zero h = refl
bit_at_append_l (x ∷ a) b (suc w) h = bit_at_append_l a b w (omega arith)

pub bit_at_append_r : (a b : List Bool) (n w : ℕ) → n ≡ length a + w → bit_at (a ++ b) n ≡ bit_at b w
bit_at_append_r [] b n w h = let e : n ≡ w = omega arith in ap (bit_at b) e
bit_at_append_r (x ∷ a) b zero w h = absurd (omega arith)
bit_at_append_r (x ∷ a) b (suc n) w h = bit_at_append_r a b n w (omega arith)

pub zeros_length : (n : ℕ) → length (zeros n) ≡ n
zeros_length zero = refl
zeros_length (suc n) = ap suc (zeros_length n)

pub zeros_at : (n w : ℕ) → bit_at (zeros n) w ≡ false
zeros_at zero w = refl
zeros_at (suc n) zero = refl
zeros_at (suc n) (suc w) = zeros_at n w

-- a part of the bits, read wire by wire
pub read_part : (a b c : List Bool) (n : ℕ) → n ≡ length a → map (bit_at (a ++ (b ++ c))) (wires_from n (length b)) ≡ b
read_part a [] c n h = refl
read_part a (x ∷ b) c n h =
    let e : bit_at (a ++ (x ∷ (b ++ c))) n ≡ x = bit_at_append_r a (x ∷ (b ++ c)) n 0 (omega arith) in
    let f : (a ++ x ∷ []) ++ (b ++ c) ≡ a ++ (x ∷ (b ++ c)) = append_assoc a (x ∷ []) (b ++ c) in
    let g : map (bit_at ((a ++ x ∷ []) ++ (b ++ c))) (wires_from (suc n) (length b)) ≡ b = read_part (a ++ x ∷ []) b c (suc n) (omega (arith, length-append a (x ∷ []))) in
    let k : map (bit_at (a ++ (x ∷ (b ++ c)))) (wires_from (suc n) (length b)) ≡ b = subst (λ l. map (bit_at l) (wires_from (suc n) (length b)) ≡ b) f g in
    cc

-- Bindings.
named_append : (lo hi n : ℕ) (s : Wires) (words : List (List ℕ)) (widths values : List ℕ) (ws : List ℕ) (w v : ℕ) → Scope lo hi n s words widths values → Named lo hi n s ws w v → Scope lo hi n s (words ++ ws ∷ []) (widths ++ w ∷ []) (values ++ v ∷ [])
named_append lo hi n s [] [] [] ws w v k h = (h, tt)
named_append lo hi n s [] [] (a ∷ values) ws w v k h = absurd k
named_append lo hi n s [] (b ∷ widths) values ws w v k h = absurd k
named_append lo hi n s (c ∷ words) [] values ws w v k h = absurd k
named_append lo hi n s (c ∷ words) (b ∷ widths) [] ws w v k h = absurd k
named_append lo hi n s (c ∷ words) (b ∷ widths) (a ∷ values) ws w v k h = (k.0, named_append lo hi n s words widths values ws w v k.1 h)

pub circuit_all_makes : (lo hi n : ℕ) (s : Wires) (words : List (List ℕ)) (widths values : List ℕ) (bs : List PureTypedExpr) (e : PureTypedExpr) → hi ≤ n → Zero n s → Scope lo hi n s words widths values → TypedAll widths bs e
    → Makes lo hi n s (circuit_all words n bs e) e.width (value_all values bs e)
circuit_all_makes lo hi n s words widths values [] e h z k t = circuit_node_makes lo hi n s words widths values e.width e.node h z k t
circuit_all_makes lo hi n s words widths values (b ∷ bs) e h z k t =
    let c : Circuit = circuit words n b in
    let m : Makes lo hi n s c b.width (value values b) = circuit_node_makes lo hi n s words widths values b.width b.node h z k t.0 in
    let s1 : Wires = run c.gates s in
    let k1 : Scope lo hi c.next s1 (words ++ c.word ∷ []) (widths ++ b.width ∷ []) (values ++ value values b ∷ []) =
    named_append lo hi c.next s1 words widths values c.word b.width (value values b) (scope_later lo hi n c.next c.gates s m.grows m.places words widths values k) (record { held = m.held; width = m.width; value = m.value }) in
    joined_makes lo hi n s c (circuit_all (words ++ c.word ∷ []) c.next bs e) b.width (value values b) e.width _ m
    (circuit_all_makes lo hi c.next s1 (words ++ c.word ∷ []) (widths ++ b.width ∷ []) (values ++ value values b ∷ []) bs e (omega (arith, m.grows)) (zero_after lo hi n c.next c.gates s m.grows m.places z) k1 t.1)

-- the words of the parameters
wires_held : (lo hi m n k : ℕ) → n + k ≤ lo → lo ≤ m → Every (Held lo hi m) (wires_from n k)
wires_held lo hi m n zero h l = tt
wires_held lo hi m n (suc k) h l = (record { off = inl (omega arith); below = omega arith }, wires_held lo hi m (suc n) k (omega arith) l)

take_whole : (w : ℕ) (b : List Bool) → w ≤ length b → (take w b ++ drop w b ≡ b) × (length (take w b) ≡ w)
take_whole zero b h = (refl, refl)
take_whole (suc w) [] h = absurd (omega arith)
take_whole (suc w) (x ∷ b) h = let r : (take w b ++ drop w b ≡ b) × (length (take w b) ≡ w) = take_whole w b (omega arith) in (ap (λ l. x ∷ l) r.0, ap suc r.1)

params_scope : (lo hi m n : ℕ) (widths : List ℕ) (a b c : List Bool) → n ≡ length a → sum widths ≤ length b → n + sum widths ≤ lo → lo ≤ m
    → Scope lo hi m (bit_at (a ++ (b ++ c))) (words_from n widths) widths (numbers_of widths b)
params_scope lo hi m n [] a b c e h l k = tt
params_scope lo hi m n (w ∷ widths) a b c e h l k =
    let more : sum (w ∷ widths) ≡ w + sum widths = sum_by-cons (λ (x : ℕ). x) w widths in
    let t : (take w b ++ drop w b ≡ b) × (length (take w b) ≡ w) = take_whole w b (omega (arith, more)) in
    let x : List Bool = take w b in
    let y : List Bool = drop w b in
    let f : a ++ (x ++ (y ++ c)) ≡ a ++ (b ++ c) = ap (λ l. a ++ l) (sym (append_assoc x y c) ∙ ap (λ l. l ++ c) t.0) in
    let g : (a ++ x) ++ (y ++ c) ≡ a ++ (b ++ c) = append_assoc a x (y ++ c) ∙ f in
    let len : length x + length y ≡ length b = sym (length-append x y) ∙ ap length t.0 in
    let v : map (bit_at (a ++ (b ++ c))) (wires_from n w) ≡ x = ap (λ l. map (bit_at l) (wires_from n w)) (sym f) ∙ ap (λ k. map (bit_at (a ++ (x ++ (y ++ c)))) (wires_from n k)) (sym t.1) ∙ read_part a x (y ++ c) n e in (
      record { held = wires_held lo hi m n w (omega (arith, more)) k; width = fresh_length n w; value = ap number v },
      subst (λ l. Scope lo hi m (bit_at l) (words_from (n + w) widths) widths (numbers_of widths y)) g
          (params_scope lo hi m (n + w) widths (a ++ x) y c (omega (arith, length-append a x, t.1)) (omega (arith, t.1, more, len)) (omega (arith, more)) k),
    )

copies_within : (m : ℕ) (rs : List ℕ) (o : ℕ) → o + length rs ≤ m → Every (λ g. target g < m) (copies rs o)
copies_within m [] o h = tt
copies_within m (r ∷ rs) o h = (omega arith, copies_within m rs (suc o) (omega arith))

xors_pairs : (xs ys : List Bool) → length xs ≡ length ys → xors xs ys ≡ pairs xor xs ys
xors_pairs [] [] h = refl
xors_pairs [] (y ∷ ys) h = absurd (omega arith)
xors_pairs (x ∷ xs) [] h = absurd (omega arith)
xors_pairs (x ∷ xs) (y ∷ ys) h = ap (λ l. xor x y ∷ l) (xors_pairs xs ys (omega arith))

pub bit_at_read : (s : Wires) (n k w : ℕ) → w < k → bit_at (map s (wires_from n k)) w ≡ s (n + w)
bit_at_read s n zero w h = absurd (omega arith)
bit_at_read s n (suc k) zero h = let e : n + 0 ≡ n = omega arith in ap s (sym e)
bit_at_read s n (suc k) (suc w) h = let e : suc n + w ≡ n + suc w = omega arith in bit_at_read s (suc n) k w (omega arith) ∙ ap s e

xors_length : (xs ys : List Bool) → length xs ≡ length ys → length (xors xs ys) ≡ length xs
xors_length [] [] h = refl
xors_length [] (y ∷ ys) h = refl
xors_length (x ∷ xs) [] h = absurd (omega arith)
xors_length (x ∷ xs) (y ∷ ys) h = ap suc (xors_length xs ys (omega arith))

pub cases_3 : (lo hi w : ℕ) → (w < lo) ⊎ ((lo ≤ w) × (w < hi)) ⊎ (hi ≤ w)
cases_3 lo hi w = elim (cases_le lo w) [ inl a ↦ elim (cases_le hi w) [ inl b ↦ inr (inr b) | inr b ↦ inr (inl (a, b)) ] | inr a ↦ inl a ]

pub tail_false : (a b : List Bool) (k w : ℕ) → length a + length b ≤ w → bit_at (a ++ (b ++ zeros k)) w ≡ false
tail_false a b k w h = bit_at_append_r a (b ++ zeros k) w (w - length a) (omega arith) ∙ bit_at_append_r b (zeros k) (w - length a) (w - length a - length b) (omega arith) ∙ zeros_at k (w - length a - length b)

pub middle : (a b c : List Bool) (w u : ℕ) → w ≡ length a + u → u < length b → bit_at (a ++ (b ++ c)) w ≡ bit_at b u
middle a b c w u h l = bit_at_append_r a (b ++ c) w u h ∙ bit_at_append_l b c u l

whole_within : (c : Circuit) (lo hi m w v : ℕ) (s : Wires) → Makes lo hi hi s c w v → lo + w ≤ m → c.next ≤ m → Every (λ g. target g < m) (whole c.gates c.word lo)
whole_within c lo hi m w v s k l h =
    let a : Every (λ g. target g < m) c.gates = every_weaker (Placed lo hi hi c.next) (λ g. target g < m) (λ g q. omega (arith, q.below)) c.gates k.places in
    every_append (λ g. target g < m) c.gates (copies c.word lo ++ reverse c.gates) a
    (every_append (λ g. target g < m) (copies c.word lo) (reverse c.gates) (copies_within m c.word lo (omega (arith, k.width))) (every_reverse (λ g. target g < m) c.gates a))

whole_bits : (c : Circuit) (lo hi w v : ℕ) (a b : List Bool) → lo ≡ length a → length b ≡ w → hi ≡ lo + w → Makes lo hi hi (bit_at (a ++ (b ++ zeros (c.next - hi)))) c w v
    → (left : List Bool) × (bits (whole c.gates c.word lo) (a ++ (b ++ zeros (c.next - hi))) ≡ a ++ (left ++ zeros (c.next - hi))) × (number left ≡ bit_xor (number b) v)
whole_bits c lo hi w v a b ea eb eh k =
    let n : ℕ = c.next - hi in
    let all : List Bool = a ++ (b ++ zeros n) in
    let s : Wires = bit_at all in
    let gs : List BitGate = whole c.gates c.word lo in
    let r : List Bool = map (run c.gates s) c.word in
    let left : List Bool = xors b r in
    let rl : length r ≡ w = bits_length (run c.gates s) c.word ∙ k.width in
    let ll : length left ≡ w = xors_length b r (eb ∙ sym rl) ∙ eb in
    let la : length all ≡ c.next = omega (arith, length-append a (b ++ zeros n), length-append b (zeros n), zeros_length n, k.grows) in
    let lb : length (a ++ (left ++ zeros n)) ≡ length all = omega (arith, length-append a (b ++ zeros n), length-append b (zeros n), length-append a (left ++ zeros n), length-append left (zeros n)) in
    let go : bit_at (bits gs all) ≡ run gs s = bits_run gs all (whole_within c lo hi (length all) w v s k (omega (arith, k.grows)) (omega arith)) in
    let out : lo + length c.word ≡ hi = omega (arith, k.width) in
    let word : map (run gs s) (wires_from lo (length c.word)) ≡ left =
    whole_word c.gates c.word lo hi hi c.next s (omega arith) out k.places k.held
    ∙ ap (λ x. xors x r) (ap (λ x. map s (wires_from lo x)) (k.width ∙ sym eb) ∙ read_part a b (zeros n) lo ea) in
    let each : (x : ℕ) → x < length (bits gs all) → bit_at (bits gs all) x ≡ bit_at (a ++ (left ++ zeros n)) x = λ x l. ap (λ (f : Wires). f x) go ∙ elim (cases_3 lo hi x) [
      | inl h ↦ whole_keeps c.gates c.word lo hi hi c.next s x (omega arith) out k.places k.held (inl h) ∙ bit_at_append_l a (b ++ zeros n) x (omega arith) ∙ sym (bit_at_append_l a (left ++ zeros n) x (omega arith))
      | inr (inl h) ↦ (let e : x ≡ lo + (x - lo) = omega (arith, h.0) in ap (run gs s) e) ∙ sym (bit_at_read (run gs s) lo (length c.word) (x - lo) (omega (arith, h.0, h.1))) ∙ ap (λ y. bit_at y (x - lo)) word ∙ sym (middle a left (zeros n) x (x - lo) (omega (arith, h.0)) (omega (arith, h.0, h.1)))
      | inr (inr h) ↦ whole_keeps c.gates c.word lo hi hi c.next s x (omega arith) out k.places k.held (inr h) ∙ tail_false a b n x (omega arith) ∙ sym (tail_false a left n x (omega arith))
    ] in (
      left,
      same_bits (bits gs all) (a ++ (left ++ zeros n)) (bits_length_run gs all ∙ sym lb) each,
      ap number (xors_pairs b r (eb ∙ sym rl)) ∙ number_xor b r (eb ∙ sym rl) ∙ ap (bit_xor (number b)) k.value,
    )

start_zero : (a b : List Bool) (k hi : ℕ) → hi ≡ length a + length b → Zero hi (bit_at (a ++ (b ++ zeros k)))
start_zero a b k hi h = record { zeros = λ w l. tail_false a b k w (omega arith) }

-- the circuit makes the value from an assignment with zero scratch
pub compute_makes : (t : TypedWords) → IsTypedFn t → (inputs outputs : List Bool) (k : ℕ) → length inputs ≡ sum t.params → length outputs ≡ t.returned.width
    → Makes (sum t.params) (operands_of t) (operands_of t) (bit_at (inputs ++ (outputs ++ zeros k))) (compute t) t.returned.width (fn_value t (numbers_of t.params inputs))
compute_makes t h inputs outputs k p q =
    let lo : ℕ = sum t.params in
    let hi : ℕ = operands_of t in
    circuit_all_makes lo hi hi (bit_at (inputs ++ (outputs ++ zeros k))) (words_from 0 t.params) t.params (numbers_of t.params inputs) t.binds t.returned (omega arith) (start_zero inputs outputs k hi (omega arith))
    (params_scope lo hi hi 0 t.params [] inputs (outputs ++ zeros k) refl (omega arith) (omega arith) (omega arith)) h.trees

abbrev RunsWith : TypedWords → List Bool → List Bool → ℕ → Type 0
RunsWith t inputs outputs k =
    (left : List Bool)
    × (bit_run (gates_of t) (inputs ++ (outputs ++ zeros k)) ≡ inputs ++ (left ++ zeros k))
    × (number left ≡ bit_xor (number outputs) (fn_value t (numbers_of t.params inputs)))

pub reversible_holds : (t : TypedWords) → IsTypedFn t → IsReversible t
reversible_holds t h = record {
  runs = λ inputs outputs p q.
      let c : Circuit = compute t in
      let k : c.next - operands_of t ≡ fn_scratch t = omega (arith, (compute_takes t h).next) in
      subst (RunsWith t inputs outputs) k
      (whole_bits c (sum t.params) (operands_of t) t.returned.width (fn_value t (numbers_of t.params inputs)) inputs outputs (sym p) q refl
      (compute_makes t h inputs outputs (c.next - operands_of t) p q));
}
