-- Sums, differences and comparisons.
use Rattle.std.proofs.Common.{◌≡◌, ℕ, zero, suc, ◌+◌, ◌-◌, ◌*◌, ◌%◌, ◌^◌, ◌<◌, ◌≤◌, ◌⊎◌, inl, inr, Bool, true, false, nat_lt, List, [], ◌∷◌, ◌++◌, length, map, Option, Some, None, refl, sym, ap, ◌∙◌, subst, arith}
use Rattle.std.proofs.lemmas.Nat.{mod_low}
use Rattle.std.proofs.lemmas.Bool.Decides.{nat_tests, leb_tells}
use Rattle.sc_gate.specs.Runs.{bit, number}
use Rattle.sc_rev.specs.Cells.{wires_from, carry_in, carry_on, rows, adder}
use Rattle.sc_rev.specs.Circuits.{Circuit, joined, not_piece, adder_piece, add_piece, sub_piece, last_wire, less_piece}
use Rattle.sc_rev.proofs.Run.{Wires, run, Every, every_append, map_keeps, Held, Placed, from_before}
use Rattle.sc_rev.proofs.Fill.{fill, fill_keeps}
use Rattle.sc_rev.proofs.Adder.{sums, carries, After, after_weaker, rows_fill}
use Rattle.sc_rev.proofs.Number.{number_lt, sums_mod, sums_number, sums_length, top, weight, fill_top}
use Rattle.sc_rev.proofs.Makes.{bits_length, Zero, Makes, Operands, held_below, held_later, fresh_held, fresh_length, word_keeps, zero_after, joined_makes, cnot_placed, and_placed, same_lengths, filled_word, not_makes}

carry_in_places : (from : Option ℕ) (lo hi n m t c : ℕ) → hi ≤ n → n ≤ t → t < c → c ≤ m → After from (suc t) c → Every (Placed lo hi n m) (carry_in from t)
carry_in_places None lo hi n m t c h i j k a = tt
carry_in_places (Some b) lo hi n m t c h i j k a = (record { above = i; below = omega arith; controls = record { held = record { off = inr (omega arith); below = omega arith }; apart = λ e. absurd (omega arith) }; differ = tt }, tt)

carry_on_places : (from : Option ℕ) (lo hi n m t c : ℕ) → hi ≤ n → n ≤ t → t < c → c < m → After from (suc t) c → Every (Placed lo hi n m) (carry_on from t c)
carry_on_places None lo hi n m t c h i j k a = tt
carry_on_places (Some b) lo hi n m t c h i j k a = (record { above = omega arith; below = k; controls = (record { held = record { off = inr (omega arith); below = omega arith }; apart = λ e. absurd (omega arith) }, record { held = record { off = inr (omega arith); below = omega arith }; apart = λ e. absurd (omega arith) }); differ = λ e. absurd (omega arith) }, tt)

pub rows_places : (lo hi n m : ℕ) (es fs : List ℕ) → Every (Held lo hi n) es → Every (Held lo hi n) fs → (t c : ℕ) (from : Option ℕ) (k : ℕ)
    → hi ≤ n → n ≤ t → t + length es ≤ c → c + k ≤ m → After from (t + length es) c → Every (Placed lo hi n m) (rows es fs t c from k)
rows_places lo hi n m [] fs p q t c from k h i j l a = tt
rows_places lo hi n m (e ∷ es) [] p q t c from k h i j l a = tt
rows_places lo hi n m (e ∷ es) (f ∷ fs) p q t c from zero h i j l a = (
  cnot_placed lo hi n m e t p.0 i (omega arith),
  (
    cnot_placed lo hi n m f t q.0 i (omega arith),
    every_append (Placed lo hi n m) (carry_in from t) (rows es fs (suc t) c from zero)
        (carry_in_places from lo hi n m t c h i (omega arith) (omega arith) (after_weaker from (t + length (e ∷ es)) (suc t) c (omega arith) a))
        (rows_places lo hi n m es fs p.1 q.1 (suc t) c from zero h (omega arith) (omega arith) l (after_weaker from (t + length (e ∷ es)) (suc t + length es) c (omega arith) a)),
  ),
)
rows_places lo hi n m (e ∷ es) (f ∷ fs) p q t c from (suc k) h i j l a =
    let b : After from (suc t) c = after_weaker from (t + length (e ∷ es)) (suc t) c (omega arith) a in (
      cnot_placed lo hi n m e t p.0 i (omega arith),
      (
        cnot_placed lo hi n m f t q.0 i (omega arith),
        (
          and_placed lo hi n m e f c p.0 q.0 (omega arith) (omega arith),
          every_append (Placed lo hi n m) (carry_on from t c) (carry_in from t ++ rows es fs (suc t) (suc c) (Some c) k)
              (carry_on_places from lo hi n m t c h i (omega arith) (omega arith) b)
              (every_append (Placed lo hi n m) (carry_in from t) (rows es fs (suc t) (suc c) (Some c) k)
              (carry_in_places from lo hi n m t c h i (omega arith) (omega arith) b)
              (rows_places lo hi n m es fs p.1 q.1 (suc t) (suc c) (Some c) k h (omega arith) (omega arith) (omega arith) (omega arith, omega arith))),
        ),
      ),
    )

pub adder_fill : (lo hi n : ℕ) (es fs : List ℕ) (w k : ℕ) (s : Wires) → Operands lo hi n es fs w → Zero n s → w ≤ suc k
    → run (adder es fs n k) s ≡ fill (n + length es) (carries k false (map s es) (map s fs)) (fill n (sums false (map s es) (map s fs)) s)
adder_fill lo hi n es fs w k s o z l =
    rows_fill n es fs (held_below lo hi n es o.left) (held_below lo hi n fs o.right) n (n + length es) None k s (omega arith) (omega arith) (omega (arith, o.left_width)) tt
    (λ u a b. z.zeros u a) (λ u a. z.zeros u (omega arith))

pub adder_places : (lo hi n : ℕ) (es fs : List ℕ) (w k : ℕ) → Operands lo hi n es fs w → Every (Placed lo hi n (n + length es + k)) (adder es fs n k)
adder_places lo hi n es fs w k o = rows_places lo hi n (n + length es + k) es fs o.left o.right n (n + length es) None k o.output (omega arith) (omega arith) (omega arith) tt

pub adder_word : (lo hi n : ℕ) (es fs : List ℕ) (w k : ℕ) (s : Wires) → Operands lo hi n es fs w → Zero n s → w ≤ suc k
    → map (run (adder es fs n k) s) (wires_from n (length es)) ≡ sums false (map s es) (map s fs)
adder_word lo hi n es fs w k s o z l =
    let v : ℕ = length es in
    let u : List Bool = sums false (map s es) (map s fs) in
    let c : List Bool = carries k false (map s es) (map s fs) in
    ap (λ (f : Wires). map f (wires_from n v)) (adder_fill lo hi n es fs w k s o z l)
    ∙ map_keeps (fill (n + v) c (fill n u s)) (fill n u s) (wires_from n v) (from_before n v (n + v) _ (omega arith) (λ x h. fill_keeps (n + v) c (fill n u s) x (inl h)))
    ∙ filled_word n v u s z (sums_length false (map s es) (map s fs) (same_lengths es fs w s o.left_width o.right_width) ∙ bits_length s es)

pub adder_makes : (lo hi n : ℕ) (es fs : List ℕ) (w k : ℕ) (s : Wires) → Operands lo hi n es fs w → Zero n s → w ≤ suc k
    → Makes lo hi n s (adder_piece es fs n k) w ((number (map s es) + number (map s fs)) % 2 ^ w)
adder_makes lo hi n es fs w k s o z l = record {
  grows = omega arith;
  places = adder_places lo hi n es fs w k o;
  held = fresh_held lo hi n (length es) (n + length es + k) o.output (omega arith);
  width = fresh_length n (length es) ∙ o.left_width;
  value = ap number (adder_word lo hi n es fs w k s o z l)
      ∙ sums_mod (map s es) (map s fs) (same_lengths es fs w s o.left_width o.right_width)
      ∙ ap (λ x. (number (map s es) + number (map s fs)) % 2 ^ x) (bits_length s es ∙ o.left_width);
}

pub add_makes : (lo hi n : ℕ) (es fs : List ℕ) (w : ℕ) (s : Wires) → Operands lo hi n es fs w → Zero n s
    → Makes lo hi n s (add_piece es fs n) w ((number (map s es) + number (map s fs)) % 2 ^ w)
add_makes lo hi n es fs w s o z = adder_makes lo hi n es fs w (length es - 1) s o z (omega (arith, o.left_width))

-- a number below 2^w
pub word_lt : (s : Wires) (es : List ℕ) (w : ℕ) → length es ≡ w → number (map s es) < 2 ^ w
word_lt s es w h = subst (λ x. number (map s es) < 2 ^ x) (bits_length s es ∙ h) (number_lt (map s es))

mod_small : (n w : ℕ) → n < 2 ^ w → n % 2 ^ w ≡ n
mod_small n w h = ap (λ x. x % 2 ^ w) (let e : n ≡ 0 * 2 ^ w + n = omega arith in e) ∙ mod_low 0 w n h

mod_once : (m n w : ℕ) → m ≡ 2 ^ w + n → n < 2 ^ w → m % 2 ^ w ≡ n
mod_once m n w e h = ap (λ x. x % 2 ^ w) (let d : m ≡ 1 * 2 ^ w + n = omega arith in d) ∙ mod_low 1 w n h

sub_by : (a b w : ℕ) → a < 2 ^ w → b < 2 ^ w → (b ≤ a) ⊎ (a < b) → 2 ^ w - 1 - (2 ^ w - 1 - a + b) % 2 ^ w ≡ (a + 2 ^ w - b) % 2 ^ w
sub_by a b w p q (inl h) =
    let x : (2 ^ w - 1 - a + b) % 2 ^ w ≡ 2 ^ w - 1 - a + b = mod_small (2 ^ w - 1 - a + b) w (omega arith) in
    let y : (a + 2 ^ w - b) % 2 ^ w ≡ a - b = mod_once (a + 2 ^ w - b) (a - b) w (omega arith) (omega arith) in
    omega arith
sub_by a b w p q (inr h) =
    let x : (2 ^ w - 1 - a + b) % 2 ^ w ≡ b - a - 1 = mod_once (2 ^ w - 1 - a + b) (b - a - 1) w (omega arith) (omega arith) in
    let y : (a + 2 ^ w - b) % 2 ^ w ≡ a + 2 ^ w - b = mod_small (a + 2 ^ w - b) w (omega arith) in
    omega arith

cases_le : (a b : ℕ) → (b ≤ a) ⊎ (a < b)
cases_le a b = elim (leb_tells b a) [ inl h ↦ inl h.1 | inr h ↦ inr h.1 ]

pub sub_value : (a b w : ℕ) → a < 2 ^ w → b < 2 ^ w → 2 ^ w - 1 - (2 ^ w - 1 - a + b) % 2 ^ w ≡ (a + 2 ^ w - b) % 2 ^ w
sub_value a b w p q = sub_by a b w p q (cases_le a b)

-- operands of which the left one has just been made
pub operands_after : (lo hi n : ℕ) (s : Wires) (a : Circuit) (v w : ℕ) (fs : List ℕ) → hi ≤ n → Makes lo hi n s a w v → Every (Held lo hi n) fs → length fs ≡ w → Operands lo hi a.next a.word fs w
operands_after lo hi n s a v w fs h m r e = record { output = omega (arith, m.grows); left = m.held; right = held_later lo hi n a.next m.grows fs r; left_width = m.width; right_width = e }

pub itself : (lo hi n : ℕ) (es : List ℕ) (w : ℕ) → hi ≤ n → Every (Held lo hi n) es → length es ≡ w → Operands lo hi n es es w
itself lo hi n es w h p e = record { output = h; left = p; right = p; left_width = e; right_width = e }

pub same_value : (lo hi n : ℕ) (s : Wires) (c : Circuit) (w v v' : ℕ) → v ≡ v' → Makes lo hi n s c w v → Makes lo hi n s c w v'
same_value lo hi n s c w v v' e m = subst (Makes lo hi n s c w) e m

pub sub_makes : (lo hi n : ℕ) (es fs : List ℕ) (w : ℕ) (s : Wires) → Operands lo hi n es fs w → Zero n s
    → Makes lo hi n s (sub_piece es fs n) w ((number (map s es) + 2 ^ w - number (map s fs)) % 2 ^ w)
sub_makes lo hi n es fs w s o z =
    let a : ℕ = number (map s es) in
    let b : ℕ = number (map s fs) in
    let one : Circuit = not_piece es n in
    let m1 : Makes lo hi n s one w (2 ^ w - 1 - a) = not_makes lo hi n es w s (itself lo hi n es w o.output o.left o.left_width) z in
    let s1 : Wires = run one.gates s in
    let z1 : Zero one.next s1 = zero_after lo hi n one.next one.gates s m1.grows m1.places z in
    let o1 : Operands lo hi one.next one.word fs w = operands_after lo hi n s one (2 ^ w - 1 - a) w fs o.output m1 o.right o.right_width in
    let two : Circuit = add_piece one.word fs one.next in
    let keep : number (map s1 fs) ≡ b = ap number (word_keeps lo hi n one.next one.gates s m1.places fs o.right) in
    let m2 : Makes lo hi one.next s1 two w ((2 ^ w - 1 - a + b) % 2 ^ w) = same_value lo hi one.next s1 two w _ _ (ap (λ x. (x + number (map s1 fs)) % 2 ^ w) m1.value ∙ ap (λ x. (2 ^ w - 1 - a + x) % 2 ^ w) keep) (add_makes lo hi one.next one.word fs w s1 o1 z1) in
    let s2 : Wires = run two.gates s1 in
    let z2 : Zero two.next s2 = zero_after lo hi one.next two.next two.gates s1 m2.grows m2.places z1 in
    let m3 : Makes lo hi two.next s2 (not_piece two.word two.next) w (2 ^ w - 1 - (2 ^ w - 1 - a + b) % 2 ^ w) =
    same_value lo hi two.next s2 (not_piece two.word two.next) w _ _ (ap (λ x. 2 ^ w - 1 - x) m2.value) (not_makes lo hi two.next two.word w s2 (itself lo hi two.next two.word w (omega (arith, o.output, m1.grows, m2.grows)) m2.held m2.width) z2) in
    same_value lo hi n s (sub_piece es fs n) w _ _ (sub_value a b w (word_lt s es w o.left_width) (word_lt s fs w o.right_width))
    (joined_makes lo hi n s one (joined two (not_piece two.word two.next)) w (2 ^ w - 1 - a) w _ m1
    (joined_makes lo hi one.next s1 two (not_piece two.word two.next) w _ w _ m2 m3))

less_by : (x a b u w : ℕ) (t : Bool) → u < 2 ^ w → u + weight w t ≡ x + b → x + a + 1 ≡ 2 ^ w → bit t ≡ bit (nat_lt a b)
less_by x a b u w true l e d = let h : nat_lt a b ≡ true = grind (arith, nat_tests) in ap bit (sym h)
less_by x a b u w false l e d = let h : nat_lt a b ≡ false = grind (arith, nat_tests) in ap bit (sym h)

-- the carry that goes out of ~a + b
pub less_value : (xs ys : List Bool) (a w : ℕ) → length xs ≡ length ys → length xs ≡ w → number xs + a + 1 ≡ 2 ^ w → bit (top false xs ys) ≡ bit (nat_lt a (number ys))
less_value xs ys a w h e d =
    let p : number (sums false xs ys) < 2 ^ w = subst (λ x. number (sums false xs ys) < 2 ^ x) (sums_length false xs ys h ∙ e) (number_lt (sums false xs ys)) in
    let q : number (sums false xs ys) + weight w (top false xs ys) ≡ number xs + number ys = subst (λ x. number (sums false xs ys) + weight x (top false xs ys) ≡ number xs + number ys) e (omega (arith, sums_number false xs ys h)) in
    less_by (number xs) a (number ys) (number (sums false xs ys)) w (top false xs ys) p q d

pub bit_number : (b : Bool) → number (b ∷ []) ≡ bit b
bit_number b = omega arith

pub carry_makes : (lo hi n : ℕ) (es fs : List ℕ) (j : ℕ) (s : Wires) → Operands lo hi n es fs (suc j) → Zero n s → (a : ℕ) → number (map s es) + a + 1 ≡ 2 ^ suc j
    → Makes lo hi n s (last_wire (adder_piece es fs n (length es))) 1 (bit (nat_lt a (number (map s fs))))
carry_makes lo hi n es fs j s o z a d =
    let v : ℕ = length es in
    let xs : List Bool = map s es in
    let ys : List Bool = map s fs in
    let wide : length xs ≡ suc j = bits_length s es ∙ o.left_width in
    let last : n + v + v - 1 ≡ n + v + j = omega (arith, o.left_width) in
    let same : length xs ≡ length ys = same_lengths es fs (suc j) s o.left_width o.right_width in
    let s1 : Wires = fill n (sums false xs ys) s in
    let at : fill (n + v) (carries v false xs ys) s1 (n + v + v - 1) ≡ top false xs ys =
    ap (λ k. fill (n + v) (carries k false xs ys) s1 (n + v + v - 1)) o.left_width
    ∙ ap (fill (n + v) (carries (suc j) false xs ys) s1) last
    ∙ fill_top j false xs ys wide (sym same ∙ wide) (n + v) s1 (λ w h. fill_keeps n (sums false xs ys) s w (inr (omega (arith, sums_length false xs ys same, bits_length s es))) ∙ z.zeros w (omega arith)) in
    record {
      grows = omega arith;
      places = adder_places lo hi n es fs (suc j) v o;
      held = (record { off = inr (omega (arith, o.output, o.left_width)); below = omega (arith, o.left_width) }, tt);
      width = refl;
      value = bit_number (run (adder es fs n v) s (n + v + v - 1)) ∙ ap (λ (f : Wires). bit (f (n + v + v - 1))) (adder_fill lo hi n es fs (suc j) v s o z (omega (arith, o.left_width))) ∙ ap bit at ∙ less_value xs ys a (suc j) same wide d;
    }

pub less_makes : (lo hi n : ℕ) (es fs : List ℕ) (j : ℕ) (s : Wires) → Operands lo hi n es fs (suc j) → Zero n s
    → Makes lo hi n s (less_piece es fs n) 1 (bit (nat_lt (number (map s es)) (number (map s fs))))
less_makes lo hi n es fs j s o z =
    let w : ℕ = suc j in
    let a : ℕ = number (map s es) in
    let one : Circuit = not_piece es n in
    let m1 : Makes lo hi n s one w (2 ^ w - 1 - a) = not_makes lo hi n es w s (itself lo hi n es w o.output o.left o.left_width) z in
    let s1 : Wires = run one.gates s in
    let z1 : Zero one.next s1 = zero_after lo hi n one.next one.gates s m1.grows m1.places z in
    let o1 : Operands lo hi one.next one.word fs w = operands_after lo hi n s one (2 ^ w - 1 - a) w fs o.output m1 o.right o.right_width in
    let keep : number (map s1 fs) ≡ number (map s fs) = ap number (word_keeps lo hi n one.next one.gates s m1.places fs o.right) in
    let two : Circuit = last_wire (adder_piece one.word fs one.next (length one.word)) in
    let m2 : Makes lo hi one.next s1 two 1 (bit (nat_lt a (number (map s fs)))) =
    same_value lo hi one.next s1 two 1 _ _ (ap (λ x. bit (nat_lt a x)) keep)
    (carry_makes lo hi one.next one.word fs j s1 o1 z1 a (omega (arith, m1.value, word_lt s es w o.left_width))) in
    subst (λ x. Makes lo hi n s (joined one (last_wire (adder_piece one.word fs one.next x))) 1 (bit (nat_lt a (number (map s fs))))) (fresh_length n (length es))
    (joined_makes lo hi n s one two w (2 ^ w - 1 - a) 1 _ m1 m2)

-- a piece on two words, of which the right one is made after the left one
pub binary_makes : (lo hi n : ℕ) (s : Wires) (a r : Circuit) (p : List ℕ → List ℕ → ℕ → Circuit) (w u v w' : ℕ) (f : ℕ → ℕ → ℕ) → hi ≤ n → Zero n s → Makes lo hi n s a w u → Makes lo hi a.next (run a.gates s) r w v
    → ((m : ℕ) (es fs : List ℕ) (s : Wires) → Operands lo hi m es fs w → Zero m s → Makes lo hi m s (p es fs m) w' (f (number (map s es)) (number (map s fs))))
    → Makes lo hi n s (joined a (joined r (p a.word r.word r.next))) w' (f u v)
binary_makes lo hi n s a r p w u v w' f h z m k law =
    let s1 : Wires = run a.gates s in
    let s2 : Wires = run r.gates s1 in
    let z2 : Zero r.next s2 = zero_after lo hi a.next r.next r.gates s1 k.grows k.places (zero_after lo hi n a.next a.gates s m.grows m.places z) in
    let o : Operands lo hi r.next a.word r.word w = record { output = omega (arith, m.grows, k.grows); left = held_later lo hi a.next r.next k.grows a.word m.held; right = k.held; left_width = m.width; right_width = k.width } in
    let e : number (map s2 a.word) ≡ u = ap number (word_keeps lo hi a.next r.next r.gates s1 k.places a.word m.held) ∙ m.value in
    joined_makes lo hi n s a (joined r (p a.word r.word r.next)) w u w' _ m
    (joined_makes lo hi a.next s1 r (p a.word r.word r.next) w v w' _ k
    (same_value lo hi r.next s2 (p a.word r.word r.next) w' _ _ (ap (λ x. f x (number (map s2 r.word))) e ∙ ap (f u) k.value) (law r.next a.word r.word s2 o z2)))
