-- Numbers of parts of a word, and of a word with zeros.
use Rattle.std.proofs.Common.{◌≡◌, ℕ, zero, suc, ◌+◌, ◌-◌, ◌*◌, ◌/◌, ◌%◌, ◌^◌, ◌<◌, ◌≤◌, ◌⊎◌, inl, inr, Bool, List, [], ◌∷◌, ◌++◌, length, map, take, drop, min, refl, sym, ap, ◌∙◌, arith}
use Rattle.std.proofs.lemmas.Nat.{mod_low, shr_split, shr-shr, shr_high, pow-add, mod_below, pow_pos, shl_below}
use Rattle.std.proofs.Math.Nat.{add-mul, mul_assoc, mul_comm}
use Rattle.std.proofs.lemmas.Bool.Decides.{leb_tells}
use Rattle.sc_gate.specs.Runs.{bit, number}
use Rattle.sc_rev.specs.Cells.{wires_from}
use Rattle.sc_rev.proofs.Run.{Wires, Every}
use Rattle.sc_rev.proofs.Number.{twice, bit_lt}
use Rattle.sc_rev.proofs.Makes.{Zero}

pub map_append : (s : Wires) (xs ys : List ℕ) → map s (xs ++ ys) ≡ map s xs ++ map s ys
map_append s [] ys = refl
map_append s (x ∷ xs) ys = ap (λ l. s x ∷ l) (map_append s xs ys)

pub map_take : (s : Wires) (j : ℕ) (xs : List ℕ) → map s (take j xs) ≡ take j (map s xs)
map_take s zero xs = refl
map_take s (suc j) [] = refl
map_take s (suc j) (x ∷ xs) = ap (λ l. s x ∷ l) (map_take s j xs)

pub map_drop : (s : Wires) (j : ℕ) (xs : List ℕ) → map s (drop j xs) ≡ drop j (map s xs)
map_drop s zero xs = refl
map_drop s (suc j) [] = refl
map_drop s (suc j) (x ∷ xs) = map_drop s j xs

pub every_take : {A : Type 0} (P : A → Type 0) (j : ℕ) (xs : List A) → Every P xs → Every P (take j xs)
every_take P zero xs h = tt
every_take P (suc j) [] h = tt
every_take P (suc j) (x ∷ xs) h = (h.0, every_take P j xs h.1)

pub every_drop : {A : Type 0} (P : A → Type 0) (j : ℕ) (xs : List A) → Every P xs → Every P (drop j xs)
every_drop P zero xs h = h
every_drop P (suc j) [] h = tt
every_drop P (suc j) (x ∷ xs) h = every_drop P j xs h.1

pub take_length : {A : Type 0} (j : ℕ) (xs : List A) → j ≤ length xs → length (take j xs) ≡ j
take_length zero xs h = refl
take_length (suc j) [] h = absurd (omega arith)
take_length (suc j) (x ∷ xs) h = ap suc (take_length j xs (omega arith))

pub drop_length : {A : Type 0} (j : ℕ) (xs : List A) → length (drop j xs) ≡ length xs - j
drop_length zero xs = omega arith
drop_length (suc j) [] = omega arith
drop_length (suc j) (x ∷ xs) = let e : length (drop j xs) ≡ length xs - j = drop_length j xs in omega arith

pub drop_past : {A : Type 0} (j : ℕ) (xs : List A) → length xs ≤ j → drop j xs ≡ []
drop_past zero [] h = refl
drop_past zero (x ∷ xs) h = absurd (omega arith)
drop_past (suc j) [] h = refl
drop_past (suc j) (x ∷ xs) h = drop_past j xs (omega arith)

double : (q j : ℕ) → q * 2 ^ suc j ≡ 2 * (q * 2 ^ j)
double q j = ap (λ x. q * x) (twice j) ∙ (omega arith)

pub zero_mod : (j : ℕ) → 0 % 2 ^ j ≡ 0
zero_mod j = let h : 0 * 2 ^ j + 0 ≡ 0 = omega arith in ap (λ x. x % 2 ^ j) (sym h) ∙ mod_low 0 j 0 (pow_pos j)

pub number_take : (j : ℕ) (xs : List Bool) → number (take j xs) ≡ number xs % 2 ^ j
number_take zero xs = omega arith
number_take (suc j) [] = sym (zero_mod (suc j))
number_take (suc j) (x ∷ xs) =
    let q : ℕ = number xs / 2 ^ j in
    let r : ℕ = number xs % 2 ^ j in
    let e : q * 2 ^ j + r ≡ number xs = shr_split (number xs) j in
    let l : r < 2 ^ j = mod_below (number xs) (2 ^ j) (pow_pos j) in
    let b : bit x + 2 * r < 2 ^ suc j = omega (arith, twice j, bit_lt x) in
    let d : bit x + 2 * number xs ≡ q * 2 ^ suc j + (bit x + 2 * r) = omega (arith, double q j) in
    ap (λ y. bit x + 2 * y) (number_take j xs) ∙ sym (ap (λ y. y % 2 ^ suc j) d ∙ mod_low q (suc j) (bit x + 2 * r) b)

one_more : (j : ℕ) → 1 + j ≡ suc j
one_more j = omega arith

half : (x : Bool) (n : ℕ) → (bit x + 2 * n) / 2 ^ 1 ≡ n
half x n = ap (λ y. y / 2 ^ 1) (let e : bit x + 2 * n ≡ n * 2 ^ 1 + bit x = omega arith in e) ∙ shr_high n 1 (bit x) (bit_lt x)

zero_over : (j : ℕ) → 0 / 2 ^ j ≡ 0
zero_over j = let h : 0 * 2 ^ j + 0 ≡ 0 = omega arith in ap (λ x. x / 2 ^ j) (sym h) ∙ shr_high 0 j 0 (pow_pos j)

pub number_drop : (j : ℕ) (xs : List Bool) → number (drop j xs) ≡ number xs / 2 ^ j
number_drop zero xs = omega arith
number_drop (suc j) [] = sym (zero_over (suc j))
number_drop (suc j) (x ∷ xs) = number_drop j xs ∙ ap (λ y. y / 2 ^ j) (sym (half x (number xs))) ∙ shr-shr (bit x + 2 * number xs) 1 j ∙ ap (λ y. (bit x + 2 * number xs) / 2 ^ y) (one_more j)

pub number_zeros : (k n : ℕ) (s : Wires) → Zero n s → number (map s (wires_from n k)) ≡ 0
number_zeros zero n s z = refl
number_zeros (suc k) n s z = omega (arith, number_zeros k (suc n) s (record { zeros = λ w h. z.zeros w (omega arith) }), ap bit (z.zeros n (omega arith)))

pub number_append : (xs ys : List Bool) → number (xs ++ ys) ≡ number xs + number ys * 2 ^ length xs
number_append [] ys = omega arith
number_append (x ∷ xs) ys = omega (arith, number_append xs ys, double (number ys) (length xs))

pub cases_le : (a b : ℕ) → (a ≤ b) ⊎ (b < a)
cases_le a b = elim (leb_tells a b) [ inl h ↦ inl h.1 | inr h ↦ inr h.1 ]

pub shl_small : (x by d : ℕ) → (x % 2 ^ d) * 2 ^ by ≡ (x * 2 ^ by) % 2 ^ (d + by)
shl_small x by d =
    let q : ℕ = x / 2 ^ d in
    let r : ℕ = x % 2 ^ d in
    let e : q * 2 ^ d + r ≡ x = shr_split x d in
    let f : x * 2 ^ by ≡ q * 2 ^ (d + by) + r * 2 ^ by = ap (λ y. y * 2 ^ by) (sym e) ∙ add-mul (q * 2 ^ d) r (2 ^ by) ∙ ap (λ y. y + r * 2 ^ by) (mul_assoc q (2 ^ d) (2 ^ by) ∙ ap (λ y. q * y) (sym (pow-add 2 d by))) in
    sym (ap (λ y. y % 2 ^ (d + by)) f ∙ mod_low q (d + by) (r * 2 ^ by) (shl_below r d by (mod_below x (2 ^ d) (pow_pos d))))

pub shl_all : (x w d : ℕ) → (x * 2 ^ (w + d)) % 2 ^ w ≡ 0
shl_all x w d =
    let e : x * 2 ^ (w + d) ≡ (x * 2 ^ d) * 2 ^ w + 0 = ap (λ y. x * y) (pow-add 2 w d ∙ mul_comm (2 ^ w) (2 ^ d)) ∙ sym (mul_assoc x (2 ^ d) (2 ^ w)) ∙ (omega arith) in
    ap (λ y. y % 2 ^ w) e ∙ mod_low (x * 2 ^ d) w 0 (pow_pos w)

pub shl_value : (x w by : ℕ) → (by ≤ w) ⊎ (w < by) → (x % 2 ^ (w - min by w)) * 2 ^ min by w ≡ (x * 2 ^ by) % 2 ^ w
shl_value x w by (inl h) =
    let m : min by w ≡ by = omega arith in
    let d : w - by + by ≡ w = omega arith in
    ap (λ k. (x % 2 ^ (w - k)) * 2 ^ k) m ∙ shl_small x by (w - by) ∙ ap (λ k. (x * 2 ^ by) % 2 ^ k) d
shl_value x w by (inr h) =
    let m : min by w ≡ w = omega arith in
    let d : w + (by - w) ≡ by = omega arith in
    let z : w - w ≡ 0 = omega arith in
    let o : x % 2 ^ 0 ≡ 0 = omega arith in
    ap (λ k. (x % 2 ^ (w - k)) * 2 ^ k) m ∙ ap (λ k. (x % 2 ^ k) * 2 ^ w) z ∙ ap (λ k. k * 2 ^ w) o ∙ (omega arith) ∙ sym (shl_all x w (by - w)) ∙ ap (λ k. (x * 2 ^ k) % 2 ^ w) d

pub drop_min : {A : Type 0} (by : ℕ) (xs : List A) → (by ≤ length xs) ⊎ (length xs < by) → drop (min by (length xs)) xs ≡ drop by xs
drop_min by xs (inl h) = let m : min by (length xs) ≡ by = omega arith in ap (λ k. drop k xs) m
drop_min by xs (inr h) = let m : min by (length xs) ≡ length xs = omega arith in ap (λ k. drop k xs) m ∙ drop_past (length xs) xs (omega arith) ∙ sym (drop_past by xs (omega arith))
