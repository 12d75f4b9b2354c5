-- Numbers of bits, and bits as items of lists.
use Rattle.std.proofs.Common.{◌≡◌, ℕ, zero, suc, ◌+◌, ◌*◌, ◌^◌, ◌<◌, Bool, true, false, List, [], ◌∷◌, length, get_or, set, bit_xor, refl, ap, arith}
use Rattle.std.proofs.Math.Nat.{pow-suc}
use Rattle.std.proofs.lemmas.Nat.{xor_block}
use Rattle.sc_gate.specs.BitRuns.{xors}
use Rattle.sc_gate.specs.Runs.{xor, bit_at, xor_at, bit, number}

-- a truth value of a list as its item
pub bit_at-get_or : (bits : List Bool) (w : ℕ) (d : Bool) → w < length bits → bit_at bits w ≡ get_or bits w d
bit_at-get_or [] w d h = absurd (omega arith)
bit_at-get_or (x ∷ bits) zero d h = refl
bit_at-get_or (x ∷ bits) (suc w) d h = bit_at-get_or bits w d (omega arith)

pub xor_at-set : (w : ℕ) (v : Bool) (bits : List Bool) → xor_at w v bits ≡ set bits w (xor (bit_at bits w) v)
xor_at-set w v [] = refl
xor_at-set zero v (x ∷ bits) = refl
xor_at-set (suc w) v (x ∷ bits) = ap (λ (l : List Bool). x ∷ l) (xor_at-set w v bits)

bit_below : (b : Bool) → bit b < 2
bit_below true = omega arith
bit_below false = omega arith

-- n bits count up to 2^n - 1
pub number_below : (bits : List Bool) → number bits < 2 ^ length bits
number_below [] = omega arith
number_below (b ∷ bits) = omega (arith, number_below bits, bit_below b, pow-suc 2 (length bits))

bit_one : (x y : Bool) → bit x ≡ bit y → x ≡ y
bit_one true true e = refl
bit_one false false e = refl
bit_one true false e = absurd (omega arith)
bit_one false true e = absurd (omega arith)

-- as many bits with one number are equal
pub number_one_to_one : (xs ys : List Bool) → length xs ≡ length ys → number xs ≡ number ys → xs ≡ ys
number_one_to_one [] [] h e = refl
number_one_to_one [] (y ∷ ys) h e = absurd (omega arith)
number_one_to_one (x ∷ xs) [] h e = absurd (omega arith)
number_one_to_one (x ∷ xs) (y ∷ ys) h e =
    let a = bit_below x in
    let b = bit_below y in
    let s : bit x + 2 * number xs ≡ bit y + 2 * number ys = e in
    let first : bit x ≡ bit y = omega (arith, s, a, b) in
    let later : number xs ≡ number ys = omega (arith, s, a, b) in
    let x_is = bit_one x y first in
    let rest = number_one_to_one xs ys (omega arith) later in
    λ i. x_is i ∷ rest i

bit-xor : (x y : Bool) → bit (xor x y) ≡ bit_xor (bit x) (bit y)
bit-xor true true = refl
bit-xor true false = refl
bit-xor false true = refl
bit-xor false false = refl

turned : (b n : ℕ) → b + 2 * n ≡ n * 2 ^ 1 + b
turned b n = omega arith

-- the number of a xor is the xor of the numbers
pub number-xors : (xs ys : List Bool) → length xs ≡ length ys → number (xors xs ys) ≡ bit_xor (number xs) (number ys)
number-xors [] [] h = refl
number-xors [] (y ∷ ys) h = absurd (omega arith)
number-xors (x ∷ xs) [] h = absurd (omega arith)
number-xors (x ∷ xs) (y ∷ ys) h =
    let r : number (xors xs ys) ≡ bit_xor (number xs) (number ys) = number-xors xs ys (omega arith) in
    let q : bit_xor (number xs * 2 ^ 1 + bit x) (number ys * 2 ^ 1 + bit y) ≡ bit_xor (number xs) (number ys) * 2 ^ 1 + bit_xor (bit x) (bit y) = xor_block 1 (number xs) (number ys) (bit x) (bit y) (bit_below x) (bit_below y) in
    cc (bit-xor x y, turned (bit x) (number xs), turned (bit y) (number ys), turned (bit (xor x y)) (number (xors xs ys)))
