-- The numbers of bits.
use Rattle.std.proofs.Common.{◌≡◌, ℕ, zero, suc, ◌+◌, ◌*◌, ◌%◌, ◌^◌, ◌<◌, ◌≤◌, Bool, true, false, not, ◌&&◌, ◌||◌, List, [], ◌∷◌, length, map, bit_and, bit_or, bit_xor, refl, sym, ap, ◌∙◌, subst, arith}
use Rattle.std.proofs.Math.Nat.{pow-suc}
use Rattle.std.proofs.lemmas.Nat.{mod_low, and_block, or_block, xor_block}
use Rattle.sc_gate.specs.Runs.{xor, bit, number}
use Rattle.sc_rev.proofs.Fill.{pairs, fill}
use Rattle.sc_rev.proofs.Run.{Wires, flip, flip_at_target, flip_else}
use Rattle.sc_rev.proofs.Adder.{carry, sums, carries}

pub bit_lt : (b : Bool) → bit b < 2
bit_lt true = omega arith
bit_lt false = omega arith

pub twice : (n : ℕ) → 2 ^ suc n ≡ 2 * 2 ^ n
twice n = omega (arith, pow-suc 2 n)

pub number_lt : (bs : List Bool) → number bs < 2 ^ length bs
number_lt [] = omega arith
number_lt (b ∷ bs) = omega (arith, number_lt bs, bit_lt b, twice (length bs))

not_bit : (b : Bool) → bit (not b) + bit b ≡ 1
not_bit true = refl
not_bit false = refl

pub number_not : (bs : List Bool) → number (map not bs) + number bs + 1 ≡ 2 ^ length bs
number_not [] = refl
number_not (b ∷ bs) = omega (arith, number_not bs, not_bit b, twice (length bs))

-- the carry that goes out at the top
abbrev pub top : Bool → List Bool → List Bool → Bool
top b [] ys = b
top b (x ∷ xs) [] = b
top b (x ∷ xs) (y ∷ ys) = top (carry b x y) xs ys

full_adder : (b x y : Bool) → bit (xor (xor x y) b) + 2 * bit (carry b x y) ≡ bit x + bit y + bit b
full_adder true true true = refl
full_adder true true false = refl
full_adder true false true = refl
full_adder true false false = refl
full_adder false true true = refl
full_adder false true false = refl
full_adder false false true = refl
full_adder false false false = refl

-- if the top carry is c, this is 2^n or 0
abbrev pub weight : ℕ → Bool → ℕ
weight n true = 2 ^ n
weight n false = 0

weight_suc : (n : ℕ) (b : Bool) → weight (suc n) b ≡ 2 * weight n b
weight_suc n true = twice n
weight_suc n false = refl

weight_zero : (b : Bool) → weight 0 b ≡ bit b
weight_zero true = refl
weight_zero false = refl

pub sums_number : (b : Bool) (xs ys : List Bool) → length xs ≡ length ys → number (sums b xs ys) + weight (length xs) (top b xs ys) ≡ number xs + number ys + bit b
sums_number b [] [] h = omega (arith, weight_zero b)
sums_number b [] (y ∷ ys) h = absurd (omega arith)
sums_number b (x ∷ xs) [] h = absurd (omega arith)
sums_number b (x ∷ xs) (y ∷ ys) h = omega (arith, sums_number (carry b x y) xs ys (omega arith), full_adder b x y, weight_suc (length xs) (top (carry b x y) xs ys))

pub sums_length : (b : Bool) (xs ys : List Bool) → length xs ≡ length ys → length (sums b xs ys) ≡ length xs
sums_length b [] [] h = refl
sums_length b [] (y ∷ ys) h = refl
sums_length b (x ∷ xs) [] h = absurd (omega arith)
sums_length b (x ∷ xs) (y ∷ ys) h = ap suc (sums_length (carry b x y) xs ys (omega arith))

sum_mod : (n a s : ℕ) (t : Bool) → s + weight n t ≡ a → s < 2 ^ n → a % 2 ^ n ≡ s
sum_mod n a s true e l = ap (λ x. x % 2 ^ n) (let q : a ≡ 1 * 2 ^ n + s = omega arith in q) ∙ mod_low 1 n s l
sum_mod n a s false e l = ap (λ x. x % 2 ^ n) (let q : a ≡ 0 * 2 ^ n + s = omega arith in q) ∙ mod_low 0 n s l

-- the sum's bits are the sum, without the top carry
pub sums_mod : (xs ys : List Bool) → length xs ≡ length ys → number (sums false xs ys) ≡ (number xs + number ys) % 2 ^ length xs
sums_mod xs ys h =
    let e : number (sums false xs ys) + weight (length xs) (top false xs ys) ≡ number xs + number ys = omega (arith, sums_number false xs ys h) in
    let l : number (sums false xs ys) < 2 ^ length xs = subst (λ n. number (sums false xs ys) < 2 ^ n) (sums_length false xs ys h) (number_lt (sums false xs ys)) in
    sym (sum_mod (length xs) (number xs + number ys) (number (sums false xs ys)) (top false xs ys) e l)

-- the top carry's wire
pub fill_top : (j : ℕ) (b : Bool) (xs ys : List Bool) → length xs ≡ suc j → length ys ≡ suc j → (c : ℕ) (s : Wires) → ((w : ℕ) → c ≤ w → s w ≡ false)
    → fill c (carries (suc j) b xs ys) s (c + j) ≡ top b xs ys
fill_top j b [] ys h k c s z = absurd (omega arith)
fill_top j b (x ∷ xs) [] h k c s z = absurd (omega arith)
fill_top zero b (x ∷ []) (y ∷ []) h k c s z =
    let e : c + zero ≡ c = omega arith in
    rw e (flip_at_target c (carry b x y) s ∙ ap (λ r. xor r (carry b x y)) (z c (omega arith)))
fill_top zero b (x ∷ []) (y ∷ d ∷ ys) h k c s z = absurd (omega arith)
fill_top zero b (x ∷ d ∷ xs) (y ∷ ys) h k c s z = absurd (omega arith)
fill_top (suc j) b (x ∷ xs) (y ∷ ys) h k c s z =
    let e : c + suc j ≡ suc c + j = omega arith in
    let s' : Wires = flip c (carry b x y) s in
    ap (fill (suc c) (carries (suc j) (carry b x y) xs ys) s') e
    ∙ fill_top j (carry b x y) xs ys (omega arith) (omega arith) (suc c) s' (λ w l. flip_else c (carry b x y) s w (λ d. absurd (omega arith)) ∙ z w (omega arith))

and_bit : (x y : Bool) → bit (x && y) ≡ bit_and (bit x) (bit y)
and_bit true true = refl
and_bit true false = refl
and_bit false true = refl
and_bit false false = refl

xor_bit : (x y : Bool) → bit (xor x y) ≡ bit_xor (bit x) (bit y)
xor_bit true true = refl
xor_bit true false = refl
xor_bit false true = refl
xor_bit false false = refl

or_bit : (x y : Bool) → bit (x || y) ≡ bit_or (bit x) (bit y)
or_bit true true = refl
or_bit true false = refl
or_bit false true = refl
or_bit false false = refl

turned : (b n : ℕ) → b + 2 * n ≡ n * 2 ^ 1 + b
turned b n = omega arith

pub number_and : (xs ys : List Bool) → length xs ≡ length ys → number (pairs (λ x y. x && y) xs ys) ≡ bit_and (number xs) (number ys)
number_and [] [] h = refl
number_and [] (y ∷ ys) h = absurd (omega arith)
number_and (x ∷ xs) [] h = absurd (omega arith)
number_and (x ∷ xs) (y ∷ ys) h =
    let r : number (pairs (λ x y. x && y) xs ys) ≡ bit_and (number xs) (number ys) = number_and xs ys (omega arith) in
    let q : bit_and (number xs * 2 ^ 1 + bit x) (number ys * 2 ^ 1 + bit y) ≡ bit_and (number xs) (number ys) * 2 ^ 1 + bit_and (bit x) (bit y) = and_block 1 (number xs) (number ys) (bit x) (bit y) (bit_lt x) (bit_lt y) in
    cc (and_bit x y, turned (bit x) (number xs), turned (bit y) (number ys), turned (bit (x && y)) (number (pairs (λ x y. x && y) xs ys)))

pub number_xor : (xs ys : List Bool) → length xs ≡ length ys → number (pairs xor xs ys) ≡ bit_xor (number xs) (number ys)
number_xor [] [] h = refl
number_xor [] (y ∷ ys) h = absurd (omega arith)
number_xor (x ∷ xs) [] h = absurd (omega arith)
number_xor (x ∷ xs) (y ∷ ys) h =
    let r : number (pairs xor xs ys) ≡ bit_xor (number xs) (number ys) = number_xor xs ys (omega arith) in
    let q : bit_xor (number xs * 2 ^ 1 + bit x) (number ys * 2 ^ 1 + bit y) ≡ bit_xor (number xs) (number ys) * 2 ^ 1 + bit_xor (bit x) (bit y) = xor_block 1 (number xs) (number ys) (bit x) (bit y) (bit_lt x) (bit_lt y) in
    cc (xor_bit x y, turned (bit x) (number xs), turned (bit y) (number ys), turned (bit (xor x y)) (number (pairs xor xs ys)))

pub number_or : (xs ys : List Bool) → length xs ≡ length ys → number (pairs (λ x y. x || y) xs ys) ≡ bit_or (number xs) (number ys)
number_or [] [] h = refl
number_or [] (y ∷ ys) h = absurd (omega arith)
number_or (x ∷ xs) [] h = absurd (omega arith)
number_or (x ∷ xs) (y ∷ ys) h =
    let r : number (pairs (λ x y. x || y) xs ys) ≡ bit_or (number xs) (number ys) = number_or xs ys (omega arith) in
    let q : bit_or (number xs * 2 ^ 1 + bit x) (number ys * 2 ^ 1 + bit y) ≡ bit_or (number xs) (number ys) * 2 ^ 1 + bit_or (bit x) (bit y) = or_block 1 (number xs) (number ys) (bit x) (bit y) (bit_lt x) (bit_lt y) in
    cc (or_bit x y, turned (bit x) (number xs), turned (bit y) (number ys), turned (bit (x || y)) (number (pairs (λ x y. x || y) xs ys)))
