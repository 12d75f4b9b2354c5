-- The source of a drill is not too long.
use Rattle.std.proofs.Common.{◌≡◌, ℕ, zero, suc, ◌+◌, ◌-◌, ◌*◌, ◌/◌, ◌≤◌, List, ◌++◌, length, decimal, arith, length-append}
use Rattle.std.specs.Prelude.{codes, flat_map}
use Rattle.std.specs.List.{range_with_len}
use Rattle.std.proofs.lemmas.Fmt.{length-decimal-le}
use Rattle.sc_base.specs.Limits.{most_source_bytes}
use Rattle.sc_top.specs.Drills.{first_line, module_line, call_line, drill_text}

-- so many lines of at most 140 bytes each
lines_short : (f : ℕ → List ℕ) → ((i : ℕ) → i ≤ 50000 → length (f i) ≤ 140) → (a n : ℕ) → a + n ≤ 50001 → length (flat_map f (range_with_len a n)) ≤ 140 * n
lines_short f each a zero within = omega arith
lines_short f each a (suc n) within =
    omega (arith, each a (omega (arith, within)), lines_short f each (a + 1) n (omega (arith, within)), length-append (f a) (flat_map f (range_with_len (a + 1) n)))

number_short : (i : ℕ) → i ≤ 50000 → length (decimal i) ≤ 10
number_short i small = length-decimal-le 10 i (omega arith) (omega (arith, small)) (omega (arith, small))

-- how long some pieces are together
of_three : (a b c : List ℕ) → length (a ++ b ++ c) ≡ length a + length b + length c
of_three a b c = omega (arith, length-append (a ++ b) c, length-append a b)

of_five : (a b c d e : List ℕ) → length (a ++ b ++ c ++ d ++ e) ≡ length a + length b + length c + length d + length e
of_five a b c d e = omega (arith, length-append (a ++ b ++ c ++ d) e, length-append (a ++ b ++ c) d, of_three a b c)

of_seven : (a b c d e f g : List ℕ) → length (a ++ b ++ c ++ d ++ e ++ f ++ g) ≡ length a + length b + length c + length d + length e + length f + length g
of_seven a b c d e f g = omega (arith, length-append (a ++ b ++ c ++ d ++ e ++ f) g, length-append (a ++ b ++ c ++ d ++ e) f, of_five a b c d e)

module_short : (i : ℕ) → i ≤ 50000 → length (module_line i) ≤ 140
module_short i small =
    let half : i / 2 ≤ 50000 = omega (arith, small) in
    let all : length (module_line i) ≡ 8 + length (decimal i) + 28 + length (decimal (i / 2)) + 36 + length (decimal (i / 2)) + 13 =
    of_seven (codes "module m") (decimal i) (codes "(qbit a, qbit b, qbit c) { m") (decimal (i / 2)) (codes "(b, c, a); H(a); CNOT(a, b); T(c); m") (decimal (i / 2)) (codes "(a, b, c); }\n") in
    omega (arith, all, number_short i small, number_short (i / 2) half)

call_short : (i : ℕ) → i ≤ 50000 → length (call_line i) ≤ 140
call_short i small =
    let all : length (call_line i) ≡ 1 + length (decimal i) + 20 = of_three (codes "m") (decimal i) (codes "(q[0], q[1], q[2]);\n") in
    omega (arith, all, number_short i small)

pub drill_fits : (n : ℕ) → n ≤ 50000 → length (drill_text n) ≤ most_source_bytes
drill_fits n small =
    let modules : List ℕ = flat_map module_line (range_with_len 2 (n - 1)) in
    let calls : List ℕ = flat_map call_line (range_with_len 1 n) in
    let all : length (drill_text n) ≡ 62 + length modules + 24 + length calls + 2 = of_five first_line modules (codes "int main() { qbit q[3];\n") calls (codes "}\n") in
    omega (arith, all, lines_short module_line module_short 2 (n - 1) (omega (arith, small)), lines_short call_line call_short 1 n (omega (arith, small)))
