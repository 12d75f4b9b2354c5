use Rattle.std.proofs.Common.{◌≡◌, [], ◌∷◌, decimal, refl, arith}
use Rattle.std.proofs.lemmas.Fmt.{decimal_digit}
use Rattle.sc_open.proofs.laws.small_gate_lists_are_lowered.Goals as goal

zero : decimal 0 ≡ 48 ∷ []
zero = decimal_digit 0 (omega arith)

one : decimal 1 ≡ 49 ∷ []
one = decimal_digit 1 (omega arith)

two : decimal 2 ≡ 50 ∷ []
two = decimal_digit 2 (omega arith)

seven : decimal 7 ≡ 55 ∷ []
seven = decimal_digit 7 (omega arith)

pub returns : goal.returns
returns c = record { two_gates = rw (zero, one, two) refl; measured = rw (zero, one) refl; back = rw (zero, one, seven) refl }
