-- The classes of bytes are apart.
use Rattle.std.proofs.Common.{ℕ, ◌≡◌, true, arith}
use Rattle.std.proofs.lemmas.Bool.Decides.{nat_tests}
use Rattle.sc_base.specs.NameTexts.{begins_name}
use Rattle.sc_syntax.specs.Bytes.{is_digit}
use Rattle.sc_syntax.specs.Spaces.{is_white}

pub white_letter : (c : ℕ) → is_white c ≡ true → begins_name c ≡ true → ⊥
white_letter c h k = grind (arith, nat_tests)

pub white_digit : (c : ℕ) → is_white c ≡ true → is_digit c ≡ true → ⊥
white_digit c h k = grind (arith, nat_tests)

pub letter_digit : (c : ℕ) → begins_name c ≡ true → is_digit c ≡ true → ⊥
letter_digit c h k = grind (arith, nat_tests)
