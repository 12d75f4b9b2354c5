-- Whole numbers in texts that are read strictly: decimal digits with no zeros in front, and no digit behind.
use Rattle.std.specs.Prelude.{◌≡◌, ℕ, ◌^◌, ◌<◌, ◌≤◌, ℤ, FitsSigned, false, List, [], ◌∷◌, ◌++◌, codes, decimal}
use Rattle.std.specs.Char.{is_ascii_digit}
use Rattle.std.specs.Str.Parse.{IsNumeral, digits_value}
use Rattle.std.specs.Fmt.{signed_decimal}
use Rattle.std.specs.Int.{w64}
use Rattle.sc_base.specs.Decimals.{fixed_text}
use Rattle.sc_base.specs.declared.reader.Whole.{Whole}
use Rattle.sc_base.specs.declared.reader.Whole.TheVariants.{Fits, Past}

-- no digit stands here
abbrev pub EndsNumber : List ℕ → Type 0
EndsNumber [] = Unit {0}
EndsNumber (c ∷ cs) = is_ascii_digit c ≡ false

-- one digit or more, of any number, where a zero in front stands alone: the strict numeral of `digits_value 10 text`
pub record IsWhole (text : List ℕ) : Type 0 where
  pub numeral : IsNumeral 10 text
  pub no_zeros : (more : List ℕ) → text ≡ 48 ∷ more → more ≡ []

-- the text begins with a strict numeral of any length, and no digit follows it
pub record WholeFront (text digits rest : List ℕ) : Type 0 where
  pub joined : text ≡ digits ++ rest
  pub whole : IsWhole digits
  pub ends : EndsNumber rest

-- the number that the digits write, or that it has more than 64 bits
abbrev pub IsValueOf : List ℕ → Whole → Type 0
IsValueOf digits (Fits number) = (number < 2 ^ 64) × (digits ≡ decimal number)
IsValueOf digits Past = 2 ^ 64 ≤ digits_value 10 digits

-- a number from its word: the word, a space, the number and a line feed
abbrev pub number_line : List ℕ → ℕ → List ℕ
number_line word number = word ++ codes " " ++ decimal number ++ codes "\n"

-- the text begins with the decimal text of this number, with a minus where it is negative, and no digit follows it
pub record IntFront (text : List ℕ) (z : ℤ) (rest : List ℕ) : Type 0 where
  pub joined : text ≡ signed_decimal z ++ rest
  pub fits : FitsSigned w64 z
  pub ends : EndsNumber rest

-- the text begins with the text of this fixed-point number
pub record FixedFront (text : List ℕ) (z : ℤ) (rest : List ℕ) : Type 0 where
  pub joined : text ≡ fixed_text z ++ rest
  pub fits : FitsSigned w64 z
