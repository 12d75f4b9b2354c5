-- Decimal literals, and the text of a fixed-point number, which counts units of 10^-12.
-- The literals are those of C without exponents, suffixes and hexadecimal digits, read exactly.
-- Whole numbers and digits are those of std: `decimal n`, `AllDigits`, `IsNumeral`, `digits_value`.
use Rattle.std.specs.Prelude.{◌≡◌, ℕ, ◌+◌, ◌-◌, ◌/◌, ◌%◌, ◌^◌, ℤ, pos, negsuc, List, ◌∷◌, ◌++◌, length, take, replicate, decimal}
use Rattle.std.specs.Str.Parse.{IsNumeral, digits_value}

-- exactly twelve decimals: those past the twelfth are dropped, and zeros stand for missing ones
abbrev pub twelve : List ℕ → List ℕ
twelve decimals = take 12 decimals ++ replicate (12 - length decimals) 48

-- A decimal literal and its value in units of 10^-12. It is one digit or more with exactly one point before,
-- behind or among them. Its value is the number of all digits before the point and of twelve decimals.
pub record IsDecimal (text : List ℕ) (units : ℕ) : Type 0 where
  pub whole : List ℕ
  pub decimals : List ℕ
  pub joined : text ≡ whole ++ 46 ∷ decimals
  pub digits : IsNumeral 10 (whole ++ decimals)
  pub value : units ≡ digits_value 10 (whole ++ twelve decimals)

-- a number below 10^12 as exactly twelve digits, with zeros in front
unfoldable pub twelve_digits : ℕ → List ℕ
twelve_digits n = replicate (12 - length (decimal n)) 48 ++ decimal n

-- the text of a number of units of at least 0: the whole part, a point and twelve decimals
unfoldable pub units_text : ℕ → List ℕ
units_text units = decimal (units / 10 ^ 12) ++ 46 ∷ twelve_digits (units % 10 ^ 12)

-- the text of a fixed-point number: that of its units, with a minus before it where it is negative
abbrev pub fixed_text : ℤ → List ℕ
fixed_text (pos units) = units_text units
fixed_text (negsuc units) = 45 ∷ units_text (units + 1)
