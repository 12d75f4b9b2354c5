-- One option after another.
use Rattle.std.specs.Prelude.{Option, option_and_then}

-- the second option, which is made from the value of the first, or None where the first is
infixl 10 ◌>>=◌
abbrev pub ◌>>=◌ : {A B : Type 0} → Option A → (A → Option B) → Option B
option >>= f = option_and_then f option
