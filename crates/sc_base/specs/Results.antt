-- One result after another.
use Rattle.std.specs.Prelude.{Result, Ok, Err}

-- the second result, which is made from the value of the first, or the first one's error
infixl 10 ◌>>=◌
abbrev pub ◌>>=◌ : {A B E : Type 0} → Result A E → (A → Result B E) → Result B E
Ok value >>= f = f value
Err fault >>= f = Err fault
