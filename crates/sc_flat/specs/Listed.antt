-- What is held of a list of numbers.
use Rattle.std.specs.Prelude.{ℕ, List}

-- the numbers, and for how many there is room
pub record Listed : Type 0 where
  pub numbers : List ℕ
  pub room : ℕ
