-- Sets of numbers as bits of words, 64 to a word.
use Rattle.std.specs.Prelude.{◌≡◌, ℕ, ◌+◌, ◌/◌, ◌%◌, ◌<◌, ◌≤◌, ◌==◌, Bool, false, not, List, map, length, slice_index, slice_index_or}
use Rattle.std.specs.Int.{bit_at}
use Rattle.sc_sched.specs.Schedule.{positions}

abbrev pub is_member : List ℕ → ℕ → Bool
is_member words i = bit_at (slice_index words (i / 64)) (i % 64) == 1

-- which of the numbers below a bound are members
abbrev pub members : List ℕ → ℕ → List Bool
members words bound = map (is_member words) (positions bound)

-- the words have no member below `low` nor from the bound on, and it is known which have one
pub record IsWordSet (words : List ℕ) (used : List Bool) (bound low : ℕ) : Type 0 where
  pub many : length words ≡ bound / 64 + 1
  pub many_used : length used ≡ length words
  pub used_is : (j : ℕ) → j < length words → slice_index_or used j false ≡ not (slice_index words j == 0)
  pub past : (i : ℕ) → bound ≤ i → is_member words i ≡ false
  pub below : (i : ℕ) → i < low → is_member words i ≡ false
