-- Durations of gates.
use Rattle.std.specs.Prelude.{◌≡◌, ℕ, ◌≤◌, ◌<◌, length, slice_index, List}
use Rattle.sc_gate.specs.declared.gate.Kind.{Kind}
use Rattle.sc_gate.specs.Gates.{name_of, place_of}

-- one number per name, each from 1 to a million
pub record AreTimes (times : List ℕ) : Type 0 where
  pub names : length times ≡ 18
  pub in_range : (i : ℕ) → i < 18 → (1 ≤ slice_index times i) × (slice_index times i ≤ 1000000)

-- the duration of a kind, by one number per name
abbrev pub duration : List ℕ → Kind → ℕ
duration times kind = slice_index times (place_of (name_of kind))
