-- The gates next to each gate on its wires.
use Rattle.std.specs.Prelude.{◌≡◌, ℕ, zero, suc, ◌<◌, ◌==◌, ◌&&◌, ◌||◌, Bool, true, false, Option, Some, None, List, length, slice_get, slice_index_or}
use Rattle.sc_gate.specs.declared.gate.Wire.{Wire}
use Rattle.sc_gate.specs.declared.gate.Gate.{Gate}
use Rattle.sc_gate.specs.LastGates.{has_wire, last_on}
use Rattle.sc_gate.specs.declared.wire_table.OperandNumbers.{OperandNumbers}
use Rattle.sc_gate.specs.WireTables.{numbers_by}
use Rattle.sc_sched.specs.declared.neighbours.Marks.{Marks}

abbrev pub none_or : (ℕ → Bool) → Option ℕ → Bool
none_or p None = true
none_or p (Some x) = p x

-- each number passes
abbrev pub each : (ℕ → Bool) → OperandNumbers → Bool
each p n = none_or p n.a && (none_or p n.b && none_or p n.c)

abbrev pub is_number : Option ℕ → ℕ → Bool
is_number None x = false
is_number (Some y) x = y == x

-- it is one of the numbers
abbrev pub holds : OperandNumbers → ℕ → Bool
holds n x = is_number n.a x || (is_number n.b x || is_number n.c x)

-- the position one below a mark; 0 marks none
abbrev pub position_of : ℕ → Option ℕ
position_of zero = None
position_of (suc x) = Some x

abbrev pub unmarked : Marks → OperandNumbers
unmarked m = record { a = position_of m.a; b = position_of m.b; c = position_of m.c }

abbrev pub neighbours_at : List Marks → ℕ → OperandNumbers
neighbours_at all x = unmarked (slice_index_or all x (record { a = 0; b = 0; c = 0 }))

-- for each gate the last gates before it on its wires
pub record AreLast (gates : List Gate) (last : List Marks) : Type 0 where
  pub many : length last ≡ length gates
  pub is : (x : ℕ) (gate : Gate) → slice_get gates x ≡ Some gate → neighbours_at last x ≡ numbers_by (λ w. last_on gates w x) gate

-- for each gate positions among which are the first gates after it on its wires
pub record AreNext (gates : List Gate) (next : List Marks) : Type 0 where
  pub many : length next ≡ length gates
  pub inside : (p x : ℕ) → holds (neighbours_at next p) x ≡ true → x < length gates
  pub found : (p x : ℕ) (w : Wire) → has_wire (slice_get gates x) w ≡ true → last_on gates w x ≡ Some p → holds (neighbours_at next p) x ≡ true
