-- Wires that stand twice in a list.
use Rattle.std.specs.Prelude.{◌≡◌, ℕ, ◌+◌, ◌<◌, ◌/◌, ◌%◌, List, length, slice_get, slice_index}
use Rattle.std.specs.Int.{bit_at}
use Rattle.sc_base.specs.declared.names.Class.{Class}
use Rattle.sc_base.specs.declared.names.Class.TheVariants.{Q, C}
use Rattle.sc_gate.specs.declared.gate.Wire.{Wire}

-- the list is longer than i, and its element at i stands at an earlier place too
abbrev pub StandsEarlier : List Wire → ℕ → Type 0
StandsEarlier wires i = (j : ℕ) × (j < i) × (i < length wires) × (slice_get wires j ≡ slice_get wires i)

-- a place for each wire with a number below 65,536, qubits first
abbrev pub class_place : Class → ℕ → ℕ
class_place Q n = n
class_place C n = n + 65536

abbrev pub wire_place : Wire → ℕ
wire_place wire = class_place wire.class wire.number

-- the bit of a place in a table of words of 64 bits
abbrev pub mark_at : List ℕ → ℕ → ℕ
mark_at seen place = bit_at (slice_index seen (place / 64)) (place % 64)
