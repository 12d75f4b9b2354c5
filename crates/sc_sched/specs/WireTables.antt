-- The values at the numbers of wires.
use Rattle.std.specs.Prelude.{ℕ, Option, None, Some, List, slice_index}
use Rattle.sc_gate.specs.declared.gate.Wire.{Wire}
use Rattle.sc_gate.specs.declared.wire_table.WireTable.{WireTable}
use Rattle.sc_gate.specs.WireTables.{number_at}

-- the value at a number; 0 where there is none
abbrev pub value_or_zero : List ℕ → Option ℕ → ℕ
value_or_zero values None = 0
value_or_zero values (Some x) = slice_index values x

-- the value at the number of a wire
abbrev pub value_on : WireTable → List ℕ → Wire → ℕ
value_on table values wire = value_or_zero values (number_at table wire)
