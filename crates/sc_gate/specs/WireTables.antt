-- A number for each of some wires.
use Rattle.std.specs.Prelude.{ℕ, zero, suc, Option, None, Some, slice_get}
use Rattle.std.specs.Ordering.{nat_cmp}
use Rattle.std.specs.BTreeMap.{get}
use Rattle.sc_base.specs.declared.names.Class.{Class}
use Rattle.sc_base.specs.declared.names.Class.TheVariants.{Q, C}
use Rattle.sc_gate.specs.declared.gate.Wire.{Wire}
use Rattle.sc_gate.specs.declared.wire_table.ClassTable.{ClassTable}
use Rattle.sc_gate.specs.declared.gate.Gate.{Gate}
use Rattle.sc_gate.specs.declared.wire_table.WireTable.{WireTable}
use Rattle.sc_gate.specs.declared.wire_table.OperandNumbers.{OperandNumbers}

-- the number one below a mark, where there is a mark and it is not 0; the other number where there is no mark
abbrev pub marked : Option ℕ → Option ℕ → Option ℕ
marked None other = other
marked (Some zero) other = None
marked (Some (suc number)) other = Some number

-- the number of a wire of the class
abbrev pub number_in : ClassTable → ℕ → Option ℕ
number_in table wire = marked (slice_get table.low.items wire) (get nat_cmp table.high wire)

-- the number of a wire, by its class and its own number
abbrev pub in_class : Class → WireTable → ℕ → Option ℕ
in_class Q table number = number_in table.qubits number
in_class C table number = number_in table.cbits number

abbrev pub number_at : WireTable → Wire → Option ℕ
number_at table wire = in_class wire.class table wire.number

-- the number of a wire, where there is one
abbrev pub on_wire : (Wire → Option ℕ) → Option Wire → Option ℕ
on_wire f None = None
on_wire f (Some w) = f w

-- the number of each operand of the gate
abbrev pub numbers_by : (Wire → Option ℕ) → Gate → OperandNumbers
numbers_by f gate = record { a = f gate.a; b = on_wire f gate.b; c = on_wire f gate.c }
