-- A number for each class of wires: how many there are, or which fresh one is next.
use Rattle.std.specs.Prelude.{ℕ, ◌+◌, ◌<◌, List}
use Rattle.std.specs.List.{AllByRecursion}
use Rattle.sc_base.specs.declared.names.Class.{Class}
use Rattle.sc_base.specs.declared.names.Class.TheVariants.{Q, C}
use Rattle.sc_gate.specs.declared.gate.Wire.{Wire}

pub record Numbers : Type 0 where
  pub qubits : ℕ
  pub cbits : ℕ

abbrev pub number_of : Class → Numbers → ℕ
number_of Q numbers = numbers.qubits
number_of C numbers = numbers.cbits

abbrev pub no_wires : Numbers
no_wires = record { qubits = 0; cbits = 0 }

-- n more of one class
abbrev pub with_more : Class → ℕ → Numbers → Numbers
with_more Q n numbers = record numbers { qubits = numbers.qubits + n }
with_more C n numbers = record numbers { cbits = numbers.cbits + n }

-- of both classes
abbrev pub both : Numbers → ℕ
both numbers = numbers.qubits + numbers.cbits

-- where wires are numbered from 0 by class, the wire is one of so many
abbrev pub IsThere : Numbers → Wire → Type 0
IsThere numbers wire = wire.number < number_of wire.class numbers

abbrev pub AreThere : Numbers → List Wire → Type 0
AreThere numbers wires = AllByRecursion (IsThere numbers) wires
