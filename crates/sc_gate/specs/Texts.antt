-- Gates whose lines are read back one way.
use Rattle.std.specs.Prelude.{ℕ, ◌^◌, ◌<◌, FitsSigned, List}
use Rattle.std.specs.Int.{w64}
use Rattle.std.specs.List.{AllByRecursion}
use Rattle.sc_gate.specs.declared.gate.Wire.{Wire}
use Rattle.sc_gate.specs.declared.gate.Gate.{Gate}
use Rattle.sc_gate.specs.Gates.{operands, IsWellFormed}
use Rattle.sc_gate.specs.SameGates.{value_of}

-- the wire's number has 32 bits
abbrev pub IsNumbered : Wire → Type 0
IsNumbered w = w.number < 2 ^ 32

-- a well-formed gate with an angle of 64 bits and wires with numbers of 32 bits
pub record HasLine (g : Gate) : Type 0 where
  pub well_formed : IsWellFormed g
  pub in_range : FitsSigned w64 (value_of g.kind)
  pub numbered : AllByRecursion IsNumbered (operands g)

abbrev pub HaveLines : List Gate → Type 0
HaveLines gates = AllByRecursion HasLine gates

-- the counts of a flat text have 64 bits
abbrev pub AreCounts : ℕ → ℕ → ℕ → Type 0
AreCounts qubits cbits gates = (qubits < 2 ^ 64) × (cbits < 2 ^ 64) × (gates < 2 ^ 64)
