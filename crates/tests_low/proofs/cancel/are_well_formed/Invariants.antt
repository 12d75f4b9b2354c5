use Rattle.std.proofs.Common.{take}
use Rattle.sc_gate.specs.Gates.{AreWellFormed}
use Rattle.tests_low.proofs.cancel.are_well_formed.Given as goal

abbrev pub invariant-loop-gate : goal.invariant-loop-gate
invariant-loop-gate l = AreWellFormed (take l.gate-index l.gates)
