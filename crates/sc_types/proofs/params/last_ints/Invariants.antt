use Rattle.std.proofs.Common.{take}
use Rattle.sc_types.specs.Parameters.{FindsLastInt}
use Rattle.sc_types.proofs.params.last_ints.Given as goal

abbrev pub invariant-loop-i : goal.invariant-loop-i
invariant-loop-i l = FindsLastInt (take l.i l.params) l.last
