use Rattle.std.proofs.Common.{◌≡◌}
use Rattle.sc_types.proofs.Arguments.{rest_fault}
use Rattle.sc_types.proofs.call.arguments.Given as goal

abbrev pub invariant-loop-i : goal.invariant-loop-i
invariant-loop-i g l = rest_fault (g.N.Names.kinds l.names) l.wants l.args l.i ≡ rest_fault (g.N.Names.kinds l.names) l.wants l.args 0
