use Rattle.std.proofs.Common.{◌≡◌, length}
use Rattle.sc_open.specs.Lowering.{needs_spare}
use Rattle.sc_open.proofs.writer.needs_spare.Given as goal

abbrev pub invariant-loop-gates : goal.invariant-loop-gates
invariant-loop-gates l = needs_spare l.gates ≡ needs_spare l.initial.gates

abbrev pub decreases-loop-gates : goal.decreases-loop-gates
decreases-loop-gates l = length l.gates
