use Rattle.std.proofs.Common.{length}
use Rattle.sc_read.proofs.HierHeading.{PartsRead}
use Rattle.sc_read.proofs.signature.args_of.Given as goal

abbrev pub invariant-loop-part : goal.invariant-loop-part
invariant-loop-part l = PartsRead l.inside l.rest l.args

abbrev pub decreases-loop-part : goal.decreases-loop-part
decreases-loop-part l = length l.rest
