use Rattle.std.proofs.Common.{length}
use Rattle.sc_path.proofs.front.+gathered.Given as goal

abbrev pub decreases-gathered : goal.decreases-gathered
decreases-gathered l = length l.callee.now
