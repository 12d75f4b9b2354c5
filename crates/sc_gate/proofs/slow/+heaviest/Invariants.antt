use Rattle.std.proofs.Common.{length}
use Rattle.sc_gate.proofs.slow.+heaviest.Given as goal

abbrev pub decreases-heaviest : goal.decreases-heaviest
decreases-heaviest l = length l.gates.now
