use Rattle.sc_count.specs.Limits.{AreSound}
use Rattle.tests_path.proofs.known.last_counts.Given as goal

abbrev pub invariant-loop-body : goal.invariant-loop-body
invariant-loop-body g l = AreSound l.tally.counts
