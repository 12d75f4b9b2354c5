use Rattle.sc_sched.specs.Ranks.{timed_gates}
use Rattle.sc_sched.proofs.RankSteps.{AreRanks}
use Rattle.sc_sched.proofs.ranks.ranks.Given as goal

abbrev pub invariant-loop-x : goal.invariant-loop-x
invariant-loop-x l = AreRanks (timed_gates l.times l.gates) l.x l.ranks.items
