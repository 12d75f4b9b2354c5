use Rattle.sc_sched.specs.Ranks.{timed_gates}
use Rattle.sc_gate.specs.WireTables.{number_at}
use Rattle.sc_sched.proofs.HeaviestChains.{Ends}
use Rattle.sc_sched.proofs.ranks.ends.Given as goal

abbrev pub invariant-loop-x : goal.invariant-loop-x
invariant-loop-x l = Ends (timed_gates l.times l.gates) l.x l.ends.items (number_at l.last)
