use Rattle.std.proofs.Common.{◌≤◌, length}
use Rattle.sc_sched.specs.Ranks.{timed_gates}
use Rattle.sc_gate.specs.WireTables.{number_at}
use Rattle.sc_sched.proofs.HeaviestChains.{Tails}
use Rattle.sc_sched.proofs.ranks.heights.Given as goal

abbrev pub invariant-loop-x : goal.invariant-loop-x
invariant-loop-x l = record {
  within : l.x ≤ length l.gates;
  tails : Tails (timed_gates l.times l.gates) l.x l.heights.items (number_at l.next);
}

abbrev pub decreases-loop-x : goal.decreases-loop-x
decreases-loop-x l = l.x
