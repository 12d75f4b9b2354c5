use Rattle.std.proofs.Common.{◌≡◌, ◌≤◌, length}
use Rattle.sc_gate.specs.WireTables.{number_at}
use Rattle.sc_sched.proofs.NextGates.{IsFirst, IsNext}
use Rattle.sc_sched.proofs.neighbours.next_gates.Given as goal

abbrev pub invariant-loop-x : goal.invariant-loop-x
invariant-loop-x l = record {
  within : l.x ≤ length l.gates;
  many : length l.next.items ≡ length l.gates;
  first : IsFirst l.gates l.x (number_at l.table);
  next : IsNext l.gates l.x l.next.items;
}

abbrev pub decreases-loop-x : goal.decreases-loop-x
decreases-loop-x l = l.x
