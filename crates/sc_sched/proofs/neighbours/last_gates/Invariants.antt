use Rattle.std.proofs.Common.{◌≡◌, ℕ, ◌<◌, Some, length}
use Rattle.std.specs.Prelude.{slice_get}
use Rattle.sc_gate.specs.declared.gate.Wire.{Wire}
use Rattle.sc_gate.specs.declared.gate.Gate.{Gate}
use Rattle.sc_gate.specs.LastGates.{last_on}
use Rattle.sc_gate.specs.WireTables.{number_at, numbers_by}
use Rattle.sc_sched.specs.Neighbours.{neighbours_at}
use Rattle.sc_sched.proofs.neighbours.last_gates.Given as goal

abbrev pub invariant-loop-x : goal.invariant-loop-x
invariant-loop-x l = record {
  table : (w : Wire) → number_at l.table w ≡ last_on l.gates w l.x;
  many : length l.last.items ≡ l.x;
  last : (y : ℕ) (gate : Gate) → y < l.x → slice_get l.gates y ≡ Some gate → neighbours_at l.last.items y ≡ numbers_by (λ w. last_on l.gates w y) gate;
}
