use Rattle.sc_sched.specs.Numbering.{number_of, AreNumbered, IsTableOf}
use Rattle.sc_sched.proofs.kinds.number_kinds.Given as goal

abbrev pub invariant-loop-gate : goal.invariant-loop-gate
invariant-loop-gate l = record {
  numbered : AreNumbered l.gates l.gate-index l.d l.kind.items l.room.items;
  table : IsTableOf l.gates l.gate-index l.kind.items (number_of l.table);
}
