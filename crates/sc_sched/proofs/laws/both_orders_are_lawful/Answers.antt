use Rattle.sc_sched.specs.Laws.{greater_irreflexive, greater_transitive, greater_total}
use Rattle.sc_sched.proofs.laws.both_orders_are_lawful.Goals as goal

pub returns-clause-height : goal.returns-clause-height
returns-clause-height c = record {
  irreflexive = λ a. greater_irreflexive a.height a.position;
  transitive = λ a b d h k. greater_transitive a.height a.position b.height b.position d.height d.position h k;
  total = λ a b h k. greater_total a.height a.position b.height b.position h k;
}

pub returns-clause-through : goal.returns-clause-through
returns-clause-through c = record {
  irreflexive = λ a. greater_irreflexive a.through a.position;
  transitive = λ a b d h k. greater_transitive a.through a.position b.through b.position d.through d.position h k;
  total = λ a b h k. greater_total a.through a.position b.through b.position h k;
}
