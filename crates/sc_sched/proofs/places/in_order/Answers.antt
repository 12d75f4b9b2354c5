use Rattle.std.proofs.Common.{rules, arith}
use Rattle.std.proofs.lemmas.Fn.{always_returns_same}
use Rattle.sc_sched.specs.PrioritySchedules.{IsRankOrder}
use Rattle.sc_sched.specs.Laid.{before_by}
use Rattle.sc_sched.proofs.PlaceLemmas.{IsPositionOrder, position_order, weak_order}
use Rattle.sc_sched.proofs.places.in_order.Goals as goal

pub returns-clause-sorted : goal.returns-clause-sorted
returns-clause-sorted g c =
    let lawful : IsRankOrder (g.P.Priority.comes c.args.order.now) = record {
      irreflexive = g.met.P.Priority.irreflexive c.args.order.now;
      transitive = g.met.P.Priority.transitive c.args.order.now;
      total = g.met.P.Priority.total c.args.order.now;
    } in
    let o : IsPositionOrder (before_by (g.P.Priority.comes c.args.order.now) c.args.ranks.now) = position_order (g.P.Priority.comes c.args.order.now) c.args.ranks.now lawful c.requires.positions in
    λ i l. c.sort_unstable_by.ensures.sorted (before_by (g.P.Priority.comes c.args.order.now) c.args.ranks.now) (weak_order (before_by (g.P.Priority.comes c.args.order.now) c.args.ranks.now) o) (always_returns_same _ _ _ (λ a r q k. search rules)) i 0 (omega arith) l
