use Rattle.std.proofs.Common.{ℕ, Bool, ◌<◌, List, length, subst}
use Rattle.sc_gate.specs.declared.gate.Gate.{Gate}
use Rattle.sc_sched.specs.declared.order.Rank.{Rank}
use Rattle.sc_sched.specs.Board.{layout_of}
use Rattle.sc_sched.specs.Laid.{rank_at, before_by, IsLaid}
use Rattle.sc_sched.specs.Legal.{Step}
use Rattle.sc_sched.specs.Schedule.{IsPriority}
use Rattle.sc_sched.specs.Ranks.{timed_gates, IsRank}
use Rattle.sc_sched.specs.PrioritySchedules.{IsPrioritySchedule, IsRankOrder, NoneIsWider, shop_of_gates}
use Rattle.sc_sched.proofs.OneSchedule.{order_of_ranks}
use Rattle.sc_sched.proofs.Lawful.{lawful}
use Rattle.sc_sched.proofs.scheduling.steps_by.Goals as goal

-- the steps that follow the rule by the ranks are the priority schedule
plan_of : (comes : Rank → Rank → Bool) (times : List ℕ) (gates : List Gate) (k d : ℕ) (ranks : List Rank) (steps : List Step) → IsRankOrder comes → NoneIsWider d gates →
    ((x : ℕ) → x < length gates → IsRank (timed_gates times gates) x (rank_at ranks x)) → IsPriority (shop_of_gates gates k d (before_by comes ranks)) steps → IsPrioritySchedule comes times gates k d steps
plan_of comes times gates k d ranks steps o wide ranked taken = record {
  rank = rank_at ranks;
  ranked = ranked;
  legal = lawful gates k d (before_by comes ranks) wide (order_of_ranks comes gates k d (rank_at ranks) o (λ x l. (ranked x l).position)) steps taken;
  taken = taken;
}

pub place_all-requires-clause-laid : goal.place_all-requires-clause-laid
place_all-requires-clause-laid g c = record {
  width = c.args.d;
  before = before_by (g.P.Priority.comes c.args.order.now) c.in_ok-ranks.ranks.items;
  laid = subst (λ (z : List Rank). IsLaid c.args.gates.now c.args.d (before_by (g.P.Priority.comes c.args.order.now) z) (layout_of c.in_ok-laid.laid.board) c.in_ok-laid.laid.room.items) c.as_slice.ensures.value c.in_ok-laid.ensures.laid;
  fits = c.requires.fits;
}

pub returns : goal.returns
returns g c =
    let lawful : IsRankOrder (g.P.Priority.comes c.args.order.now) = record {
      irreflexive = g.met.P.Priority.irreflexive c.args.order.now;
      transitive = g.met.P.Priority.transitive c.args.order.now;
      total = g.met.P.Priority.total c.args.order.now;
    } in
    let laid : IsLaid c.args.gates.now c.args.d (before_by (g.P.Priority.comes c.args.order.now) c.in_ok-ranks.ranks.items) (layout_of c.in_ok-laid.laid.board) c.in_ok-laid.laid.room.items =
    subst (λ (z : List Rank). IsLaid c.args.gates.now c.args.d (before_by (g.P.Priority.comes c.args.order.now) z) (layout_of c.in_ok-laid.laid.board) c.in_ok-laid.laid.room.items) c.as_slice.ensures.value c.in_ok-laid.ensures.laid in
    plan_of (g.P.Priority.comes c.args.order.now) c.args.times.now c.args.gates.now c.args.k c.args.d c.in_ok-ranks.ranks.items c.in_ok-steps.steps lawful c.requires.fits c.in_ok-ranks.ensures.ranked
    (c.in_ok-steps.ensures c.args.d (before_by (g.P.Priority.comes c.args.order.now) c.in_ok-ranks.ranks.items) laid c.requires.fits)
