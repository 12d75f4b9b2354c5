use Rattle.std.proofs.Common.{◌-◌, ◌<◌, length, ◌∙◌, arith}
use Rattle.sc_sched.specs.Ranks.{timed_gates}
use Rattle.sc_gate.specs.WireTables.{number_at}
use Rattle.sc_sched.proofs.HeaviestChains.{tails_none}
use Rattle.sc_sched.proofs.RankSteps.{height_is, tails_more, height_fits, many_timed}
use Rattle.sc_sched.proofs.ranks.heights.Goals as goal

pub loop-x-init : goal.loop-x-init
loop-x-init c = record {
  within = omega arith;
  tails = tails_none (timed_gates c.args.times.now c.args.gates.now) _ c.in-Ok.heights.items (number_at c.in_ok-next.next) (omega (arith, many_timed c.args.times.now c.args.gates.now))
      (omega (arith, many_timed c.args.times.now c.args.gates.now, c.in-Ok.ensures.len)) c.in_ok-next.ensures;
}

pub overflow_add-duration : goal.overflow_add-duration
overflow_add-duration c =
    let l : c.loop-x.x - 1 < length c.args.gates.now = omega arith in
    let e = height_is c.args.times.now c.args.gates.now (c.loop-x.x - 1) _ l c.loop-x.heights.items c.deref.result.now c.deref.ensures.value (number_at c.loop-x.next) c.from-duration.result c.greatest_on.result
    (c.from-duration.ensures ∙ c.of.ensures.duration) c.greatest_on.ensures c.loop-x.x (omega arith) c.loop-x.invariant.tails in
    let f = height_fits c.args.times.now c.args.gates.now (c.loop-x.x - 1) l c.requires c.of.ensures.in_range in
    omega (arith, e, f)

pub loop-x-preserved : goal.loop-x-preserved
loop-x-preserved c = record {
  within = omega arith;
  tails = tails_more c.args.times.now c.args.gates.now (c.loop-x.x - 1) _ (omega arith) c.loop-x.heights.items c.deref.result.now c.deref.ensures.value (number_at c.loop-x.next) c.from-duration.result c.greatest_on.result
      (c.from-duration.ensures ∙ c.of.ensures.duration) c.greatest_on.ensures c.loop-x.x (omega arith) (number_at c.put_gate.new.self) c.in_ok-put_gate.ensures c.loop-x.invariant.tails;
}
