use Rattle.std.proofs.Common.{◌+◌, ◌∙◌, arith}
use Rattle.sc_gate.specs.WireTables.{number_at}
use Rattle.sc_sched.proofs.RankSteps.{end_is, ends_more, end_fits}
use Rattle.sc_sched.proofs.ranks.ends.Goals as goal

pub overflow_add-end : goal.overflow_add-end
overflow_add-end c =
    let e = end_is c.args.times.now c.args.gates.now c.loop-x.x _ c.loop-x-test.true c.loop-x.ends.items c.deref.result.now c.deref.ensures.value (number_at c.loop-x.last) c.from-duration.result c.greatest_on.result
    (c.from-duration.ensures ∙ c.of.ensures.duration) c.greatest_on.ensures c.loop-x.invariant in
    let f = end_fits c.args.times.now c.args.gates.now c.loop-x.x c.loop-x-test.true c.requires c.of.ensures.in_range in
    omega (arith, e, f)

pub loop-x-preserved : goal.loop-x-preserved
loop-x-preserved c =
    ends_more c.args.times.now c.args.gates.now c.loop-x.x _ c.loop-x-test.true c.loop-x.ends.items c.deref.result.now c.deref.ensures.value (number_at c.loop-x.last) c.from-duration.result c.greatest_on.result
    (c.from-duration.ensures ∙ c.of.ensures.duration) c.greatest_on.ensures (number_at c.put_gate.new.self) c.in_ok-put_gate.ensures (c.loop-x.x + 1) (omega arith) c.push.new.self.items c.in-Ok-push.ensures.items c.loop-x.invariant
