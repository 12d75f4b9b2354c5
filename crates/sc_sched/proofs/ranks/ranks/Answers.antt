use Rattle.std.proofs.Common.{◌≡◌, ◌+◌, ◌<◌, length, refl, ◌∙◌, arith}
use Rattle.sc_gate.specs.Heights.{height_at}
use Rattle.sc_sched.specs.Ranks.{timed_gates, end_at}
use Rattle.sc_sched.proofs.Free.{index_is}
use Rattle.sc_sched.proofs.RankSteps.{lasts_within, through_is, through_fits, ranks_more}
use Rattle.sc_sched.proofs.ranks.ranks.Goals as goal

pub overflow_sub-before : goal.overflow_sub-before
overflow_sub-before c =
    let b : c.loop-x.x < length c.in_ok-ends.ends.items = omega (arith, c.in_ok-ends.ensures.many) in
    let e : c.index.result.now ≡ end_at (timed_gates c.args.times.now c.args.gates.now) c.loop-x.x = index_is c.in_ok-ends.ends.items c.in_ok-ends.ends.items c.loop-x.x c.index.result.now c.index.ensures b refl ∙ c.in_ok-ends.ensures.ends c.loop-x.x c.loop-x-test.true in
    lasts_within c.args.times.now c.args.gates.now c.loop-x.x _ c.loop-x-test.true c.index.result.now c.from.result e (c.from.ensures ∙ c.of.ensures.duration)

pub overflow_add-rank : goal.overflow_add-rank
overflow_add-rank c =
    let a : c.loop-x.x < length c.in_ok-heights.heights.items = omega (arith, c.in_ok-heights.ensures.many) in
    let b : c.loop-x.x < length c.in_ok-ends.ends.items = omega (arith, c.in_ok-ends.ensures.many) in
    let h : c.index-height.result.now ≡ height_at (timed_gates c.args.times.now c.args.gates.now) c.loop-x.x =
    index_is c.in_ok-heights.heights.items c.in_ok-heights.heights.items c.loop-x.x c.index-height.result.now c.index-height.ensures a refl ∙ c.in_ok-heights.ensures.heights c.loop-x.x c.loop-x-test.true in
    let e : c.index.result.now ≡ end_at (timed_gates c.args.times.now c.args.gates.now) c.loop-x.x = index_is c.in_ok-ends.ends.items c.in_ok-ends.ends.items c.loop-x.x c.index.result.now c.index.ensures b refl ∙ c.in_ok-ends.ensures.ends c.loop-x.x c.loop-x-test.true in
    let t = through_is c.args.times.now c.args.gates.now c.loop-x.x _ c.loop-x-test.true c.index-height.result.now c.index.result.now c.from.result h e (c.from.ensures ∙ c.of.ensures.duration) in
    let f = through_fits c.args.times.now c.args.gates.now c.loop-x.x c.loop-x-test.true c.requires c.of.ensures.in_range in
    omega (arith, t, f)

pub loop-x-preserved : goal.loop-x-preserved
loop-x-preserved c =
    let a : c.loop-x.x < length c.in_ok-heights.heights.items = omega (arith, c.in_ok-heights.ensures.many) in
    let b : c.loop-x.x < length c.in_ok-ends.ends.items = omega (arith, c.in_ok-ends.ensures.many) in
    let h : c.index-height.result.now ≡ height_at (timed_gates c.args.times.now c.args.gates.now) c.loop-x.x =
    index_is c.in_ok-heights.heights.items c.in_ok-heights.heights.items c.loop-x.x c.index-height.result.now c.index-height.ensures a refl ∙ c.in_ok-heights.ensures.heights c.loop-x.x c.loop-x-test.true in
    let e : c.index.result.now ≡ end_at (timed_gates c.args.times.now c.args.gates.now) c.loop-x.x = index_is c.in_ok-ends.ends.items c.in_ok-ends.ends.items c.loop-x.x c.index.result.now c.index.ensures b refl ∙ c.in_ok-ends.ensures.ends c.loop-x.x c.loop-x-test.true in
    ranks_more c.args.times.now c.args.gates.now c.loop-x.x c.loop-x-test.true c.loop-x.ranks.items c.push.new.self.items _ c.loop-x.invariant c.in-Ok-push.ensures.items h
    (through_is c.args.times.now c.args.gates.now c.loop-x.x _ c.loop-x-test.true c.index-height.result.now c.index.result.now c.from.result h e (c.from.ensures ∙ c.of.ensures.duration)) refl (c.loop-x.x + 1) (omega arith)
