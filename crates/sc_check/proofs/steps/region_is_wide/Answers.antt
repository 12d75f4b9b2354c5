use Rattle.std.proofs.Common.{sym}
use Rattle.sc_check.proofs.WideRegions.{wide_now}
use Rattle.sc_check.proofs.steps.region_is_wide.Goals as goal

pub returns-then-sum-d : goal.returns-then-sum-d
returns-then-sum-d c = sym (wide_now c.args.gates.now c.args.region.now c.loop-x.x-index _ c.args.d c.loop-x.sum c.arity.result c.loop-x-test.true (λ i l. c.requires i 0 l) c.loop-x.invariant.sum_is c.arity.ensures c.if-sum-d.true)
