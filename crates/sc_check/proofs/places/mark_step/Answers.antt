use Rattle.std.proofs.Common.{arith}
use Rattle.sc_check.proofs.Placing.{step_more}
use Rattle.sc_check.proofs.places.mark_step.Goals as goal

pub loop-region-preserved : goal.loop-region-preserved
loop-region-preserved c =
    λ p below. step_more c.loop-region.places c.mark_region.new.places c.args.step p _ c.args.regions.now c.region-item.result c.loop-region.region-index c.loop-region-test.true
    c.region-item.is (rw c.as_slice.ensures at (c.mark_region.ensures p (omega arith))) (c.loop-region.invariant p below)
