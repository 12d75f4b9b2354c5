use Rattle.std.proofs.Common.{◌<◌, get_or, length, arith}
use Rattle.sc_check.proofs.Placing.{mark_more}
use Rattle.sc_check.proofs.places.mark_region.Goals as goal

pub loop-x-preserved : goal.loop-x-preserved
loop-x-preserved c =
    let bound : get_or c.args.region.now c.loop-x.x-index 0 < length c.args.places.now = c.requires c.loop-x.x-index 0 c.loop-x-test.true in
    λ p below. mark_more c.loop-x.places c.args.step p c.mark.result _ c.args.region.now c.loop-x.x-index c.loop-x-test.true (omega arith) c.mark.ensures (c.loop-x.invariant p below)
