use Rattle.std.proofs.Common.{sym, below_more, arith}
use Rattle.sc_check.proofs.MixedKinds.{mixed_now, same_now, mixed_none}
use Rattle.sc_check.proofs.steps.region_is_mixed.Goals as goal

pub returns-then-not-same_kind : goal.returns-then-not-same_kind
returns-then-not-same_kind c = sym (mixed_now c.args.gates.now c.args.region.now c.loop-x.x-index _ c.same_kind.result c.loop-x-test.true (λ i l. c.requires i 0 l) c.same_kind.ensures c.if-not-same_kind.true)

pub loop-x-preserved : goal.loop-x-preserved
loop-x-preserved c = below_more _ _ c.loop-x.invariant
    (same_now c.args.gates.now c.args.region.now c.loop-x.x-index _ c.same_kind.result c.loop-x-test.true (λ i l. c.requires i 0 l) c.same_kind.ensures c.if-not-same_kind.false)

pub returns : goal.returns
returns c = sym (mixed_none c.args.gates.now c.args.region.now (λ i l. c.requires i 0 l) (λ j l. c.loop-x.invariant j (omega arith)))
