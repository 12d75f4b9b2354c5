use Rattle.std.proofs.Common.{rules}
use Rattle.std.specs.Prelude.{IsTrue}
use Rattle.tests_low.proofs.Formed.{formed_more}
use Rattle.tests_low.proofs.cancel.are_well_formed.Goals as goal

pub loop-gate-preserved : goal.loop-gate-preserved
loop-gate-preserved c =
    let formed : IsTrue c.well_formed-formed.result = search rules in
    formed_more c.args.gates.now c.loop-gate.gate-index _ c.loop-gate-test.true c.loop-gate.invariant (c.well_formed-formed.ensures.0 formed)
