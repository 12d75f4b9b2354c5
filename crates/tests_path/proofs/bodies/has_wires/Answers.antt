use Rattle.std.proofs.Common.{rules}
use Rattle.std.specs.Prelude.{IsTrue}
use Rattle.sc_deck.specs.Bodies.{wires_of}
use Rattle.sc_gate.specs.Numbers.{IsThere}
use Rattle.tests_path.proofs.Walked.{all_more}
use Rattle.tests_path.proofs.bodies.has_wires.Goals as goal

pub loop-wire-preserved : goal.loop-wire-preserved
loop-wire-preserved c =
    let there : IsTrue c.is_there.result = search rules in
    all_more (IsThere (wires_of c.args.body.now)) c.args.wires.now c.loop-wire.wire-index _ c.loop-wire-test.true c.loop-wire.invariant (c.is_there.ensures there)
