use Rattle.std.proofs.Common.{◌∙◌, map, take}
use Rattle.sc_deck.specs.Unfolding.{placed}
use Rattle.sc_flat.specs.Walks.{places_of}
use Rattle.sc_flat.proofs.PassLemmas.{pass_more, passing_placed, passing_room}
use Rattle.sc_flat.proofs.walk.Walk.pass.Goals as goal

pub push-requires : goal.push-requires
push-requires c = passing_room c.args.self.now c.loop-wire.self c.args.wires.now c.loop-wire.wire-index c.loop-wire.invariant c.loop-wire-test.true c.requires.room

pub loop-wire-preserved : goal.loop-wire-preserved
loop-wire-preserved c =
    pass_more c.args.self.now c.loop-wire.self c.args.wires.now c.loop-wire.wire-index _ c.placed-placed.result c.push.new.self c.loop-wire-test.true c.loop-wire.invariant
    (c.placed-placed.ensures
    ∙ passing_placed c.args.self.now c.loop-wire.self c.args.wires.now (map (placed (places_of c.args.self.now)) (take c.loop-wire.wire-index c.args.wires.now)) c.loop-wire.wire-index _ c.loop-wire.invariant c.requires.qubits c.requires.cbits c.requires.there c.loop-wire-test.true)
    c.push.ensures
