use Rattle.std.proofs.Common.{None, take}
use Rattle.sc_base.specs.declared.Class.TheVariants.{Q}
use Rattle.sc_gate.specs.declared.gate.Gate.{Gate}
use Rattle.sc_gate.specs.declared.gate.Kind.TheVariants.{X}
use Rattle.sc_deck.specs.Bodies.{wires_of}
use Rattle.sc_elab.proofs.PushedGates.{fits_behind, fits_at, turns_at}
use Rattle.sc_elab.proofs.gates.push_all.Goals as goal

pub fold_gate-requires-clause-there : goal.fold_gate-requires-clause-there
fold_gate-requires-clause-there c =
    let gates = c.args.gates.now in
    let d : Gate = record { kind = X; a = record { class = Q; number = 0 }; b = None; c = None } in
    (fits_behind c.args.body.now c.loop-gate.body (take c.loop-gate.gate-index gates) _ c.loop-gate.invariant
    (fits_at (wires_of c.args.body.now) gates c.loop-gate.gate-index d c.loop-gate-test.true c.requires.fits)).there

pub fold_gate-requires-clause-room : goal.fold_gate-requires-clause-room
fold_gate-requires-clause-room c =
    turns_at c.args.body.now c.loop-gate.body c.args.gates.now c.loop-gate.gate-index c.loop-gate-test.true c.loop-gate.invariant c.requires.turns
