use Rattle.std.proofs.lemmas.Result.{IfOk-at_ok}
use Rattle.sc_deck.specs.Bodies.{wires_of}
use Rattle.sc_deck.specs.Items.{GateFits}
use Rattle.sc_elab.proofs.advance.measure.Goals as goal

pub apply-requires-clause-fits : goal.apply-requires-clause-fits
apply-requires-clause-fits c = IfOk-at_ok (GateFits (wires_of c.args.frame.now.body)) c.in_ok-gate.ensures.ok c.requires.fits
