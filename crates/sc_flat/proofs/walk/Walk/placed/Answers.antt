use Rattle.std.proofs.Common.{◌∙◌, ap}
use Rattle.sc_base.specs.declared.names.Class.TheVariants.{Q, C}
use Rattle.sc_deck.specs.Renaming.{wire}
use Rattle.sc_flat.specs.Walks.{own_qubits, own_cbits}
use Rattle.sc_flat.proofs.PlaceLemmas.{placed_qubit, placed_cbit}
use Rattle.sc_flat.proofs.walk.Walk.placed.Goals as goal

pub returns-in-Q : goal.returns-in-Q
returns-in-Q c =
    c.qubit.ensures ∙ ap (wire Q) c.number.ensures ∙ placed_qubit c.args.wire (own_qubits c.args.self.now) (own_cbits c.args.self.now) c.in-Q.is c.requires.there

pub returns-in-C : goal.returns-in-C
returns-in-C c =
    c.cbit.ensures ∙ ap (wire C) c.number-in-C.ensures ∙ placed_cbit c.args.wire (own_qubits c.args.self.now) (own_cbits c.args.self.now) c.in-C.is c.requires.there
