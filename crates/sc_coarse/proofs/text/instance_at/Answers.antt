use Rattle.std.proofs.Common.{sym, ap, ◌∙◌}
use Rattle.std.specs.Option.{option_copied}
use Rattle.std.proofs.lemmas.Option.{slice_get-map}
use Rattle.sc_deck.specs.Modules.{key_of}
use Rattle.sc_coarse.proofs.CoarseTexts.{mapped_found, item_found}
use Rattle.sc_coarse.proofs.text.instance_at.Goals as goal

pub unwrap-key-requires : goal.unwrap-key-requires
unwrap-key-requires c = mapped_found _ key_of c.args.deck.now c.args.number c.requires.key c.key_at.ensures

pub unwrap-instance-requires : goal.unwrap-instance-requires
unwrap-instance-requires c = item_found _ c.args.c.now c.args.number c.requires.instance c.instance.ensures

pub returns-clause-key : goal.returns-clause-key
returns-clause-key c = slice_get-map key_of c.args.deck.now c.args.number ∙ (sym c.key_at.ensures ∙ ap option_copied c.unwrap-key.ensures)

pub returns-clause-instance : goal.returns-clause-instance
returns-clause-instance c = sym c.instance.ensures ∙ ap option_copied c.unwrap-instance.ensures
