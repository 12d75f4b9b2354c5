use Rattle.std.proofs.Common.{sym, ap, ◌∙◌, slice_get}
use Rattle.std.specs.Option.{option_copied}
use Rattle.sc_deck.specs.Modules.{key_of, body_of}
use Rattle.sc_hier.proofs.TextLemmas.{is_found, module_of_parts}
use Rattle.sc_hier.proofs.write.module_at.Goals as goal

pub unwrap-key-requires : goal.unwrap-key-requires
unwrap-key-requires c = is_found _ key_of c.args.deck.now c.args.number c.requires c.key_at.ensures

pub unwrap-body-requires : goal.unwrap-body-requires
unwrap-body-requires c = is_found _ body_of c.args.deck.now c.args.number c.requires c.body_at.ensures

pub returns : goal.returns
returns c =
    module_of_parts (slice_get c.args.deck.now c.args.number) _ _ (sym c.key_at.ensures ∙ ap option_copied c.unwrap-key.ensures) (sym c.body_at.ensures ∙ ap option_copied c.unwrap-body.ensures)
