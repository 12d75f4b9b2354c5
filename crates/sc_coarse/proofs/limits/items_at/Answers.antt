use Rattle.std.proofs.Common.{sym, ap, ◌∙◌, slice_get}
use Rattle.std.specs.Option.{option_copied}
use Rattle.sc_deck.specs.Modules.{body_of}
use Rattle.sc_coarse.proofs.CoarseTexts.{mapped_found}
use Rattle.sc_coarse.proofs.WideAndLong.{items_found}
use Rattle.sc_coarse.proofs.limits.items_at.Goals as goal

pub unwrap-requires : goal.unwrap-requires
unwrap-requires c = mapped_found _ body_of c.args.deck.now c.args.i c.requires c.body_at.ensures

pub returns : goal.returns
returns c = items_found (slice_get c.args.deck.now c.args.i) c.unwrap.result.now _ (sym (ap option_copied c.unwrap.ensures) ∙ c.body_at.ensures) c.items.ensures
