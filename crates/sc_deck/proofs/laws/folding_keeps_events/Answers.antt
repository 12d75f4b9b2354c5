use Rattle.sc_deck.proofs.TurnLaws.{folded-written_out, folded-push, unfold_items-folded, expansion-folded}
use Rattle.sc_deck.proofs.laws.folding_keeps_events.Goals as goal

pub returns : goal.returns
returns c = record { stand = folded-written_out; push = folded-push; items = unfold_items-folded; modules = expansion-folded }
