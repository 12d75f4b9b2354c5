use Rattle.sc_deck.proofs.TurnLaws.{unfold_items-written_out}
use Rattle.sc_deck.proofs.laws.turns_are_repeats.Goals as goal

pub returns : goal.returns
returns c = unfold_items-written_out
