use Rattle.sc_deck.proofs.OneTextLaws.{IsHier-one}
use Rattle.sc_deck.proofs.laws.one_list_for_a_text.Goals as goal

pub returns : goal.returns
returns c = IsHier-one
