use Rattle.sc_deck.proofs.SequenceLaws.{unfold_items-append}
use Rattle.sc_deck.proofs.laws.items_in_sequence.Goals as goal

pub returns : goal.returns
returns c = unfold_items-append
