use Rattle.sc_deck.proofs.SequenceLaws.{unfold_on-before, unfold_on-last}
use Rattle.sc_deck.proofs.laws.appended_module.Goals as goal

pub returns : goal.returns
returns c = record { earlier = unfold_on-before; last = unfold_on-last }
