use Rattle.sc_deck.proofs.PutLaws.{repeated-copies, fresh_in-repeated}
use Rattle.sc_deck.proofs.laws.repeats_are_copies.Goals as goal

pub returns : goal.returns
returns c = record { events = repeated-copies; sums = fresh_in-repeated }
