use Rattle.sc_deck.proofs.HeightLaws.{reach-height, reach-shallow}
use Rattle.sc_deck.proofs.laws.reaches_are_bounded.Goals as goal

pub returns : goal.returns
returns c = record { heights = reach-height; shallow = reach-shallow }
