use Rattle.sc_deck.proofs.TextLaws.{IsDeck-front, AreProper-front}
use Rattle.sc_deck.proofs.laws.fronts_are_proper.Goals as goal

pub returns : goal.returns
returns c = record { deck = IsDeck-front; text = AreProper-front }
