use Rattle.sc_deck.proofs.FoldLaws.{heights_of-folded, is_called-folded, IsWhole-folded, IsDeck-folded}
use Rattle.sc_deck.proofs.laws.folding_keeps_decks.Goals as goal

pub returns : goal.returns
returns c = record { heights = heights_of-folded; called = is_called-folded; whole = IsWhole-folded; deck = IsDeck-folded }
