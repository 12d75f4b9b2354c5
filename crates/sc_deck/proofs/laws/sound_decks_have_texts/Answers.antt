use Rattle.sc_deck.proofs.TextLaws.{IsHier-sound, IsWithinLimits-sound}
use Rattle.sc_deck.proofs.laws.sound_decks_have_texts.Goals as goal

pub returns : goal.returns
returns c = record { text = IsHier-sound; limits = IsWithinLimits-sound }
