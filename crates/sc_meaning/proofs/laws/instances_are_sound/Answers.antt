use Rattle.sc_meaning.proofs.SoundDecks.{all_decks, all_sound}
use Rattle.sc_meaning.proofs.laws.instances_are_sound.Goals as goal

pub returns : goal.returns
returns c = record { decks = all_decks; sound = all_sound }
