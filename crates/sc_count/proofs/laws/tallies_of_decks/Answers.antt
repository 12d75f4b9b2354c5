use Rattle.sc_count.proofs.TallyLaws.{stands-made, stands-sound, stands-more}
use Rattle.sc_count.proofs.laws.tallies_of_decks.Goals as goal

pub returns : goal.returns
returns c = record { made = stands-made; sound = stands-sound; more = stands-more }
