use Rattle.sc_count.proofs.DeckTallies.{Behind}
use Rattle.sc_count.proofs.tally.tally_deck.Given as goal

abbrev pub invariant-loop-i : goal.invariant-loop-i
invariant-loop-i l = Behind l.times l.deck l.i l.tally
