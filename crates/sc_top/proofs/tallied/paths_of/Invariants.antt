use Rattle.sc_top.proofs.DeckPaths.{Behind}
use Rattle.sc_top.proofs.tallied.paths_of.Given as goal

abbrev pub invariant-loop-i : goal.invariant-loop-i
invariant-loop-i l = Behind l.times l.deck l.i l.paths
