use Rattle.std.proofs.Common.{◌≡◌, false, take}
use Rattle.sc_deck.specs.Hierarchical.{have_turns}
use Rattle.sc_hier.proofs.write.deck_has_turns.Given as goal

abbrev pub invariant-loop-number : goal.invariant-loop-number
invariant-loop-number l = have_turns (take l.number l.deck) ≡ false
