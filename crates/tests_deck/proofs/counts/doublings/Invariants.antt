use Rattle.std.proofs.Common.{◌≡◌, ◌+◌, length}
use Rattle.sc_count.specs.Limits.{AreSound}
use Rattle.tests_deck.proofs.counts.doublings.Given as goal

abbrev pub invariant-loop-i : goal.invariant-loop-i
invariant-loop-i l = record { len : length l.tally.counts ≡ l.i + 1; sound : AreSound l.tally.counts }
