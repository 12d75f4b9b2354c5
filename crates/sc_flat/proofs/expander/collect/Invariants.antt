use Rattle.std.proofs.Common.{◌≡◌, ◌++◌, length}
use Rattle.sc_deck.specs.Events.{gates_in}
use Rattle.sc_flat.specs.Kept.{WalkKept}
use Rattle.sc_flat.specs.Walks.{rest}
use Rattle.sc_flat.proofs.expander.collect.Given as goal

abbrev pub invariant-loop-gate : goal.invariant-loop-gate
invariant-loop-gate l = record {
  kept : WalkKept l.deck l.walk;
  room : l.walk.wires.room ≡ l.fn.walk.wires.room;
  depth : l.walk.below.room ≡ l.fn.walk.below.room;
  gates : l.gates ++ gates_in (rest l.deck l.walk) ≡ l.fn.gates ++ gates_in (rest l.deck l.fn.walk);
}

abbrev pub decreases-loop-gate : goal.decreases-loop-gate
decreases-loop-gate l = length (gates_in (rest l.deck l.walk))
