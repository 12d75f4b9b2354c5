use Rattle.std.proofs.Common.{◌≡◌, length}
use Rattle.sc_deck.specs.Events.{gates_in}
use Rattle.sc_flat.specs.Kept.{WalkKept}
use Rattle.sc_flat.specs.Walks.{rest}
use Rattle.sc_flat.proofs.walk.Walk.next_gate.Given as goal

abbrev pub invariant-steps : goal.invariant-steps
invariant-steps l = record {
  kept : WalkKept l.deck l.self;
  room : l.self.wires.room ≡ l.fn.self.wires.room;
  depth : l.self.below.room ≡ l.fn.self.below.room;
  gates : gates_in (rest l.deck l.fn.self) ≡ gates_in (rest l.deck l.self);
}

abbrev pub decreases-steps : goal.decreases-steps
decreases-steps l = length (rest l.deck l.self)
