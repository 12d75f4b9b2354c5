use Rattle.std.proofs.Common.{◌∙◌, ◌++◌}
use Rattle.sc_deck.specs.Events.{gates_in}
use Rattle.sc_flat.specs.Walks.{rest}
use Rattle.sc_flat.proofs.StepGates.{list_more}
use Rattle.sc_flat.proofs.expander.collect.Goals as goal

pub loop-gate-preserved : goal.loop-gate-preserved
loop-gate-preserved c = record {
  kept = c.next_gate.ensures.kept;
  room = c.next_gate.ensures.room ∙ c.loop-gate.invariant.room;
  depth = c.next_gate.ensures.depth ∙ c.loop-gate.invariant.depth;
  gates =
      list_more c.loop-gate.gates c.push.new.self (gates_in (rest c.args.deck.now c.loop-gate.walk)) (gates_in (rest c.args.deck.now c.next_gate.new.self))
      (c.args.gates.now ++ gates_in (rest c.args.deck.now c.args.walk.now)) c.in-Some.gate c.loop-gate.invariant.gates c.in-Some.ensures.some c.in_ok-push.ensures.ok;
}
