use Rattle.std.proofs.Common.{◌∙◌}
use Rattle.sc_flat.proofs.StepGates.{step_gate, step_moved, step_shorter, step_ended}
use Rattle.sc_flat.proofs.walk.Walk.next_gate.Goals as goal

pub returns-in-Gate-clause-some : goal.returns-in-Gate-clause-some
returns-in-Gate-clause-some c =
    c.steps.invariant.gates ∙ step_gate c.args.deck.now c.steps.self c.step.new.self c.step.result c.in-Gate.gate c.in-Gate.is c.step.ensures.stepped

pub returns-in-Ended-clause-none : goal.returns-in-Ended-clause-none
returns-in-Ended-clause-none c =
    c.steps.invariant.gates ∙ step_ended c.args.deck.now c.steps.self c.step.new.self c.step.result c.in-Ended.is c.step.ensures.stepped

pub steps-smaller : goal.steps-smaller
steps-smaller c = step_shorter c.args.deck.now c.steps.self c.step.new.self c.step.result c.in-Moved.is c.step.ensures.stepped

pub steps-preserved : goal.steps-preserved
steps-preserved c = record {
  kept = c.step.ensures.kept;
  room = c.step.ensures.room ∙ c.steps.invariant.room;
  depth = c.step.ensures.depth ∙ c.steps.invariant.depth;
  gates = c.steps.invariant.gates ∙ step_moved c.args.deck.now c.steps.self c.step.new.self c.step.result c.in-Moved.is c.step.ensures.stepped;
}
