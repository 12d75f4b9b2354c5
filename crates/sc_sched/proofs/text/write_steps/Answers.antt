use Rattle.std.proofs.Common.{◌≤◌, ◌∙◌, sym, ap, arith, length}
use Rattle.sc_base.proofs.OutputLemmas.{prefix_whole}
use Rattle.sc_sched.specs.Text.{step_text}
use Rattle.sc_base.proofs.LoopLemmas.{loop_step, loop_fault, loop_done}
use Rattle.sc_sched.proofs.text.write_steps.Goals as goal

pub returns-in_err-write_step-clause-prefix : goal.returns-in_err-write_step-clause-prefix
returns-in_err-write_step-clause-prefix g c =
    loop_fault step_text c.args.steps.now c.loop-step.step-index c.step-item.result _ c.loop-step-test.true
    (ap step_text (sym (c.as_slice.ensures ∙ c.step-item.is))) c.loop-step.invariant.written c.write_step.ensures.prefix

pub loop-step-preserved : goal.loop-step-preserved
loop-step-preserved g c = record {
  open_still = c.in_ok-write_step.ensures.«open»;
  later = omega (arith, c.loop-step.invariant.later, c.in_ok-write_step.ensures.cause.later);
  written = loop_step step_text c.args.steps.now c.loop-step.step-index c.step-item.result _ c.loop-step-test.true
      (ap step_text (sym (c.as_slice.ensures ∙ c.step-item.is))) c.loop-step.invariant.written c.in_ok-write_step.ensures.appended;
}

pub returns-clause-appended : goal.returns-clause-appended
returns-clause-appended g c =
    let over : length c.args.steps.now ≤ c.loop-step.step-index = omega arith in
    loop_done step_text c.args.steps.now c.loop-step.step-index over c.loop-step.invariant.written

pub returns-clause-prefix : goal.returns-clause-prefix
returns-clause-prefix g c =
    let over : length c.args.steps.now ≤ c.loop-step.step-index = omega arith in
    prefix_whole (loop_done step_text c.args.steps.now c.loop-step.step-index over c.loop-step.invariant.written)
