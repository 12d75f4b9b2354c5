use Rattle.std.proofs.Common.{sym, ap, ◌∙◌, arith}
use Rattle.sc_check.specs.Finding.{has_wide_region}
use Rattle.sc_check.proofs.Lowest.{step_found, step_none_at, item_is}
use Rattle.sc_check.proofs.steps.first_wide.Goals as goal

pub returns-then-step_is_wide : goal.returns-then-step_is_wide
returns-then-step_is_wide c =
    sym (step_found _ c.args.steps.now c.loop-i.i _ c.loop-i-test.true c.loop-i.invariant
    (ap (has_wide_region c.args.gates.now c.args.d) (item_is c.args.steps.now c.loop-i.i c.index-steps-i.result _ c.loop-i-test.true c.index-steps-i.is ∙ sym c.as_slice.ensures)
    ∙ (sym c.step_is_wide.ensures ∙ c.if-step_is_wide.true)))

pub returns : goal.returns
returns c = sym (step_none_at _ c.args.steps.now _ c.loop-i.i (omega arith) c.loop-i.invariant)
