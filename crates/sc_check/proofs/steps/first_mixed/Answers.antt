use Rattle.std.proofs.Common.{sym, ap, ◌∙◌, arith}
use Rattle.sc_check.specs.Finding.{has_mixed_kinds}
use Rattle.sc_check.proofs.Lowest.{step_found, step_none_at, item_is}
use Rattle.sc_check.proofs.steps.first_mixed.Goals as goal

pub returns-then-step_is_mixed : goal.returns-then-step_is_mixed
returns-then-step_is_mixed c =
    sym (step_found _ c.args.steps.now c.loop-i.i _ c.loop-i-test.true c.loop-i.invariant
    (ap (has_mixed_kinds c.args.gates.now) (item_is c.args.steps.now c.loop-i.i c.index-steps-i.result _ c.loop-i-test.true c.index-steps-i.is ∙ sym c.as_slice.ensures)
    ∙ (sym c.step_is_mixed.ensures ∙ c.if-step_is_mixed.true)))

pub returns : goal.returns
returns c = sym (step_none_at _ c.args.steps.now _ c.loop-i.i (omega arith) c.loop-i.invariant)
