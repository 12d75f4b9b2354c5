use Rattle.std.proofs.Common.{◌∙◌}
use Rattle.sc_rev.proofs.Top.{reversible_holds}
use Rattle.sc_rev.proofs.Whole.{steps_fit, body_made}
use Rattle.sc_rev.proofs.function.reversible.Goals as goal

pub push_gates-requires : goal.push_gates-requires
push_gates-requires c =
    steps_fit c.args.f.now c.in_ok-body.body c.operands-operands.result c.scratch.result c.as_slice.result.now c.operands-operands.ensures.typed c.operands-operands.ensures.count c.scratch.ensures c.in_ok-body.ensures
    (c.as_slice.ensures.value ∙ c.in_ok-gates.ensures)

pub returns : goal.returns
returns c = (
  body_made c.args.f.now c.in_ok-body.body c.push_gates.new.body c.operands-operands.result c.scratch.result c.as_slice.result.now c.operands-operands.ensures.count c.scratch.ensures c.in_ok-body.ensures
      (c.as_slice.ensures.value ∙ c.in_ok-gates.ensures) c.in_ok-push_gates.ensures,
  reversible_holds c.args.f.now c.operands-operands.ensures.typed,
)
