use Rattle.std.proofs.Common.{◌≤◌, ◌∷◌, ◌∙◌, length, sym, arith}
use Rattle.sc_deck.specs.Hierarchical.{arg_text}
use Rattle.sc_hier.proofs.GatherLemmas.{gathers_step, gathers_fault, gathers_done, prefix_all}
use Rattle.sc_hier.proofs.signature.push_more_args.Goals as goal

pub returns-in_err-push-clause-prefix : goal.returns-in_err-push-clause-prefix
returns-in_err-push-clause-prefix g c =
    gathers_fault (λ arg. 44 ∷ arg_text arg) c.args.args.now c.loop-arg.arg-index _ _ c.loop-arg-test.true (sym (c.as_bytes.ensures ∙ c.arg_after.ensures)) c.loop-arg.invariant.gathered c.push.ensures.prefix

pub loop-arg-preserved : goal.loop-arg-preserved
loop-arg-preserved g c = record {
  open_still = c.in_ok-push.ensures.«open»;
  later = omega (arith, c.loop-arg.invariant.later, c.in_ok-push.ensures.cause.later);
  gathered = gathers_step (λ arg. 44 ∷ arg_text arg) c.args.args.now c.loop-arg.arg-index _ _ c.loop-arg-test.true (sym (c.as_bytes.ensures ∙ c.arg_after.ensures))
      c.loop-arg.invariant.gathered c.in_ok-push.ensures.gathered;
}

pub returns-clause-gathered : goal.returns-clause-gathered
returns-clause-gathered g c =
    let over : length c.args.args.now ≤ c.loop-arg.arg-index = omega arith in
    gathers_done (λ arg. 44 ∷ arg_text arg) c.args.args.now c.loop-arg.arg-index over c.loop-arg.invariant.gathered

pub returns-clause-prefix : goal.returns-clause-prefix
returns-clause-prefix g c = prefix_all (returns-clause-gathered g c)
