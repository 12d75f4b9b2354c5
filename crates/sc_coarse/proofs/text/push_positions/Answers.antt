use Rattle.std.proofs.Common.{◌≤◌, ◌∷◌, ◌∙◌, length, sym, arith}
use Rattle.std.specs.Prelude.{decimal}
use Rattle.sc_hier.proofs.GatherLemmas.{gathers_step, gathers_fault, gathers_done, prefix_all}
use Rattle.sc_coarse.proofs.text.push_positions.Goals as goal

pub returns-in_err-push-clause-prefix : goal.returns-in_err-push-clause-prefix
returns-in_err-push-clause-prefix g c =
    gathers_fault (λ x. 32 ∷ decimal x) c.args.region.now c.loop-x.x-index _ _ c.loop-x-test.true (sym (c.as_bytes.ensures ∙ c.position_after.ensures))
    c.loop-x.invariant.gathered c.push.ensures.prefix

pub loop-x-preserved : goal.loop-x-preserved
loop-x-preserved g c = record {
  open_still = c.in_ok-push.ensures.«open»;
  later = omega (arith, c.loop-x.invariant.later, c.in_ok-push.ensures.cause.later);
  gathered = gathers_step (λ x. 32 ∷ decimal x) c.args.region.now c.loop-x.x-index _ _ c.loop-x-test.true (sym (c.as_bytes.ensures ∙ c.position_after.ensures))
      c.loop-x.invariant.gathered c.in_ok-push.ensures.gathered;
}

pub returns-clause-gathered : goal.returns-clause-gathered
returns-clause-gathered g c =
    let over : length c.args.region.now ≤ c.loop-x.x-index = omega arith in
    gathers_done (λ x. 32 ∷ decimal x) c.args.region.now c.loop-x.x-index over c.loop-x.invariant.gathered

pub returns-clause-prefix : goal.returns-clause-prefix
returns-clause-prefix g c = prefix_all (returns-clause-gathered g c)
