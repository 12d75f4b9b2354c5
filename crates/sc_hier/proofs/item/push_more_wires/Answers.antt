use Rattle.std.proofs.Common.{◌≤◌, ◌∷◌, ◌∙◌, length, sym, arith}
use Rattle.sc_gate.specs.Lines.{wire_text}
use Rattle.sc_hier.proofs.GatherLemmas.{gathers_step, gathers_fault, gathers_done, prefix_all}
use Rattle.sc_hier.proofs.item.push_more_wires.Goals as goal

pub returns-in_err-push-clause-prefix : goal.returns-in_err-push-clause-prefix
returns-in_err-push-clause-prefix g c =
    gathers_fault (λ wire. 44 ∷ wire_text wire) c.args.wires.now c.loop-wire.wire-index _ _ c.loop-wire-test.true (sym (c.as_bytes.ensures ∙ c.wire_after.ensures)) c.loop-wire.invariant.gathered c.push.ensures.prefix

pub loop-wire-preserved : goal.loop-wire-preserved
loop-wire-preserved g c = record {
  open_still = c.in_ok-push.ensures.«open»;
  later = omega (arith, c.loop-wire.invariant.later, c.in_ok-push.ensures.cause.later);
  gathered = gathers_step (λ wire. 44 ∷ wire_text wire) c.args.wires.now c.loop-wire.wire-index _ _ c.loop-wire-test.true (sym (c.as_bytes.ensures ∙ c.wire_after.ensures))
      c.loop-wire.invariant.gathered c.in_ok-push.ensures.gathered;
}

pub returns-clause-gathered : goal.returns-clause-gathered
returns-clause-gathered g c =
    let over : length c.args.wires.now ≤ c.loop-wire.wire-index = omega arith in
    gathers_done (λ wire. 44 ∷ wire_text wire) c.args.wires.now c.loop-wire.wire-index over c.loop-wire.invariant.gathered

pub returns-clause-prefix : goal.returns-clause-prefix
returns-clause-prefix g c = prefix_all (returns-clause-gathered g c)
