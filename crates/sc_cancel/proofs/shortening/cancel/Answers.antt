use Rattle.std.proofs.Common.{◌<◌, ◌+◌, ℕ, length, sym, ap, ◌∙◌, subst, take}
use Rattle.std.specs.Prelude.{slice_get}
use Rattle.std.specs.List.{AllByRecursion}
use Rattle.std.proofs.lemmas.Option.{slice_get-get_or}
use Rattle.std.proofs.lemmas.Result.{IfOk-weaker}
use Rattle.sc_cancel.specs.Cancelling.{marks_after}
use Rattle.sc_cancel.specs.Keeping.{IsKept}
use Rattle.sc_cancel.specs.Moves.{Ascend}
use Rattle.sc_cancel.proofs.Stepping.{added_many, places_kept, places_ascend, shorter_below}
use Rattle.sc_cancel.proofs.shortening.cancel.Goals as goal

pub add-requires-clause-next : goal.add-requires-clause-next
add-requires-clause-next c = ap (slice_get c.args.gates.now) c.loop-gate.invariant.many ∙ slice_get-get_or c.args.gates.now c.loop-gate.gate-index _ c.loop-gate-test.true

pub add-requires-clause-kept : goal.add-requires-clause-kept
add-requires-clause-kept c = subst (λ (n : ℕ). IsKept c.loop-gate.kept (marks_after (take n c.args.gates.now))) (sym c.loop-gate.invariant.many) c.loop-gate.invariant.kept

pub loop-gate-preserved : goal.loop-gate-preserved
loop-gate-preserved c = record {
  many = added_many c.args.gates.now c.loop-gate.gate-index c.loop-gate.kept c.add.new.self c.loop-gate-test.true c.loop-gate.invariant.many c.in_ok-add.ensures;
  kept = subst (λ (n : ℕ). IsKept c.add.new.self (marks_after (take (n + 1) c.args.gates.now))) c.loop-gate.invariant.many c.in_ok-add.ensures;
}

pub returns-clause-shorter : goal.returns-clause-shorter
returns-clause-shorter c = IfOk-weaker c.positions.result _ _ (λ kept e. e ∙ places_kept c.args.gates.now c.loop-gate.gate-index c.loop-gate.kept c.loop-gate-test.false c.loop-gate.invariant.kept) c.positions.ensures

pub returns-clause-ascending : goal.returns-clause-ascending
returns-clause-ascending c = IfOk-weaker c.positions.result _ _ (λ kept e. subst Ascend (sym (e ∙ places_kept c.args.gates.now c.loop-gate.gate-index c.loop-gate.kept c.loop-gate-test.false c.loop-gate.invariant.kept)) (places_ascend (marks_after c.args.gates.now))) c.positions.ensures

pub returns-clause-below : goal.returns-clause-below
returns-clause-below c = IfOk-weaker c.positions.result _ _ (λ kept e. subst (AllByRecursion (λ p. p < length c.args.gates.now)) (sym (e ∙ places_kept c.args.gates.now c.loop-gate.gate-index c.loop-gate.kept c.loop-gate-test.false c.loop-gate.invariant.kept)) (shorter_below c.args.gates.now)) c.positions.ensures
