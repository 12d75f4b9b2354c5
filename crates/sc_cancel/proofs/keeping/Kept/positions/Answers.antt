use Rattle.std.proofs.Common.{sym, ap, ◌∙◌}
use Rattle.std.proofs.lemmas.List.{take_all}
use Rattle.sc_cancel.specs.Keeping.{places}
use Rattle.sc_cancel.proofs.Restoring.{places_push, places_pass}
use Rattle.sc_cancel.proofs.keeping.Kept.positions.Goals as goal
use Rattle.sc_cancel.proofs.keeping.Kept.positions.Goals.{then-is_some+in_ok-push, else-is_some}

pub loop-position-preserved : goal.loop-position-preserved
loop-position-preserved c = elim c.if-is_some.branch [
  | then-is_some+in_ok-push w ↦ w.positions-is ∙ places_push c.deref-links-items.result.now c.loop-position.position _ _ c.loop-position-test.true (sym c.is_some.ensures ∙ w.if-is_some.true) w.in_ok-push.ensures.ok c.loop-position.invariant
  | else-is_some w ↦ w.positions-is ∙ places_pass c.deref-links-items.result.now c.loop-position.position _ c.loop-position-test.true (sym c.is_some.ensures ∙ w.if-is_some.false) c.loop-position.invariant
]

pub returns : goal.returns
returns c =
    c.loop-position.invariant
    ∙ (ap (places 0) (take_all c.loop-position.position c.deref-links-items.result.now c.loop-position-test.false) ∙ ap (places 0) c.deref-links-items.ensures.value)
