use Rattle.std.proofs.Common.{◌∙◌, sym, subst, ◌<◌}
use Rattle.sc_deck.proofs.CalleeLemmas.{any_more}
use Rattle.sc_deck.proofs.deck.mark_callees.Goals as goal

pub loop-item-preserved : goal.loop-item-preserved
loop-item-preserved c = record {
  len = c.mark_callee.ensures.len ∙ c.loop-item.invariant.len;
  marked = λ i below. any_more i c.args.items.now c.loop-item.item-index c.item-item.result _ _ _ c.loop-item-test.true c.item-item.is (c.loop-item.invariant.marked i below)
      (c.mark_callee.ensures.marked i (subst (λ n. i < n) (sym c.loop-item.invariant.len) below));
}
