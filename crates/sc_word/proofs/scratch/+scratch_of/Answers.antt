use Rattle.std.proofs.Common.{ℕ, ◌+◌, List, sym, ap, ◌∙◌}
use Rattle.sc_word.specs.declared.tree.TypedExpr.{TypedExpr}
use Rattle.sc_word.specs.declared.tree.TypedLink.{TypedLink}
use Rattle.sc_word.specs.declared.tree.TypedNode.{TypedNode}
use Rattle.sc_word.specs.Pure.{PureTyped, pure_typed, pure_typed_links}
use Rattle.sc_word.specs.Scratch.{scratch_node, scratch_row}
use Rattle.sc_word.specs.Operands.{used}
use Rattle.sc_word.proofs.TypedRows.{pure_typed_chain}
use Rattle.sc_word.proofs.scratch.+scratch_of.Goals as goal

pub loop-link-init : goal.loop-link-init
loop-link-init t c =
    let w = c.args.expr.now.width in
    let first = c.in-Chain.first in
    let items = c.deref-link-items.result.now in
    ap (λ (k : ℕ). k + scratch_row c.deref-in-Chain-2.result.now.width (pure_typed_links items)) (c.scratch_of-count.ensures ∙ ap used c.deref-in-Chain.ensures)
    ∙ ap (λ (e : TypedExpr). used first.value + scratch_row e.width (pure_typed_links items)) c.deref-in-Chain-2.ensures
    ∙ ap (λ (ls : List TypedLink). used first.value + scratch_row first.value.width (pure_typed_links ls)) c.deref-link-items.ensures.value
    ∙ sym (ap (λ (n : PureTyped). scratch_node w n) (pure_typed_chain first c.in-Chain.links)) ∙ ap (λ (n : TypedNode). scratch_node w (pure_typed n)) (sym c.in-Chain.is)
