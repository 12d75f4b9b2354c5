use Rattle.std.proofs.Common.{ap, sym, ◌∙◌}
use Rattle.sc_syntax.specs.Alike.{pure_node, pure_link_list}
use Rattle.sc_syntax.proofs.PureRows.{pure_chain}
use Rattle.sc_value.specs.Numbers.{◌>>=◌}
use Rattle.sc_value.specs.Expressions.{value_of, value_of_links, value_of_expr}
use Rattle.sc_value.specs.Scopes.{value_of_name}
use Rattle.sc_value.proofs.expressions.+evaluate.Goals as goal

pub loop-link-init : goal.loop-link-init
loop-link-init t c =
    let values = value_of_name c.args.env.now in
    let at = c.args.expr.now.place in
    ap (λ r. r >>= value_of_links values (pure_link_list c.deref-link-items.result.now)) (c.in_ok-value-in-Chain.ensures ∙ ap (value_of_expr values) c.deref-in-Chain.ensures)
    ∙ ap (λ ls. value_of_expr values c.in-Chain.first.value >>= value_of_links values (pure_link_list ls)) c.deref-link-items.ensures.value
    ∙ ap (value_of values at) (sym (pure_chain c.in-Chain.first c.in-Chain.links) ∙ ap pure_node (sym c.in-Chain.is))
