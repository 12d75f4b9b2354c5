use Rattle.std.proofs.Common.{ap, sym, ◌∙◌}
use Rattle.sc_syntax.specs.Alike.{pure_node, pure_link_list}
use Rattle.sc_syntax.specs.NameKind.{◌>>=◌, kind_of, kind_of_links, kind_of_expr}
use Rattle.sc_syntax.proofs.PureRows.{pure_chain}
use Rattle.sc_value.specs.Expressions.{kinds_of}
use Rattle.sc_value.specs.Scopes.{value_of_name}
use Rattle.sc_value.proofs.expressions.+kind_of.Goals as goal

pub loop-link-init : goal.loop-link-init
loop-link-init t c =
    let kinds = kinds_of (value_of_name c.args.env.now) in
    ap (λ r. r >>= kind_of_links kinds (pure_link_list c.deref-link-items.result.now)) (c.in_ok-kind-in-Chain.ensures ∙ ap (kind_of_expr kinds) c.deref-in-Chain.ensures)
    ∙ ap (λ ls. kind_of_expr kinds c.in-Chain.first.value >>= kind_of_links kinds (pure_link_list ls)) c.deref-link-items.ensures.value
    ∙ ap (kind_of kinds) (sym (pure_chain c.in-Chain.first c.in-Chain.links) ∙ ap pure_node (sym c.in-Chain.is))
