use Rattle.std.proofs.Common.{List, Result, sym, ap, ◌∙◌}
use Rattle.sc_syntax.specs.declared.Link.{Link}
use Rattle.sc_syntax.specs.declared.Node.{Node}
use Rattle.sc_syntax.specs.declared.NumSort.{NumSort}
use Rattle.sc_types.specs.declared.fault.TypeFault.{TypeFault}
use Rattle.sc_types.specs.Sorts.{◌>>=◌, sort_of, sort_of_node, sort_of_links}
use Rattle.sc_types.proofs.Telling.{sort_of_chain}
use Rattle.sc_types.proofs.numbers.+sort_of.Goals as goal

pub loop-link-init : goal.loop-link-init
loop-link-init g t c =
    let ks = g.N.Names.kinds c.args.names.now in
    let at = c.args.expr.now.place in
    ap (λ (r : Result NumSort TypeFault). r >>= sort_of_links ks c.deref-link-items.result.now) (sym c.in_ok-sort-in-Chain.was ∙ c.sort_of-in-Chain.ensures ∙ ap (sort_of ks) c.deref-in-Chain.ensures)
    ∙ ap (λ (ls : List Link). sort_of ks c.in-Chain.first.value >>= sort_of_links ks ls) c.deref-link-items.ensures.value
    ∙ sym (sort_of_chain ks at c.in-Chain.first c.in-Chain.links)
    ∙ ap (λ (n : Node). sort_of_node ks at n) (sym c.in-Chain.is)
