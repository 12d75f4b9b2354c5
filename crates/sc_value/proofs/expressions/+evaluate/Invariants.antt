use Rattle.std.proofs.Common.{◌≡◌, drop}
use Rattle.sc_syntax.specs.Alike.{pure_link_list}
use Rattle.sc_value.specs.Expressions.{value_of_links, value_of_expr}
use Rattle.sc_value.specs.Scopes.{value_of_name}
use Rattle.sc_value.proofs.expressions.+evaluate.Given as goal

abbrev pub invariant-loop-link : goal.invariant-loop-link
invariant-loop-link l =
    value_of_links (value_of_name l.env) (pure_link_list (drop l.link-index l.link-items)) l.value ≡ value_of_expr (value_of_name l.env) l.expr
