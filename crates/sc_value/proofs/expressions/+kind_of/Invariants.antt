use Rattle.std.proofs.Common.{◌≡◌, drop}
use Rattle.sc_syntax.specs.Alike.{pure_link_list}
use Rattle.sc_syntax.specs.NameKind.{kind_of_links, kind_of_expr}
use Rattle.sc_value.specs.Expressions.{kinds_of}
use Rattle.sc_value.specs.Scopes.{value_of_name}
use Rattle.sc_value.proofs.expressions.+kind_of.Given as goal

abbrev pub invariant-loop-link : goal.invariant-loop-link
invariant-loop-link l =
    kind_of_links (kinds_of (value_of_name l.env)) (pure_link_list (drop l.link-index l.link-items)) l.kind ≡ kind_of_expr (kinds_of (value_of_name l.env)) l.expr
