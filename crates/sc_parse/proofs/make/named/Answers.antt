use Rattle.std.proofs.Common.{◌∙◌, ap, sym, List, [], ◌∷◌}
use Rattle.sc_syntax.specs.declared.Expr.{Expr}
use Rattle.sc_parse.specs.Derives.{named_is, index_is}
use Rattle.sc_parse.specs.Trees.{Tree, expr, if_there, name}
use Rattle.sc_parse.proofs.Steps.{no_value}
use Rattle.sc_parse.proofs.make.named.Goals as goal

pub returns-in_default-clause-ok : goal.returns-in_default-clause-ok
returns-in_default-clause-ok c = λ vs k. named_is (ap (λ (l : List Tree). name c.args.name ∷ l) (k ∙ ap (if_there expr) (no_value c.args.index c.in_default.not-Some)))

pub returns-clause-ok : goal.returns-clause-ok
returns-clause-ok c = λ vs k.
    index_is {i = c.in_ok-index.index} (ap (λ (l : List Tree). name c.args.name ∷ l) (k ∙ ap (if_there expr) c.in-Some.is ∙ ap (λ (x : Expr). expr x ∷ []) (sym c.in_ok-index.ensures.ok)))
