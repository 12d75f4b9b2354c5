use Rattle.std.proofs.Common.{◌∙◌, ap, sym, [], ◌∷◌}
use Rattle.sc_syntax.specs.declared.Stmt.{Stmt}
use Rattle.sc_parse.specs.Trees.{expr, stmt}
use Rattle.sc_parse.specs.Derives.{while_is}
use Rattle.sc_parse.proofs.make_stmts.while_loop.Goals as goal

pub returns-clause-ok : goal.returns-clause-ok
returns-clause-ok c = λ t vs i e k. rw (← e) (while_is {s = c.in_ok-body.body} i (k ∙ ap (λ (x : Stmt). expr c.args.test ∷ stmt x ∷ []) (sym c.in_ok-body.ensures.ok)))
