use Rattle.std.proofs.Common.{◌∙◌, ap, sym, [], ◌∷◌}
use Rattle.sc_syntax.specs.declared.Stmt.{Stmt}
use Rattle.sc_parse.specs.Trees.{expr, stmt}
use Rattle.sc_parse.specs.Derives.{if_else_is}
use Rattle.sc_parse.proofs.make_stmts.if_else.Goals as goal

pub returns-clause-ok : goal.returns-clause-ok
returns-clause-ok c = λ t vs i e k. rw (← e) (if_else_is {s = c.in_ok-yes.yes} {o = c.in_ok-no.no} i (k ∙ ap (λ (x : Stmt). expr c.args.test ∷ stmt x ∷ stmt c.args.no ∷ []) (sym c.in_ok-yes.ensures.ok) ∙ ap (λ (x : Stmt). expr c.args.test ∷ stmt (c.in_ok-yes.yes).value ∷ stmt x ∷ []) (sym c.in_ok-no.ensures.ok)))
