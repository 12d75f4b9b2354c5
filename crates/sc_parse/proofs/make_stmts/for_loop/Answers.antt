use Rattle.sc_parse.specs.Derives.{for_is}
use Rattle.sc_parse.proofs.make_stmts.for_loop.Goals as goal

pub returns-clause-ok : goal.returns-clause-ok
returns-clause-ok c = λ t u v y x i e. rw (← e, ← c.in_ok-body.ensures.ok) (for_is t u v y x c.args.start c.args.advance c.args.test c.in_ok-body.body i)
