use Rattle.sc_parse.specs.Derives.{paren_is}
use Rattle.sc_parse.proofs.make.paren.Goals as goal

pub returns-clause-ok : goal.returns-clause-ok
returns-clause-ok c = λ t u e. rw (← c.in_ok-inner.ensures.ok, ← e) (paren_is {e = c.in_ok-inner.inner})
