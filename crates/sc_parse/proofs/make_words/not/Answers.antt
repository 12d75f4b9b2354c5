use Rattle.sc_parse.specs.Derives.{not_is}
use Rattle.sc_parse.proofs.make_words.not.Goals as goal

pub returns-clause-ok : goal.returns-clause-ok
returns-clause-ok c = λ t e. rw (← c.in_ok-operand.ensures.ok, ← e) (not_is {e = c.in_ok-operand.operand})
