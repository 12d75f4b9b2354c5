use Rattle.std.proofs.Common.{sym, ◌∙◌}
use Rattle.sc_parse.specs.Derives.{unary_is}
use Rattle.sc_parse.proofs.make.sign.Goals as goal

pub returns-clause-ok : goal.returns-clause-ok
returns-clause-ok c = λ t i e. rw (← c.in_ok-operand.ensures.ok, ← e) (unary_is {e = c.in_ok-operand.operand} i (sym c.unary.ensures ∙ c.in-Some.is))
