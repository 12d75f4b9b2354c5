use Rattle.std.proofs.Common.{sym, ◌∙◌}
use Rattle.sc_parse.specs.Derives.{step_is}
use Rattle.sc_parse.proofs.make_stmts.step.Goals as goal

pub returns : goal.returns
returns c = λ t i e. rw (← e) (step_is i (sym c.step.ensures ∙ c.in-Some.is))
