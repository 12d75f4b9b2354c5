use Rattle.std.proofs.Common.{sym, ◌∙◌}
use Rattle.sc_parse.specs.Derives.{set_is}
use Rattle.sc_parse.proofs.make_stmts.set.Goals as goal

pub returns : goal.returns
returns c = λ t i e. rw (← e) (set_is i (sym c.set.ensures ∙ c.in-Some.is))
