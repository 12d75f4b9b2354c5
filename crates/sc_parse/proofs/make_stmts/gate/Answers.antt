use Rattle.std.proofs.Common.{ap, ◌∙◌}
use Rattle.sc_syntax.specs.declared.Token.{Token}
use Rattle.sc_parse.specs.Derives.{gate_is}
use Rattle.sc_parse.proofs.make_stmts.gate.Goals as goal

pub returns : goal.returns
returns c = λ t vs e k. rw (← e) (gate_is (ap (λ (x : Token). x.sort) e ∙ c.in-Gate.is) k)
