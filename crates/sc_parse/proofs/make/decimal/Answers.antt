use Rattle.std.proofs.Common.{◌∙◌, ap}
use Rattle.sc_syntax.specs.declared.Token.{Token}
use Rattle.sc_parse.specs.Derives.{decimal_is}
use Rattle.sc_parse.proofs.make.decimal.Goals as goal

pub returns : goal.returns
returns c = λ t e. rw (← e) (decimal_is (ap (λ (x : Token). x.sort) e ∙ c.in-Decimal.is))
