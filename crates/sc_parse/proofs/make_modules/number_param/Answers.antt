use Rattle.sc_parse.specs.Derives.{int_param_is, double_param_is}
use Rattle.sc_parse.proofs.make_modules.number_param.Goals as goal

pub returns-in-Int : goal.returns-in-Int
returns-in-Int c = λ p. rw c.in-Int.is int_param_is

pub returns-in-Double : goal.returns-in-Double
returns-in-Double c = λ p. rw c.in-Double.is double_param_is
