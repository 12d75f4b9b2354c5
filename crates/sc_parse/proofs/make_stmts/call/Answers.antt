use Rattle.sc_parse.specs.Derives.{call_is}
use Rattle.sc_parse.proofs.make_stmts.call.Goals as goal

pub returns : goal.returns
returns c = λ t vs i k. call_is i k
