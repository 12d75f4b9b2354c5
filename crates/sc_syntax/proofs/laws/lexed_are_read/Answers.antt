use Rattle.sc_syntax.proofs.LexedRead.{lexed_are_read}
use Rattle.sc_syntax.proofs.laws.lexed_are_read.Goals as goal

pub returns : goal.returns
returns c = lexed_are_read
