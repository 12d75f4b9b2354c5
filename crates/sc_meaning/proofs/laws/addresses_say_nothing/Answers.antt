use Rattle.sc_meaning.proofs.OneProgram.{is_one_program}
use Rattle.sc_meaning.proofs.laws.addresses_say_nothing.Goals as goal

pub returns : goal.returns
returns c = is_one_program
