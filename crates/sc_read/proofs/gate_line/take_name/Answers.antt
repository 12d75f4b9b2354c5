use Rattle.sc_read.proofs.GateParts.{name_there}
use Rattle.sc_read.proofs.gate_line.take_name.Goals as goal

pub returns-in-None-clause-none : goal.returns-in-None-clause-none
returns-in-None-clause-none c = λ name rest same.
    c.in-None.ensures.exact name (name_there c.args.bytes.now c.in-Some-cut_space.word.now c.in-Some-cut_space.rest.now name rest c.in-Some-cut_space.ensures.some c.in-Some-cut_space.ensures.no_space same)
