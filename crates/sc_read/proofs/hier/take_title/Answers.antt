use Rattle.std.specs.Fmt.{digits}
use Rattle.sc_read.proofs.HierLoops.{no_title}
use Rattle.sc_read.proofs.hier.take_title.Goals as goal

pub returns-in-Some-clause-some : goal.returns-in-Some-clause-some
unfolding digits
returns-in-Some-clause-some c = c.in-Some.ensures.some

pub returns-in-Some-take_text-clause-some : goal.returns-in-Some-take_text-clause-some
unfolding digits
returns-in-Some-take_text-clause-some c = c.in-Some-take_text.ensures.some

pub returns-in-None-clause-none : goal.returns-in-None-clause-none
returns-in-None-clause-none c = no_title c.args.text.now c.in_default.ensures.none c.in-None.ensures.none
