use Rattle.sc_parse.specs.Derives.{shift_is}
use Rattle.sc_parse.proofs.make_words.shifts.Goals as goal

pub returns-clause-ok : goal.returns-clause-ok
returns-clause-ok c = λ vs h. rw (← c.in_ok-first.ensures.ok) (shift_is {e = c.in_ok-first.first} h c.requires)
