use Rattle.sc_parse.specs.Derives.{word_pick_is}
use Rattle.sc_parse.proofs.make_words.pick.Goals as goal

pub returns-clause-ok : goal.returns-clause-ok
returns-clause-ok c = λ t u. rw (← c.in_ok-test.ensures.ok, ← c.in_ok-yes.ensures.ok, ← c.in_ok-no.ensures.ok) (word_pick_is {c = c.in_ok-test.test} {e = c.in_ok-yes.yes} {f = c.in_ok-no.no})
