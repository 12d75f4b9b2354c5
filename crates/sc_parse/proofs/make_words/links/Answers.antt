use Rattle.sc_parse.specs.Derives.{word_chain_is}
use Rattle.sc_parse.proofs.make_words.links.Goals as goal

pub returns-clause-ok : goal.returns-clause-ok
returns-clause-ok c = λ vs h. rw (← c.in_ok-first.ensures.ok) (word_chain_is c.args.level {e = c.in_ok-first.first} c.args.links h c.requires)
