use Rattle.sc_parse.specs.Derives.{chain_is}
use Rattle.sc_parse.proofs.make.links.Goals as goal

pub returns-clause-ok : goal.returns-clause-ok
returns-clause-ok c = λ vs h. rw (← c.in_ok-first.ensures.ok) (chain_is c.args.level {e = c.in_ok-first.first} c.args.links h c.requires)
