use Rattle.std.proofs.Common.{rules}
use Rattle.sc_word.proofs.chain.joined.Goals as goal

pub returns-clause-ok : goal.returns-clause-ok
returns-clause-ok c = record { links = c.in_ok-links.links; items = search rules; is = search rules }
