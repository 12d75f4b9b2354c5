use Rattle.std.proofs.Common.{rules}
use Rattle.sc_word.proofs.chain.finished.Goals as goal

pub returns-clause-ok : goal.returns-clause-ok
returns-clause-ok c = record { word = c.in_ok-first.first; value = search rules; links = c.parts-first.result.1; items = search rules; is = search rules }
