use Rattle.std.proofs.Common.{rules}
use Rattle.sc_word.proofs.form.shifted.Goals as goal

pub returns-clause-ok : goal.returns-clause-ok
returns-clause-ok c = record { word = c.in_ok-word.word; value = search rules; is = search rules }
