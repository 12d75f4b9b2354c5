use Rattle.std.proofs.Common.{rules}
use Rattle.sc_word.proofs.form.widened.Goals as goal

pub returns-in_ok-word-in-Word-clause-ok : goal.returns-in_ok-word-in-Word-clause-ok
returns-in_ok-word-in-Word-clause-ok c = rw c.in-Word.is (c.in_ok-word-in-Word.word, search rules, search rules)
