use Rattle.std.proofs.Common.{arith}
use Rattle.std.proofs.lemmas.Str.Pattern.{split_once_first}
use Rattle.sc_words.proofs.WordsValues.{entry_whole}
use Rattle.sc_words.proofs.words.times.read_entry.Goals as goal

pub returns-in_default-clause-entry : goal.returns-in_default-clause-entry
returns-in_default-clause-entry c =
    let cut = split_once_first 61 c.args.entry.now c.split_once.result c.split_once.ensures.cases (omega arith) in
    entry_whole c.args.entry.now (rw c.in_default.is at cut)
