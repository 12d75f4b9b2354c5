use Rattle.sc_syntax.proofs.ReservedTable.{not_reserved}
use Rattle.sc_syntax.proofs.reading.word_sort.Goals as goal

pub returns-in-None : goal.returns-in-None
returns-in-None c = not_reserved c.args.text.now c.in_default.ensures c.in-None.ensures.exact
