use Rattle.sc_syntax.proofs.ReservedTable.{word_found}
use Rattle.sc_syntax.proofs.reading.word_of.Goals as goal

pub returns : goal.returns
returns c = word_found c.args.text.now c.row_of.result c.row_of.ensures
