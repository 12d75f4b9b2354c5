use Rattle.sc_read.proofs.FlatLines.{written_is_read}
use Rattle.sc_read.proofs.laws.written_flat_texts_are_read.Goals as goal

pub returns : goal.returns
returns c = written_is_read
