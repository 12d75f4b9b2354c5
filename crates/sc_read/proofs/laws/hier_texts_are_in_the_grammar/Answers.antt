use Rattle.sc_read.proofs.HierTexts.{hier_text_read, read_text_hier}
use Rattle.sc_read.proofs.laws.hier_texts_are_in_the_grammar.Goals as goal

pub returns : goal.returns
returns c = record { read = hier_text_read; grammar = read_text_hier }
