use Rattle.sc_open.proofs.Grammar.{grammar_is_read, read_is_grammar}
use Rattle.sc_open.proofs.laws.read_texts_are_the_grammar.Goals as goal

pub returns : goal.returns
returns c = record { read = grammar_is_read; grammar = read_is_grammar }
