use Rattle.sc_word.proofs.Valuing.{value_all_below}
use Rattle.sc_word.proofs.laws.values_fit.Goals as goal

pub returns : goal.returns
returns c = record { fits = λ t inputs h values. value_all_below t.params inputs t.binds t.returned values h.trees }
