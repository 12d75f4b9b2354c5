use Rattle.sc_syntax.proofs.reading.number_sort.Goals as goal
use Rattle.sc_syntax.proofs.NumberSorts.{no_number}

pub returns-in-None : goal.returns-in-None
returns-in-None c = no_number _ c.in_default.ensures c.in-None.ensures.none
