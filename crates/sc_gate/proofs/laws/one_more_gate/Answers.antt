use Rattle.sc_gate.proofs.laws.one_more_gate.Goals as goal
use Rattle.sc_gate.proofs.OneMoreGate.{star_here, star_away, best_last}

pub returns : goal.returns
returns c = record { here = star_here; away = star_away; last = best_last }
