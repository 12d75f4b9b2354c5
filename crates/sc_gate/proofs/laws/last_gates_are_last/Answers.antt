use Rattle.sc_gate.proofs.laws.last_gates_are_last.Goals as goal
use Rattle.sc_gate.proofs.LastOn.{last_is, last_none, last_next}

pub returns : goal.returns
returns c = record { some = last_is; none = last_none; next = last_next }
