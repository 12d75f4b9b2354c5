use Rattle.sc_rev.proofs.Placing.{own_gates}
use Rattle.sc_rev.proofs.laws.gates_are_own.Goals as goal

pub returns : goal.returns
returns c = own_gates
