use Rattle.sc_gate.proofs.laws.dependence_is_a_shared_wire.Goals as goal
use Rattle.sc_gate.proofs.ChainLaws.{depend_tells}

pub returns : goal.returns
returns c = depend_tells
