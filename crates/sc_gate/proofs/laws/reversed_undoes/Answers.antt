use Rattle.sc_gate.proofs.laws.reversed_undoes.Goals as goal
use Rattle.sc_gate.proofs.RunLemmas.{there_and_back}

pub returns : goal.returns
returns c = there_and_back
