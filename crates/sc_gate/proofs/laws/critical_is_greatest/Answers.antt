use Rattle.sc_gate.proofs.laws.critical_is_greatest.Goals as goal
use Rattle.sc_gate.proofs.ChainLaws.{critical_chain}

pub returns : goal.returns
returns c = critical_chain
