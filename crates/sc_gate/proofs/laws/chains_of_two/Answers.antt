use Rattle.sc_gate.proofs.laws.chains_of_two.Goals as goal
use Rattle.sc_gate.proofs.ChainLaws.{chain_of_two}

pub returns : goal.returns
returns c = chain_of_two
