use Rattle.sc_gate.proofs.laws.best_is_greatest.Goals as goal
use Rattle.sc_gate.proofs.Positions.{greatest_chain}

pub returns : goal.returns
returns c = greatest_chain
