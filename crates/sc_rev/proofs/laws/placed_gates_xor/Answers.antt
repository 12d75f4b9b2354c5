use Rattle.sc_rev.proofs.Placing.{placed_holds}
use Rattle.sc_rev.proofs.laws.placed_gates_xor.Goals as goal

pub returns : goal.returns
returns c = placed_holds
