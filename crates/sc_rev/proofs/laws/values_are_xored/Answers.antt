use Rattle.sc_rev.proofs.Top.{reversible_holds}
use Rattle.sc_rev.proofs.laws.values_are_xored.Goals as goal

pub returns : goal.returns
returns c = reversible_holds
