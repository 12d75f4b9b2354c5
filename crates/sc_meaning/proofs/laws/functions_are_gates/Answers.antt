use Rattle.std.proofs.Common.{refl}
use Rattle.sc_meaning.specs.Run.{enter}
use Rattle.sc_meaning.proofs.laws.functions_are_gates.Goals as goal

pub returns : goal.returns
unfolding enter
returns c = record { call = refl; sum = refl }
