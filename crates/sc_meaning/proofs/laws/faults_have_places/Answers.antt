use Rattle.std.proofs.Common.{refl}
use Rattle.sc_meaning.specs.Run.{enter}
use Rattle.sc_meaning.proofs.laws.faults_have_places.Goals as goal

pub returns : goal.returns
unfolding enter
returns c = record { index = refl; repeated = refl; none = refl; deep = refl; wide = refl }
