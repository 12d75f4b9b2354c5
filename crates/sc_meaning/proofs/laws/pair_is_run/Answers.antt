use Rattle.std.proofs.Common.{refl}
use Rattle.sc_meaning.specs.Run.{enter}
use Rattle.sc_meaning.proofs.laws.pair_is_run.Goals as goal

pub returns : goal.returns
unfolding enter
returns c = refl
