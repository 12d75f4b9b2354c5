use Rattle.std.proofs.Common.{refl}
use Rattle.sc_meaning.specs.Run.{enter}
use Rattle.sc_meaning.proofs.laws.calls_are_run.Goals as goal

pub returns : goal.returns
unfolding enter
returns c = record { events = refl; meaning = refl; instances = refl; folded = refl }
