use Rattle.sc_sched.proofs.Renamed.{legal_renamed}
use Rattle.sc_sched.proofs.laws.renaming_keeps_schedules.Goals as goal

pub returns : goal.returns
returns c = legal_renamed
