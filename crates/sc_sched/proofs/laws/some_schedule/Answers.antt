use Rattle.sc_sched.proofs.SomeRank.{schedule_exists}
use Rattle.sc_sched.proofs.laws.some_schedule.Goals as goal

pub returns : goal.returns
returns c = schedule_exists
