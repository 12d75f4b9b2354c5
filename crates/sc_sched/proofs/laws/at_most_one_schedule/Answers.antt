use Rattle.sc_sched.proofs.OneSchedule.{only_schedule}
use Rattle.sc_sched.proofs.laws.at_most_one_schedule.Goals as goal

pub returns : goal.returns
returns c = only_schedule
