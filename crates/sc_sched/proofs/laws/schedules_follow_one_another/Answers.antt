use Rattle.sc_sched.proofs.InSequence.{legal_sequence, length_sequence, legal_none}
use Rattle.sc_sched.proofs.laws.schedules_follow_one_another.Goals as goal

pub returns-clause-none : goal.returns-clause-none
returns-clause-none c = legal_none

pub returns-clause-legal : goal.returns-clause-legal
returns-clause-legal c = legal_sequence

pub returns-clause-many : goal.returns-clause-many
returns-clause-many c = length_sequence
