use Rattle.sc_sched.proofs.InSequence.{legal_alone}
use Rattle.sc_sched.proofs.laws.one_gate_stands_alone.Goals as goal

pub returns-clause-legal : goal.returns-clause-legal
returns-clause-legal c = legal_alone
