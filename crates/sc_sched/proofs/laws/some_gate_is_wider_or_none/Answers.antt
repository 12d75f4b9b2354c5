use Rattle.std.proofs.Common.{length, arith}
use Rattle.sc_sched.proofs.StepLaws.{some_wider}
use Rattle.sc_sched.proofs.laws.some_gate_is_wider_or_none.Goals as goal

pub returns : goal.returns
returns c = λ d gates. some_wider d gates (length gates) (omega arith)
