use Rattle.sc_gate.proofs.laws.arrivals_compose.Goals as goal
use Rattle.sc_gate.proofs.Arrivals.{arrivals, after-append, arrivals_by_best}

pub returns : goal.returns
returns c = record { chains = arrivals; parts = after-append; table = arrivals_by_best }
