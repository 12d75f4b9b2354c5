use Rattle.sc_gate.proofs.laws.bit_runs_compose.Goals as goal
use Rattle.sc_gate.proofs.RunLemmas.{bit_run-append}

pub returns : goal.returns
returns c = bit_run-append
