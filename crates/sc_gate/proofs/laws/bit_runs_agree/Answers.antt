use Rattle.sc_gate.proofs.laws.bit_runs_agree.Goals as goal
use Rattle.sc_gate.proofs.BitRuns.{bit_run_matches, keeps_apart, bit_run_agrees}

pub returns : goal.returns
returns c = record { renamed = bit_run_matches; apart = keeps_apart; same = bit_run_agrees }
