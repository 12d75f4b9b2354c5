use Rattle.sc_gate.proofs.laws.bit_runs_keep.Goals as goal
use Rattle.sc_gate.proofs.BitRuns.{length-bit_run, bit_run-off}

pub returns : goal.returns
returns c = record { length = length-bit_run; others = bit_run-off }
