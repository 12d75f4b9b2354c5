use Rattle.sc_tables.proofs.laws.toffoli_phase.Goals as goal
use Rattle.sc_tables.proofs.Phases.{phase_of_toffoli}

pub returns : goal.returns
returns c = phase_of_toffoli
