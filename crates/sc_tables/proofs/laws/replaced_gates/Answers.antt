use Rattle.sc_tables.proofs.laws.replaced_gates.Goals as goal
use Rattle.sc_tables.proofs.Replaced.{replaced-well_formed, replaced-operands}

pub returns : goal.returns
returns c = record { well_formed = replaced-well_formed; operands = replaced-operands }
