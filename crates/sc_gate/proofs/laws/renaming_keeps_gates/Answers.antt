use Rattle.sc_gate.proofs.laws.renaming_keeps_gates.Goals as goal
use Rattle.sc_gate.proofs.RenameLemmas.{operands-rename, rename_gate-twice, well_formed-rename_on}

pub returns : goal.returns
returns c = record { operands = operands-rename; twice = rename_gate-twice; well_formed = well_formed-rename_on }
