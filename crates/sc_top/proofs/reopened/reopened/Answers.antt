use Rattle.sc_top.specs.Lowered.{open_refusal}
use Rattle.sc_top.proofs.StageLemmas.{gives_fault}
use Rattle.sc_top.proofs.reopened.reopened.Goals as goal

pub returns-in-Err : goal.returns-in-Err
returns-in-Err c = rw c.open_fault.ensures (gives_fault open_refusal _ c.in-Err.ensures.fault)
