use Rattle.std.proofs.Common.{refl}
use Rattle.sc_meaning.specs.declared.fault.ElabFault.TheVariants as running
use Rattle.sc_top.specs.Fault.{elab_refusal}
use Rattle.sc_top.proofs.StageLemmas.{gives_known}
use Rattle.sc_top.proofs.source.run_source.Goals as goal

pub returns-in-Err-clause-deck : goal.returns-in-Err-clause-deck
returns-in-Err-clause-deck c = rw c.elab_fault.ensures (gives_known elab_refusal running.Memory _ refl c.in-Err.ensures.refused)
