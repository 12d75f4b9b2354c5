use Rattle.std.proofs.Common.{refl}
use Rattle.sc_types.specs.declared.fault.TypeFault.TheVariants as typing
use Rattle.sc_top.specs.Fault.{type_refusal}
use Rattle.sc_top.proofs.StageLemmas.{gives_known}
use Rattle.sc_top.proofs.source.check_tree.Goals as goal

pub returns-in-Ok : goal.returns-in-Ok
returns-in-Ok c = record { value = (c.in-Ok.ensures.source, c.keeps.ensures); fault = tt }

pub returns-in-Err : goal.returns-in-Err
returns-in-Err c = rw c.typing_fault.ensures (gives_known type_refusal typing.Memory _ refl c.in-Err.ensures.fault)
