use Rattle.sc_top.specs.Fault.{flat_refusal}
use Rattle.sc_top.proofs.FewGates.{few_gates}
use Rattle.sc_top.proofs.StageLemmas.{gives_fault}
use Rattle.sc_top.proofs.verdict.read_list.Goals as goal

pub returns-in-Ok-clause-few : goal.returns-in-Ok-clause-few
returns-in-Ok-clause-few c = few_gates c.args.text c.in-Ok.list (rw c.as_bytes.ensures at c.in-Ok.ensures.ok)

pub returns-clause-list : goal.returns-clause-list
returns-clause-list c = rw c.flat_fault.ensures (gives_fault flat_refusal _ (rw c.as_bytes.ensures at c.in-Err.ensures.fault))
