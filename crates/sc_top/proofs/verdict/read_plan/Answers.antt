use Rattle.sc_top.specs.Fault.{plan_refusal}
use Rattle.sc_top.proofs.StageLemmas.{gives_fault}
use Rattle.sc_top.proofs.verdict.read_plan.Goals as goal

pub returns : goal.returns
returns c = rw c.plan_fault.ensures (gives_fault plan_refusal _ (rw c.as_bytes.ensures at c.in-Err.ensures.fault))
