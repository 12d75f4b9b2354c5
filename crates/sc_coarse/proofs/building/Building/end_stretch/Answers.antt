use Rattle.std.proofs.Common.{ℕ, List, Result, Err, ◌++◌, ◌∙◌, ap, length, sym, subst}
use Rattle.std.specs.Prelude.{◌==◌}
use Rattle.sc_gate.specs.declared.gate.Gate.{Gate}
use Rattle.sc_sched.specs.Scheduling.{IsFirstWider}
use Rattle.sc_sched.specs.declared.plan.Plan.{Plan}
use Rattle.sc_sched.specs.declared.scheduling.SchedFault.{SchedFault}
use Rattle.sc_coarse.specs.Building.{stretch_part}
use Rattle.sc_coarse.specs.CoarseRule.{AreBlocks}
use Rattle.sc_coarse.proofs.Built.{stretch_done, some_of, none_wider}
use Rattle.sc_coarse.proofs.building.Building.end_stretch.Goals as goal

abbrev unplanned : SchedFault → Result Plan SchedFault
unplanned fault = Err fault

pub unreachable-requires-in-Err-Narrow : goal.unreachable-requires-in-Err-Narrow
unreachable-requires-in-Err-Narrow g c =
    let x : ℕ = c.in-Err-Narrow.field-0-0 in
    let first = ((c.schedule.ensures.narrow x).0 (c.in-Err-Narrow.is ∙ ap unplanned c.in-Err-Narrow.field-0-is)).1 in
    none_wider c.args.d c.args.self.now.gates.items x c.requires.can.narrow (subst (λ (gates : List Gate). IsFirstWider c.args.d gates x) c.as_slice-gates.ensures.value first)

pub returns-clause-blocks : goal.returns-clause-blocks
returns-clause-blocks g c = λ done h.
    let p = rw (c.as_slice-gates.ensures.value, c.ones.ensures) at c.in-Ok.ensures.steps in
    let b = rw c.as_slice.ensures at c.in_ok-push_steps.ensures.blocks in
    let some = some_of (length c.args.self.now.gates.items) (ap (λ (n : ℕ). n == 0) (sym c.args.self.now.gates.ok.0) ∙ (sym c.is_empty.ensures ∙ c.if-is_empty.false)) in
    subst (AreBlocks (g.P.Priority.comes c.args.order.now) c.args.k c.args.d (done ++ stretch_part c.args.self.now.items.items c.args.self.now.gates.items)) (sym b)
    (stretch_done (g.P.Priority.comes c.args.order.now) c.args.k c.args.d done c.args.self.now.blocks c.args.self.now.items.items c.args.self.now.gates.items c.in-Ok.plan.steps h c.requires.same some p)
