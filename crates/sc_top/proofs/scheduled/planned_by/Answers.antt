use Rattle.std.proofs.Common.{ap, Result}
use Rattle.sc_sched.specs.declared.plan.Plan.{Plan}
use Rattle.sc_sched.specs.declared.scheduling.SchedFault.{SchedFault}
use Rattle.sc_top.proofs.ModeLemmas.{schedule_why, room_enough}
use Rattle.sc_top.proofs.StageLemmas.{failed, no_fault, found_goes}
use Rattle.sc_top.proofs.scheduled.planned_by.Goals as goal

abbrev unplanned : SchedFault → Result Plan SchedFault
unplanned fault = failed Plan SchedFault fault

pub returns-in-Ok : goal.returns-in-Ok
returns-in-Ok g c =
    let s = c.in-Ok.ensures in
    found_goes tt _ (room_enough c.args.d c.args.gates.now (λ x first. no_fault ((s.narrow x).1 (c.requires.few, first))))
    (record { value = record { regions = s.regions; width = s.width; gates_are = s.gates; steps = s.steps }; fault = tt })

pub returns-in-Err : goal.returns-in-Err
returns-in-Err g c =
    rw c.schedule_fault.ensures
    (schedule_why c.args.k c.args.d _ c.args.times.now c.args.gates.now _ c.requires.few (λ is. c.in-Err.ensures.too_large.0 (ap unplanned is)) (λ x is. ((c.in-Err.ensures.narrow x).0 (ap unplanned is)).1))
