use Rattle.std.proofs.lemmas.Result.{err_from_is_err_and}
use Rattle.sc_sched.specs.Text.{schedule_text}
use Rattle.sc_sched.specs.declared.plan.Plan.{Plan}
use Rattle.sc_top.specs.Answers.{done}
use Rattle.sc_top.proofs.CarryLemmas.{carried_stops, carried_done, carried_unwritten}
use Rattle.sc_top.proofs.schedule.carry_schedule.Goals as goal

pub returns-in_err-plan : goal.returns-in_err-plan
returns-in_err-plan g c =
    let p = err_from_is_err_and c.from_residual.result c.from_residual.ensures.1 in rw (p.1, p.2) (carried_stops _ c.requires.«open» c.in_err-plan.ensures)

pub returns-in-Ok : goal.returns-in-Ok
returns-in-Ok g c = carried_done (λ (plan : Plan). done (schedule_text plan)) c.in_ok-plan.ensures c.in-Ok.ensures

pub returns : goal.returns
returns g c = carried_unwritten (λ (plan : Plan). done (schedule_text plan)) c.in_ok-plan.ensures c.in-Err.ensures
