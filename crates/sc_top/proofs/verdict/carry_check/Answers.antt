use Rattle.std.proofs.lemmas.Result.{err_from_is_err_and}
use Rattle.sc_top.specs.Verdicts.{judged}
use Rattle.sc_top.proofs.CarryLemmas.{carried_stops, carried_done, carried_unwritten}
use Rattle.sc_top.proofs.verdict.carry_check.Goals as goal

pub returns-in_err-found : goal.returns-in_err-found
returns-in_err-found g c =
    let p = err_from_is_err_and c.from_residual.result c.from_residual.ensures.1 in rw (p.1, p.2) (carried_stops _ c.requires c.in_err-found.ensures)

pub returns-in-Ok : goal.returns-in-Ok
returns-in-Ok g c = rw c.ending.ensures (carried_done judged c.in_ok-found.ensures c.in-Ok.ensures)

pub returns-in-Err : goal.returns-in-Err
returns-in-Err g c = carried_unwritten judged c.in_ok-found.ensures c.in-Err.ensures
