use Rattle.std.proofs.lemmas.Result.{err_from_is_err_and}
use Rattle.sc_read.specs.declared.flat.FlatText.{FlatText}
use Rattle.sc_top.specs.Answers.{done}
use Rattle.sc_top.specs.Lowered.{lowered_text}
use Rattle.sc_top.proofs.CarryLemmas.{carried_stops, carried_done, carried_unwritten}
use Rattle.sc_top.proofs.lowered.carry_open.Goals as goal

pub returns-in_err-list : goal.returns-in_err-list
returns-in_err-list g c =
    let p = err_from_is_err_and c.from_residual.result c.from_residual.ensures.1 in rw (p.1, p.2) (carried_stops _ c.requires c.in_err-list.ensures)

pub returns-in-Ok : goal.returns-in-Ok
returns-in-Ok g c = carried_done (λ (list : FlatText). done (lowered_text list)) c.in_ok-list.ensures c.in-Ok.ensures

pub returns : goal.returns
returns g c = carried_unwritten (λ (list : FlatText). done (lowered_text list)) c.in_ok-list.ensures c.in-Err.ensures
