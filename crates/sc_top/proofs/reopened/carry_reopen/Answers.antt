use Rattle.std.proofs.lemmas.Result.{err_from_is_err_and}
use Rattle.sc_open.specs.declared.text.OpenText.{OpenText}
use Rattle.sc_top.specs.Answers.{done}
use Rattle.sc_top.specs.Lowered.{back_text}
use Rattle.sc_top.proofs.CarryLemmas.{carried_stops, carried_done, carried_unwritten}
use Rattle.sc_top.proofs.reopened.carry_reopen.Goals as goal

pub returns-in_err-opened : goal.returns-in_err-opened
returns-in_err-opened g c =
    let p = err_from_is_err_and c.from_residual.result c.from_residual.ensures.1 in rw (p.1, p.2) (carried_stops _ c.requires c.in_err-opened.ensures)

pub returns-in-Ok : goal.returns-in-Ok
returns-in-Ok g c = carried_done (λ (opened : OpenText). done (back_text opened)) c.in_ok-opened.ensures c.in-Ok.ensures

pub returns : goal.returns
returns g c = carried_unwritten (λ (opened : OpenText). done (back_text opened)) c.in_ok-opened.ensures c.in-Err.ensures
