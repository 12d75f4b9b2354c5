use Rattle.std.proofs.lemmas.Result.{err_from_is_err_and}
use Rattle.std.specs.Prelude.{is_some}
use Rattle.sc_top.specs.Answers.{done}
use Rattle.sc_top.specs.Reports.{report_text}
use Rattle.sc_top.specs.declared.report.Summary.{Summary}
use Rattle.sc_top.proofs.CarryLemmas.{carried_stops, carried_done, carried_unwritten}
use Rattle.sc_top.proofs.count.carry_count.Goals as goal

pub returns-in_err-summary : goal.returns-in_err-summary
returns-in_err-summary g c =
    let p = err_from_is_err_and c.from_residual.result c.from_residual.ensures.1 in rw (p.1, p.2) (carried_stops _ c.requires c.in_err-summary.ensures)

pub returns-in-Ok : goal.returns-in-Ok
returns-in-Ok g c = carried_done (λ (s : Summary). done (report_text (is_some c.args.times) s)) c.in_ok-summary.ensures (rw c.is_some-weighs.ensures at c.in-Ok.ensures)

pub returns-in-Err : goal.returns-in-Err
returns-in-Err g c = carried_unwritten (λ (s : Summary). done (report_text (is_some c.args.times) s)) c.in_ok-summary.ensures (rw c.is_some-weighs.ensures at c.in-Err.ensures)
