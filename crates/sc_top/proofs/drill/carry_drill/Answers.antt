use Rattle.std.proofs.lemmas.Result.{err_from_is_err_and}
use Rattle.sc_top.specs.Answers.{done}
use Rattle.sc_top.specs.Drills.{drill_summary}
use Rattle.sc_top.specs.declared.report.Summary.{Summary}
use Rattle.sc_top.proofs.CarryLemmas.{carried_stops, carried_done, carried_unwritten}
use Rattle.sc_top.proofs.OtherLemmas.{took_found}
use Rattle.sc_top.proofs.drill.carry_drill.Goals as goal

pub returns-in_err-summary : goal.returns-in_err-summary
returns-in_err-summary g c =
    let p = err_from_is_err_and c.from_residual.result c.from_residual.ensures.1 in
    rw (p.1, p.2) (carried_stops _ c.requires.«open» (took_found g.F.Shelf.held g.F.Shelf.tells_held g.F.Shelf.faults c.args.shelf.now _ (rw (c.as_bytes.ensures, c.in-Ok.ensures.text) at c.in_err-summary.ensures)))

pub returns-in-Ok-print_drill : goal.returns-in-Ok-print_drill
returns-in-Ok-print_drill g c =
    carried_done (λ (summary : Summary). done (drill_summary c.args.n summary)) (took_found g.F.Shelf.held g.F.Shelf.tells_held g.F.Shelf.faults c.args.shelf.now _ (rw (c.as_bytes.ensures, c.in-Ok.ensures.text) at c.in_ok-summary.ensures)) c.in-Ok-print_drill.ensures

pub returns : goal.returns
returns g c =
    carried_unwritten (λ (summary : Summary). done (drill_summary c.args.n summary)) (took_found g.F.Shelf.held g.F.Shelf.tells_held g.F.Shelf.faults c.args.shelf.now _ (rw (c.as_bytes.ensures, c.in-Ok.ensures.text) at c.in_ok-summary.ensures)) c.in-Err-print_drill.ensures
