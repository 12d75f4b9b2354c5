use Rattle.std.proofs.lemmas.Result.{err_from_is_err_and}
use Rattle.sc_top.proofs.StageLemmas.{found_stops, found_goes}
use Rattle.sc_top.proofs.scheduled.scheduled.Goals as goal

pub returns-in_err-list : goal.returns-in_err-list
returns-in_err-list c = let p = err_from_is_err_and c.from_residual.result c.from_residual.ensures.1 in rw (p.1, p.2) (found_stops c.in_err-list.ensures.list)

pub returns : goal.returns
returns c = found_goes c.in_ok-list.list c.planned.result c.in_ok-list.ensures.list.value (rw c.as_slice.ensures at c.planned.ensures)
