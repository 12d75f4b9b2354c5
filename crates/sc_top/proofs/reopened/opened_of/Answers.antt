use Rattle.std.proofs.lemmas.Result.{err_from_is_err_and}
use Rattle.sc_top.proofs.StageLemmas.{took_stops, took_ends}
use Rattle.sc_top.proofs.reopened.opened_of.Goals as goal

pub returns-in_err-text : goal.returns-in_err-text
returns-in_err-text g c = let p = err_from_is_err_and c.from_residual.result c.from_residual.ensures.1 in rw (p.1, p.2) (took_stops c.in_err-text.ensures.text)

pub returns : goal.returns
returns g c = took_ends c.in_ok-text.text c.reopened.result c.in_ok-text.ensures.text (rw c.as_bytes.ensures at c.reopened.ensures)
