use Rattle.std.proofs.lemmas.Result.{err_from_is_err_and}
use Rattle.sc_top.proofs.StageLemmas.{took_stops, took_ends}
use Rattle.sc_top.proofs.lowered.list_of.Goals as goal

pub returns-in_err-deck : goal.returns-in_err-deck
returns-in_err-deck g c = let p = err_from_is_err_and c.from_residual.result c.from_residual.ensures.1 in rw (p.1, p.2) (took_stops c.in_err-deck.ensures.deck)

pub returns : goal.returns
returns g c = took_ends c.in_ok-deck.deck c.listed.result c.in_ok-deck.ensures.deck (rw c.ones.ensures at c.listed.ensures.list)
