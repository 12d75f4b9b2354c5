use Rattle.std.proofs.lemmas.Result.{err_from_is_err_and}
use Rattle.sc_top.proofs.StageLemmas.{took_stops, took_ends}
use Rattle.sc_top.proofs.coarse.source_coarse.Goals as goal

pub returns-in_err-deck-clause-took : goal.returns-in_err-deck-clause-took
returns-in_err-deck-clause-took g c = let p = err_from_is_err_and c.from_residual.result c.from_residual.ensures.1 in rw (p.1, p.2) (took_stops c.in_err-deck.ensures.deck)

pub returns-clause-took : goal.returns-clause-took
returns-clause-took g c = took_ends c.in_ok-deck.deck c.with_coarse.result c.in_ok-deck.ensures.deck c.with_coarse.ensures.coarse
