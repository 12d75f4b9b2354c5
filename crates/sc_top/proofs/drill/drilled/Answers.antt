use Rattle.std.proofs.lemmas.Result.{err_from_is_err_and}
use Rattle.sc_top.proofs.StageLemmas.{found_stops, found_goes}
use Rattle.sc_top.proofs.drill.drilled.Goals as goal

pub returns-in_err-deck : goal.returns-in_err-deck
returns-in_err-deck c = let p = err_from_is_err_and c.from_residual.result c.from_residual.ensures.1 in rw (p.1, p.2) (found_stops c.in_err-deck.ensures.deck)

pub returns : goal.returns
returns c = found_goes c.in_ok-deck.deck c.summarized.result c.in_ok-deck.ensures.deck.value (rw c.ones.ensures at c.summarized.ensures)
