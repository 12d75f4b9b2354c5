use Rattle.std.proofs.lemmas.Result.{err_from_is_err_and}
use Rattle.sc_top.proofs.StageLemmas.{took_stops, took_ends}
use Rattle.sc_top.proofs.source.source_of.Goals as goal

pub returns-in_err-text-clause-deck : goal.returns-in_err-text-clause-deck
returns-in_err-text-clause-deck g c = let p = err_from_is_err_and c.from_residual.result c.from_residual.ensures.1 in rw (p.1, p.2) (took_stops c.in_err-text.ensures.text)

pub returns-clause-deck : goal.returns-clause-deck
returns-clause-deck g c = took_ends c.in_ok-text.text c.build_deck.result c.in_ok-text.ensures.text (rw c.as_bytes.ensures at c.build_deck.ensures.deck)
