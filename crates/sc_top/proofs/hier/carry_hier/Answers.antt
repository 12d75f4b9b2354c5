use Rattle.std.proofs.lemmas.Result.{err_from_is_err_and}
use Rattle.std.specs.Prelude.{List}
use Rattle.sc_deck.specs.Hierarchical.{hier}
use Rattle.sc_deck.specs.Modules.{Module}
use Rattle.sc_top.specs.Answers.{done}
use Rattle.sc_top.proofs.CarryLemmas.{carried_stops, carried_done, carried_unwritten}
use Rattle.sc_top.proofs.hier.carry_hier.Goals as goal

pub returns-in_err-deck : goal.returns-in_err-deck
returns-in_err-deck g c =
    let p = err_from_is_err_and c.from_residual.result c.from_residual.ensures.1 in rw (p.1, p.2) (carried_stops _ c.requires c.in_err-deck.ensures.deck)

pub returns-in-Ok : goal.returns-in-Ok
returns-in-Ok g c = carried_done (λ (modules : List Module). done (hier modules)) c.in_ok-deck.ensures.deck c.in-Ok.ensures

pub returns : goal.returns
returns g c = carried_unwritten (λ (modules : List Module). done (hier modules)) c.in_ok-deck.ensures.deck c.in-Err.ensures
