use Rattle.std.proofs.lemmas.Result.{err_from_is_err_and}
use Rattle.std.specs.Prelude.{List}
use Rattle.sc_deck.specs.Events.{flat}
use Rattle.sc_deck.specs.Modules.{Module}
use Rattle.sc_top.specs.Answers.{done}
use Rattle.sc_top.specs.Expansions.{whole}
use Rattle.sc_top.proofs.CarryLemmas.{carried_stops, carried_done, carried_unwritten}
use Rattle.sc_top.proofs.expand.carry_expand.Goals as goal

pub returns-in_err-expansion : goal.returns-in_err-expansion
returns-in_err-expansion g c =
    let p = err_from_is_err_and c.from_residual.result c.from_residual.ensures.1 in rw (p.1, p.2) (carried_stops _ c.requires c.in_err-expansion.ensures)

pub returns-in-Ok : goal.returns-in-Ok
returns-in-Ok g c = carried_done (λ (modules : List Module). done (flat (whole modules))) c.in_ok-expansion.ensures c.in-Ok.ensures

pub returns : goal.returns
returns g c = carried_unwritten (λ (modules : List Module). done (flat (whole modules))) c.in_ok-expansion.ensures c.in-Err.ensures
