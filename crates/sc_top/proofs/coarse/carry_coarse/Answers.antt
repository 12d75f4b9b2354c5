use Rattle.std.proofs.lemmas.Result.{err_from_is_err_and}
use Rattle.sc_top.specs.Answers.{done}
use Rattle.sc_top.specs.Coarsened.{coarsened_text}
use Rattle.sc_top.specs.declared.coarsened.Coarsened.{Coarsened}
use Rattle.sc_top.proofs.CarryLemmas.{carried_stops, carried_done, carried_unwritten}
use Rattle.sc_top.proofs.coarse.carry_coarse.Goals as goal

pub returns-in_err-coarse : goal.returns-in_err-coarse
returns-in_err-coarse g c =
    let p = err_from_is_err_and c.from_residual.result c.from_residual.ensures.1 in rw (p.1, p.2) (carried_stops _ c.requires.«open» c.in_err-coarse.ensures.took)

pub returns-in-Ok : goal.returns-in-Ok
returns-in-Ok g c = carried_done (λ (made : Coarsened). done (coarsened_text c.args.k c.args.d made)) c.in_ok-coarse.ensures.took c.in-Ok.ensures

pub returns : goal.returns
returns g c = carried_unwritten (λ (made : Coarsened). done (coarsened_text c.args.k c.args.d made)) c.in_ok-coarse.ensures.took c.in-Err.ensures
