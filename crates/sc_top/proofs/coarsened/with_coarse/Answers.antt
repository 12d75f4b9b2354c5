use Rattle.std.proofs.Common.{refl}
use Rattle.std.proofs.lemmas.Result.{err_from_is_err_and}
use Rattle.sc_top.proofs.StageLemmas.{why_stops, found_stops, found_goes}
use Rattle.sc_top.proofs.coarsened.with_coarse.Goals as goal

pub returns-in_err-tally-clause-coarse : goal.returns-in_err-tally-clause-coarse
returns-in_err-tally-clause-coarse c =
    let p = err_from_is_err_and c.from_residual.result c.from_residual.ensures.1 in rw (p.1, p.2) (why_stops _ _ _ (rw c.ones.ensures at c.in_err-tally.ensures.fault))

pub returns-in_err-coarse-clause-coarse : goal.returns-in_err-coarse-clause-coarse
returns-in_err-coarse-clause-coarse c =
    let p = err_from_is_err_and c.from_residual-in_err-coarse.result c.from_residual-in_err-coarse.ensures.1 in
    rw (p.1, p.2) (found_goes tt _ (rw c.ones.ensures at c.in_ok-tally.ensures.within) (found_stops c.in_err-coarse.ensures.coarse))

pub returns-clause-coarse : goal.returns-clause-coarse
returns-clause-coarse c =
    found_goes tt _ (rw c.ones.ensures at c.in_ok-tally.ensures.within) (found_goes c.in_ok-coarse.coarse _ c.in_ok-coarse.ensures.coarse.value (record { value = refl; fault = tt }))
