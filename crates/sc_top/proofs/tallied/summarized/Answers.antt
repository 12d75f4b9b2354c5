use Rattle.std.proofs.Common.{refl}
use Rattle.std.proofs.lemmas.Result.{err_from_is_err_and}
use Rattle.sc_top.proofs.ModeLemmas.{found_memory}
use Rattle.sc_top.proofs.StageLemmas.{why_stops, found_goes}
use Rattle.sc_top.proofs.tallied.summarized.Goals as goal

pub returns-in_err-tally : goal.returns-in_err-tally
returns-in_err-tally c = let p = err_from_is_err_and c.from_residual.result c.from_residual.ensures.1 in rw (p.1, p.2) (why_stops _ _ _ c.in_err-tally.ensures.fault)

pub returns-in-Ok : goal.returns-in-Ok
returns-in-Ok c = found_goes tt _ c.in_ok-tally.ensures.within (record { value = rw c.in_ok-tally.ensures.times at c.summary_of.ensures; fault = tt })

pub returns : goal.returns
returns c = found_memory _ _ refl
