use Rattle.std.proofs.Common.{◌≡◌, ap, Result, Ok}
use Rattle.std.proofs.lemmas.Result.{err_from_is_err_and}
use Rattle.sc_check.specs.declared.finding.Finding.{Finding}
use Rattle.sc_top.specs.declared.fault.Refusal.{Refusal}
use Rattle.sc_top.proofs.StageLemmas.{found_stops, found_goes}
use Rattle.sc_top.proofs.verdict.judge.Goals as goal

abbrev verdict_is : Finding → Result Finding Refusal
verdict_is found = Ok found

is_verdict : {a b : Finding} → a ≡ b → verdict_is a ≡ verdict_is b
is_verdict same = ap verdict_is same

pub returns-in_err-list : goal.returns-in_err-list
returns-in_err-list c = let p = err_from_is_err_and c.from_residual.result c.from_residual.ensures.1 in rw (p.1, p.2) (found_stops c.in_err-list.ensures.list)

pub returns-in_err-plan : goal.returns-in_err-plan
returns-in_err-plan c =
    let p = err_from_is_err_and c.from_residual-in_err-plan.result c.from_residual-in_err-plan.ensures.1 in
    rw (p.1, p.2) (found_goes c.in_ok-list.list _ c.in_ok-list.ensures.list.value (found_stops (rw c.as_slice.ensures at c.in_err-plan.ensures)))

pub returns-in-Ok : goal.returns-in-Ok
returns-in-Ok c =
    found_goes c.in_ok-list.list _ c.in_ok-list.ensures.list.value
    (found_goes c.in_ok-plan.plan _ (rw c.as_slice.ensures at c.in_ok-plan.ensures.value)
    (record { value = is_verdict (rw c.as_slice-2.ensures at c.in-Ok.ensures.finding); fault = tt }))
