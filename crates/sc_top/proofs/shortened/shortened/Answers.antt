use Rattle.std.proofs.Common.{◌≡◌, ℕ, List, ap, Result, Ok}
use Rattle.std.proofs.lemmas.Result.{err_from_is_err_and}
use Rattle.sc_top.specs.declared.fault.Refusal.{Refusal}
use Rattle.sc_top.proofs.StageLemmas.{found_stops, found_goes}
use Rattle.sc_top.proofs.shortened.shortened.Goals as goal

abbrev text_is : List ℕ → Result (List ℕ) Refusal
text_is text = Ok text

is_text : {a b : List ℕ} → a ≡ b → text_is a ≡ text_is b
is_text same = ap text_is same

pub returns-in_err-list : goal.returns-in_err-list
returns-in_err-list g c = let p = err_from_is_err_and c.from_residual.result c.from_residual.ensures.1 in rw (p.1, p.2) (found_stops (rw c.ones.ensures at c.in_err-list.ensures.list))

pub returns-in-Ok : goal.returns-in-Ok
returns-in-Ok g c =
    found_goes c.in_ok-list.list _ (rw c.ones.ensures at c.in_ok-list.ensures.list.value) (record { value = is_text c.in-Ok.ensures; fault = tt })
