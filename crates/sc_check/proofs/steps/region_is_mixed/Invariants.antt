use Rattle.std.proofs.Common.{◌≡◌, ℕ, ◌<◌, get_or}
use Rattle.sc_sched.specs.Gates.{kind_at}
use Rattle.sc_check.proofs.steps.region_is_mixed.Given as goal

abbrev pub invariant-loop-x : goal.invariant-loop-x
invariant-loop-x l = (j : ℕ) → j < l.x-index → kind_at l.gates (get_or l.region j 0) ≡ kind_at l.gates (get_or l.region 0 0)
