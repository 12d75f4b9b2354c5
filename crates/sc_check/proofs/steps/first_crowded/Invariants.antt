use Rattle.std.proofs.Common.{◌≡◌, ℕ, ◌<◌, false, get_or, []}
use Rattle.sc_check.specs.Finding.{has_many_regions}
use Rattle.sc_check.proofs.steps.first_crowded.Given as goal

abbrev pub invariant-loop-i : goal.invariant-loop-i
invariant-loop-i l = (j : ℕ) → j < l.i → has_many_regions l.k (get_or l.steps j []) ≡ false
