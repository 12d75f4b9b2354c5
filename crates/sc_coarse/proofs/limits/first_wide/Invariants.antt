use Rattle.std.proofs.Common.{◌<◌, ◌≤◌, ℕ}
use Rattle.sc_coarse.specs.Refusals.{width_at}
use Rattle.sc_coarse.proofs.limits.first_wide.Given as goal

abbrev pub invariant-loop-i : goal.invariant-loop-i
invariant-loop-i l = (j y : ℕ) → j < l.i → width_at l.deck j y ≤ l.d
