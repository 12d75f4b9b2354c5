use Rattle.std.proofs.Common.{◌<◌, ◌≤◌, ℕ}
use Rattle.sc_coarse.specs.Refusals.{width_in}
use Rattle.sc_coarse.proofs.limits.first_wide_item.Given as goal

abbrev pub invariant-loop-x : goal.invariant-loop-x
invariant-loop-x l = (y : ℕ) → y < l.x → width_in l.items y ≤ l.d
