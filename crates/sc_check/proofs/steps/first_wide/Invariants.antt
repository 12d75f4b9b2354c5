use Rattle.std.proofs.Common.{◌≡◌, ℕ, ◌<◌, false, get_or, []}
use Rattle.sc_check.specs.Finding.{has_wide_region}
use Rattle.sc_check.proofs.steps.first_wide.Given as goal

abbrev pub invariant-loop-i : goal.invariant-loop-i
invariant-loop-i l = (j : ℕ) → j < l.i → has_wide_region l.gates l.d (get_or l.steps j []) ≡ false
