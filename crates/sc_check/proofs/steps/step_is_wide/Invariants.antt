use Rattle.std.proofs.Common.{◌≡◌, ℕ, ◌<◌, false, get_or, []}
use Rattle.sc_check.specs.Finding.{is_wide}
use Rattle.sc_check.proofs.steps.step_is_wide.Given as goal

abbrev pub invariant-loop-region : goal.invariant-loop-region
invariant-loop-region l = (j : ℕ) → j < l.region-index → is_wide l.gates l.d (get_or l.step j []) ≡ false
