use Rattle.std.proofs.Common.{◌≡◌, ℕ, ◌<◌, false, get_or, []}
use Rattle.sc_check.specs.Finding.{is_mixed}
use Rattle.sc_check.proofs.steps.step_is_mixed.Given as goal

abbrev pub invariant-loop-region : goal.invariant-loop-region
invariant-loop-region l = (j : ℕ) → j < l.region-index → is_mixed l.gates (get_or l.step j []) ≡ false
