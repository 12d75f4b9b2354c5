use Rattle.std.proofs.Common.{◌≡◌, ℕ, ◌<◌, false, get_or, []}
use Rattle.sc_check.specs.Finding.{has_mixed_kinds}
use Rattle.sc_check.proofs.steps.first_mixed.Given as goal

abbrev pub invariant-loop-i : goal.invariant-loop-i
invariant-loop-i l = (j : ℕ) → j < l.i → has_mixed_kinds l.gates (get_or l.steps j []) ≡ false
