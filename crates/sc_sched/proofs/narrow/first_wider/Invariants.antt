use Rattle.std.proofs.Common.{◌<◌, ◌≤◌, ℕ}
use Rattle.sc_sched.specs.Gates.{arity_at}
use Rattle.sc_sched.proofs.narrow.first_wider.Given as goal

abbrev pub invariant-loop-x : goal.invariant-loop-x
invariant-loop-x l = (y : ℕ) → y < l.x → arity_at l.gates y ≤ l.d
