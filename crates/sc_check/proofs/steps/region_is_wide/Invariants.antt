use Rattle.std.proofs.Common.{◌≡◌, ◌≤◌, take}
use Rattle.std.specs.List.{sum_by}
use Rattle.sc_sched.specs.Gates.{arity_at}
use Rattle.sc_check.proofs.steps.region_is_wide.Given as goal

abbrev pub invariant-loop-x : goal.invariant-loop-x
invariant-loop-x l = record {
  sum_is : l.sum ≡ sum_by (arity_at l.gates) (take l.x-index l.region);
  small : l.sum ≤ l.d;
}
