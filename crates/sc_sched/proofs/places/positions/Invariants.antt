use Rattle.std.proofs.Common.{◌≡◌}
use Rattle.sc_sched.specs.Schedule.{positions}
use Rattle.sc_sched.proofs.places.positions.Given as goal

abbrev pub invariant-loop-x : goal.invariant-loop-x
invariant-loop-x l = l.positions.items ≡ positions l.x
