use Rattle.std.proofs.Common.{◌≡◌, ◌+◌, drop, sum}
use Rattle.sc_rev.proofs.function.operands.Given as goal

abbrev pub invariant-loop-width : goal.invariant-loop-width
invariant-loop-width l = l.count + sum (drop l.width-index l.width-items) ≡ l.initial.count + sum l.width-items
