use Rattle.std.proofs.Common.{◌≡◌, true, length, ◌*◌, ◌-◌, ◌%◌}
use Rattle.sc_sched.specs.NumberTree.{node}
use Rattle.sc_sched.proofs.NumberTrees.{IsNear}
use Rattle.sc_sched.proofs.numbers.first_leaf.Given as goal

abbrev pub invariant-loop-j : goal.invariant-loop-j
invariant-loop-j l = IsNear l.tree l.leaf l.j l.height

abbrev pub decreases-loop-j : goal.decreases-loop-j
decreases-loop-j l = 2 * (length l.tree - l.height) - l.j % 2

abbrev pub invariant-loop-height : goal.invariant-loop-height
invariant-loop-height l = record { near : IsNear l.tree l.leaf l.j l.height; set : node l.tree l.j ≡ true }

abbrev pub decreases-loop-height : goal.decreases-loop-height
decreases-loop-height l = l.height
