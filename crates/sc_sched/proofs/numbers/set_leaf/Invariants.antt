use Rattle.std.proofs.Common.{length, ◌≡◌}
use Rattle.sc_sched.proofs.NumberTrees.{IsMending}
use Rattle.sc_sched.proofs.numbers.set_leaf.Given as goal

abbrev pub invariant-loop-j : goal.invariant-loop-j
invariant-loop-j l = record {
  many : length l.tree.items ≡ length l.fn.tree.items;
  mending : IsMending l.fn.tree.items l.leaf l.is_in l.tree.items l.j;
}

abbrev pub decreases-loop-j : goal.decreases-loop-j
decreases-loop-j l = l.j
