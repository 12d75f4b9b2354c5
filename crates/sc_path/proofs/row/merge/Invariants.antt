use Rattle.std.proofs.Common.{◌≡◌, ℕ, ◌+◌, ◌≤◌, drop, length, ◌-◌, Option}
use Rattle.sc_gate.specs.Chains.{more}
use Rattle.sc_path.specs.Rows.{look, both, AreApart}
use Rattle.sc_path.proofs.row.merge.Given as goal

abbrev pub invariant-loop-i : goal.invariant-loop-i
invariant-loop-i l = record {
  in_a : l.i ≤ length l.a;
  in_b : l.j ≤ length l.b;
  before_a : AreApart l.out (drop l.i l.a);
  before_b : AreApart l.out (drop l.j l.b);
  sums : (s : Option ℕ) → more (look l.out s) (both (drop l.i l.a) (drop l.j l.b) l.by s) ≡ both l.a l.b l.by s;
}

abbrev pub decreases-loop-i : goal.decreases-loop-i
decreases-loop-i l = (length l.a + length l.b) - (l.i + l.j)
