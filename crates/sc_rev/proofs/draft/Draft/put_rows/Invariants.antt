use Rattle.std.proofs.Common.{◌≡◌, ◌+◌, ◌≤◌, ◌++◌, drop, length}
use Rattle.sc_rev.specs.Cells.{rows}
use Rattle.sc_rev.proofs.draft.Draft.put_rows.Given as goal

abbrev pub invariant-loop-i : goal.invariant-loop-i
invariant-loop-i l = record {
  gates : l.self.gates.items ++ rows (drop l.i l.e) (drop l.i l.f) (l.s + l.i) l.now.wire l.now.from l.now.left ≡ l.initial.self.gates.items ++ rows l.e l.f l.s l.fn.carry.wire l.fn.carry.from l.fn.carry.left;
  next : l.self.next ≡ l.initial.self.next;
  within : (l.i ≤ length l.e) × (l.i ≤ length l.f);
  carries : l.now.wire + l.now.left ≤ 65536;
}
