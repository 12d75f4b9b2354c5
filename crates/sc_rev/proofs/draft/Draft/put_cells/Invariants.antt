use Rattle.std.proofs.Common.{◌≡◌, ◌+◌, ◌≤◌, ◌++◌, drop, length}
use Rattle.sc_rev.specs.Cells.{each}
use Rattle.sc_rev.specs.Emitting.{cell_gates}
use Rattle.sc_rev.proofs.draft.Draft.put_cells.Given as goal

abbrev pub invariant-loop-i : goal.invariant-loop-i
invariant-loop-i l = record {
  gates : l.self.gates.items ++ each (cell_gates l.kind) (drop l.i l.e) (drop l.i l.f) (l.s + l.i) ≡ l.initial.self.gates.items ++ each (cell_gates l.kind) l.e l.f l.s;
  next : l.self.next ≡ l.initial.self.next;
  within : (l.i ≤ length l.e) × (l.i ≤ length l.f);
}
