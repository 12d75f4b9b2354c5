use Rattle.std.proofs.Common.{◌≡◌, ◌+◌, ◌++◌, drop}
use Rattle.sc_rev.specs.Cells.{copies}
use Rattle.sc_rev.proofs.draft.Draft.put_copies.Given as goal

abbrev pub invariant-loop-i : goal.invariant-loop-i
invariant-loop-i l = record {
  gates : l.self.gates.items ++ copies (drop l.i l.word) (l.first + l.i) ≡ l.initial.self.gates.items ++ copies l.word l.first;
  next : l.self.next ≡ l.initial.self.next;
}
