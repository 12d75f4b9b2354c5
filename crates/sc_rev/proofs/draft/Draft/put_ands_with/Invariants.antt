use Rattle.std.proofs.Common.{◌≡◌, ◌+◌, ◌++◌, drop, take}
use Rattle.sc_rev.proofs.Emitting.{ands_with}
use Rattle.sc_rev.proofs.draft.Draft.put_ands_with.Given as goal

abbrev pub invariant-loop-i : goal.invariant-loop-i
invariant-loop-i l = record {
  gates : l.self.gates.items ++ ands_with (drop l.i (take l.count l.e)) l.f (l.s + l.i) ≡ l.initial.self.gates.items ++ ands_with (take l.count l.e) l.f l.s;
  next : l.self.next ≡ l.initial.self.next;
}
