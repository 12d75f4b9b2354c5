use Rattle.std.proofs.Common.{◌≡◌, ◌-◌, ◌≤◌, ◌++◌, take, reverse, length}
use Rattle.sc_rev.proofs.draft.Draft.put_back.Given as goal

abbrev pub invariant-loop-i : goal.invariant-loop-i
invariant-loop-i l = record {
  gates : l.self.gates.items ++ reverse (take (l.count - l.i) l.initial.self.gates.items) ≡ l.initial.self.gates.items ++ reverse (take l.count l.initial.self.gates.items);
  begins : take l.count l.self.gates.items ≡ take l.count l.initial.self.gates.items;
  long : l.count ≤ length l.self.gates.items;
  within : l.i ≤ l.count;
  next : l.self.next ≡ l.initial.self.next;
}
