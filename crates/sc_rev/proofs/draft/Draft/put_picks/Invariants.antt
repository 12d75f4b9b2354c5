use Rattle.std.proofs.Common.{◌≡◌, ◌+◌, ◌≤◌, ◌++◌, drop, length}
use Rattle.sc_rev.specs.Circuits.{pick_gates}
use Rattle.sc_rev.proofs.draft.Draft.put_picks.Given as goal

abbrev pub invariant-loop-i : goal.invariant-loop-i
invariant-loop-i l = record {
  gates : l.self.gates.items ++ pick_gates l.test (drop l.i l.f) (drop l.i l.g) (l.d + l.i) (l.s + l.i) ≡ l.initial.self.gates.items ++ pick_gates l.test l.f l.g l.d l.s;
  next : l.self.next ≡ l.initial.self.next;
  within : (l.i ≤ length l.f) × (l.i ≤ length l.g);
}
