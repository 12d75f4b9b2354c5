use Rattle.std.proofs.Common.{◌≡◌, ◌+◌, ◌-◌, ◌++◌}
use Rattle.sc_rev.specs.Circuits.{literal_gates}
use Rattle.sc_rev.proofs.draft.Draft.put_bits.Given as goal

abbrev pub invariant-loop-i : goal.invariant-loop-i
invariant-loop-i l = record {
  gates : l.self.gates.items ++ literal_gates (l.width - l.i) l.rest (l.s + l.i) ≡ l.initial.self.gates.items ++ literal_gates l.width l.initial.rest l.s;
  next : l.self.next ≡ l.initial.self.next;
}
