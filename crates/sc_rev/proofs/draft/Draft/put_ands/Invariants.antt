use Rattle.std.proofs.Common.{◌≡◌, ◌+◌, ◌-◌, ◌++◌, drop}
use Rattle.sc_rev.specs.Circuits.{chain_rest}
use Rattle.sc_rev.proofs.draft.Draft.put_ands.Given as goal

abbrev pub invariant-loop-i : goal.invariant-loop-i
invariant-loop-i l = record {
  gates : l.self.gates.items ++ chain_rest (drop l.i l.word) (l.first + l.i - 1) ≡ l.initial.self.gates.items ++ chain_rest (drop 1 l.word) l.first;
  next : l.self.next ≡ l.initial.self.next;
}
