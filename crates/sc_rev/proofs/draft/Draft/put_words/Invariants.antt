use Rattle.std.proofs.Common.{◌≡◌, ◌+◌, drop, sum, ◌++◌}
use Rattle.sc_rev.specs.Functions.{words_from}
use Rattle.sc_rev.specs.Emitting.{wires_of}
use Rattle.sc_rev.proofs.draft.Draft.put_words.Given as goal

abbrev pub invariant-loop-width : goal.invariant-loop-width
invariant-loop-width l = record {
  words : wires_of l.words.items ++ words_from l.self.next (drop l.width-index l.widths) ≡ words_from l.initial.self.next l.widths;
  gates : l.self.gates ≡ l.initial.self.gates;
  next : l.self.next + sum (drop l.width-index l.widths) ≡ l.initial.self.next + sum l.widths;
}
