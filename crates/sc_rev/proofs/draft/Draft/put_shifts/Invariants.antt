use Rattle.std.proofs.Common.{drop}
use Rattle.sc_rev.specs.Functions.{shifted}
use Rattle.sc_rev.specs.Emitting.{InShifts, only_word}
use Rattle.sc_rev.proofs.draft.Draft.put_shifts.Given as goal

abbrev pub invariant-loop-link : goal.invariant-loop-link
invariant-loop-link l = InShifts (shifted (only_word l.fn.word.items l.fn.self.next) l.links) l.fn.self l.self l.now.items (drop l.link-index l.links)
