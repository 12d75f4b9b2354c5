use Rattle.std.proofs.Common.{drop}
use Rattle.sc_rev.specs.Circuits.{mul_piece}
use Rattle.sc_rev.specs.Emitting.{InProduct}
use Rattle.sc_rev.proofs.draft.Draft.put_product.Given as goal

abbrev pub invariant-loop-i : goal.invariant-loop-i
invariant-loop-i l = InProduct l.e (mul_piece l.e l.f l.fn.self.next) l.fn.self l.self l.word.items l.i (drop l.i l.f)
