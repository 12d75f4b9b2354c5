use Rattle.std.proofs.Common.{drop}
use Rattle.sc_word.specs.Pure.{pure_typed_expr}
use Rattle.sc_rev.specs.Functions.{circuit}
use Rattle.sc_rev.specs.Emitting.{InChain, wires_of}
use Rattle.sc_rev.proofs.draft.Draft.+emit.Given as goal

abbrev pub decreases-emit : goal.decreases-emit
decreases-emit l = goal.size-emit l

abbrev pub invariant-loop-link : goal.invariant-loop-link
invariant-loop-link l = InChain (wires_of l.words) (circuit (wires_of l.words) l.fn.self.next (pure_typed_expr l.expr)) l.fn.self l.self l.word.items (drop l.link-index l.link-items)
