use Rattle.std.proofs.Common.{take, drop}
use Rattle.sc_syntax.specs.Alike.{pure_word}
use Rattle.sc_word.specs.Operands.{Chained}
use Rattle.sc_word.proofs.walk.+walk.Given as goal

abbrev pub decreases-walk : goal.decreases-walk
decreases-walk l = goal.size-walk l

abbrev pub invariant-loop-link : goal.invariant-loop-link
invariant-loop-link l =
    Chained l.words l.expr.place l.first.value.place (pure_word l.first.value.node) (take l.link-index l.link-items) (drop l.link-index l.link-items) l.link-items l.chain
