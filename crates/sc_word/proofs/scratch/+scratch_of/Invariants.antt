use Rattle.std.proofs.Common.{◌≡◌, ◌+◌, drop}
use Rattle.sc_word.specs.Pure.{pure_typed_links}
use Rattle.sc_word.specs.Scratch.{scratch_row}
use Rattle.sc_word.specs.Operands.{used}
use Rattle.sc_word.proofs.scratch.+scratch_of.Given as goal

abbrev pub decreases-scratch_of : goal.decreases-scratch_of
decreases-scratch_of l = goal.size-scratch_of l

abbrev pub invariant-loop-link : goal.invariant-loop-link
invariant-loop-link l = l.count + scratch_row l.width (pure_typed_links (drop l.link-index l.link-items)) ≡ used l.expr
