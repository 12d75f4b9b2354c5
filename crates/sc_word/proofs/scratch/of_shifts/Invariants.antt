use Rattle.std.proofs.Common.{◌≡◌, ◌+◌, drop, sum_by}
use Rattle.sc_word.specs.Scratch.{shift_scratch}
use Rattle.sc_word.proofs.scratch.of_shifts.Given as goal

abbrev pub invariant-loop-link : goal.invariant-loop-link
invariant-loop-link l = l.count + sum_by (shift_scratch l.width) (drop l.link-index l.links) ≡ sum_by (shift_scratch l.width) l.links
