use Rattle.std.proofs.Common.{◌≡◌, ◌+◌, drop, sum_by}
use Rattle.sc_word.specs.Operands.{used}
use Rattle.sc_word.proofs.function.total_scratch.Given as goal

abbrev pub invariant-loop-bind : goal.invariant-loop-bind
invariant-loop-bind l = l.count + sum_by used (drop l.bind-index l.binds) ≡ sum_by used l.binds + used l.returned
