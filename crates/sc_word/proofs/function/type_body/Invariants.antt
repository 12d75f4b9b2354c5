use Rattle.std.proofs.Common.{drop}
use Rattle.sc_word.specs.Operands.{GoesOn}
use Rattle.sc_word.proofs.function.type_body.Given as goal

abbrev pub invariant-loop-bind : goal.invariant-loop-bind
invariant-loop-bind l = GoesOn l.fn.words l.binds l.typed.items l.known (drop l.bind-index l.binds) l.result_word l.width
