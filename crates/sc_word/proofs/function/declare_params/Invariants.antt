use Rattle.std.proofs.Common.{take, drop}
use Rattle.sc_word.specs.Operands.{Declaring}
use Rattle.sc_word.proofs.function.declare_params.Given as goal

abbrev pub invariant-loop-param : goal.invariant-loop-param
invariant-loop-param l = Declaring (take l.param-index l.params) (drop l.param-index l.params) l.params l.words l.widths.items
