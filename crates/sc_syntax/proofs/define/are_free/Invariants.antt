use Rattle.std.proofs.Common.{take, All}
use Rattle.sc_syntax.specs.Cuts.{names_of}
use Rattle.sc_syntax.specs.Directives.{IsFree}
use Rattle.sc_syntax.proofs.define.are_free.Given as goal

abbrev pub invariant-loop-token : goal.invariant-loop-token
invariant-loop-token l = All (IsFree l.source (names_of l.names) l.own) (take l.token-index l.value)
