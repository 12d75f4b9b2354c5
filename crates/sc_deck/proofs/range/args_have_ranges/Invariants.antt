use Rattle.std.proofs.Common.{All, take}
use Rattle.sc_deck.specs.Keys.{ArgInRange}
use Rattle.sc_deck.proofs.range.args_have_ranges.Given as goal

abbrev pub invariant-loop-arg : goal.invariant-loop-arg
invariant-loop-arg l = All ArgInRange (take l.arg-index l.args)
