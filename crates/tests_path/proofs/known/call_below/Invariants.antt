use Rattle.std.proofs.Common.{◌<◌, take}
use Rattle.std.specs.List.{AllByRecursion}
use Rattle.sc_deck.specs.Items.{callees_of}
use Rattle.tests_path.proofs.known.call_below.Given as goal

abbrev pub invariant-loop-item : goal.invariant-loop-item
invariant-loop-item l = AllByRecursion (λ j. j < l.n) (callees_of (take l.item-index l.items))
