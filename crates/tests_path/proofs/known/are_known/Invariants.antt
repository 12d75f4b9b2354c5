use Rattle.std.proofs.Common.{take}
use Rattle.sc_path.specs.Tables.{CallsKnown}
use Rattle.tests_path.proofs.known.are_known.Given as goal

abbrev pub invariant-loop-item : goal.invariant-loop-item
invariant-loop-item l = CallsKnown l.tables (take l.item-index l.items)
