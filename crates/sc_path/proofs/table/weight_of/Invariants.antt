use Rattle.std.proofs.Common.{◌≡◌, take}
use Rattle.sc_path.specs.Rows.{look}
use Rattle.sc_path.proofs.table.weight_of.Given as goal

abbrev pub invariant-loop-entry : goal.invariant-loop-entry
invariant-loop-entry l = l.found ≡ look (take l.entry-index l.row) l.start
