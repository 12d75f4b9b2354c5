use Rattle.std.proofs.Common.{◌≡◌, length, map}
use Rattle.sc_syntax.specs.Rows.{row_of}
use Rattle.sc_syntax.proofs.reading.row_of.Given as goal

abbrev pub invariant-loop-table : goal.invariant-loop-table
invariant-loop-table l = row_of (map (λ row. (row.0.now, row.1)) l.table) l.text ≡ row_of (map (λ row. (row.0.now, row.1)) l.initial.table) l.text

abbrev pub decreases-loop-table : goal.decreases-loop-table
decreases-loop-table l = length l.table
