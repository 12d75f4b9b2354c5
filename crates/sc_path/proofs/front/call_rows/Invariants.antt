use Rattle.std.proofs.Common.{◌≡◌, ℕ, ◌<◌, length, Option}
use Rattle.sc_path.specs.Rows.{look, row_at}
use Rattle.sc_path.specs.Fronts.{row_after}
use Rattle.sc_path.proofs.front.call_rows.Given as goal

abbrev pub invariant-loop-j : goal.invariant-loop-j
invariant-loop-j l = record {
  len : length l.out.items ≡ l.j;
  rows : (j : ℕ) (s : Option ℕ) → j < l.j → look (row_at l.out.items j) s ≡ row_after l.rows l.wires l.table j s;
}
