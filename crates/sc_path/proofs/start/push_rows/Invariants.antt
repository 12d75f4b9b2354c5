use Rattle.std.proofs.Common.{◌≡◌, ℕ, ◌+◌, ◌<◌, length, Option}
use Rattle.sc_path.specs.Rows.{look, row_at}
use Rattle.sc_path.specs.Ends.{begin, start_in}
use Rattle.sc_path.proofs.start.push_rows.Given as goal

abbrev pub invariant-loop-wire : goal.invariant-loop-wire
invariant-loop-wire l = record {
  len : length l.rows.items ≡ length l.initial.rows.items + l.wire;
  before : (w : ℕ) → w < length l.initial.rows.items → row_at l.rows.items w ≡ row_at l.initial.rows.items w;
  made : (w : ℕ) (s : Option ℕ) → w < l.wire → look (row_at l.rows.items (length l.initial.rows.items + w)) s ≡ begin (start_in l.first l.params w) s;
}
