use Rattle.std.proofs.Common.{◌≡◌, ℕ, ◌<◌, length, All, Option}
use Rattle.std.specs.Prelude.{slice_index}
use Rattle.sc_path.specs.Rows.{look, row_at, HaveWeights}
use Rattle.sc_path.specs.Ends.{positive}
use Rattle.sc_path.proofs.start.kept_rows.Given as goal

abbrev pub invariant-loop-wire : goal.invariant-loop-wire
invariant-loop-wire l = record {
  len : length l.out ≡ l.wire-index;
  weights : All HaveWeights l.out;
  rows : (j : ℕ) (s : Option ℕ) → j < l.wire-index → look (row_at l.out j) s ≡ positive (look (row_at l.rows (slice_index l.wires j)) s);
}
