use Rattle.std.proofs.Common.{◌≡◌, ℕ, take, length, Option}
use Rattle.sc_path.specs.Rows.{look, row_at}
use Rattle.sc_path.specs.Fronts.{put_at}
use Rattle.sc_path.proofs.front.put_copies.Given as goal

abbrev pub invariant-loop-wire : goal.invariant-loop-wire
invariant-loop-wire l = record {
  len : length l.rows ≡ length l.initial.rows;
  put : (w : ℕ) (s : Option ℕ) → look (row_at l.rows w) s ≡ put_at l.initial.rows (take l.wire-index l.wires) l.row w s;
}
