use Rattle.std.proofs.Common.{◌≡◌, ◌≢◌, ℕ, Bool, true, ◌<◌, ◌≤◌, length, slice_index}
use Rattle.sc_sched.specs.Board.{layout_of, waits}
use Rattle.sc_sched.specs.Step.{count_below}
use Rattle.sc_sched.specs.Rounds.{shop_of, stands, Fill}
use Rattle.sc_sched.proofs.round.fill_kind.Given as goal

abbrev pub invariant-loop-board : goal.invariant-loop-board
invariant-loop-board l = record {
  layout : layout_of l.board ≡ layout_of l.fn.board;
  used : length l.tray.used.items ≡ length l.fn.tray.used.items;
  others : (k : ℕ) → k ≢ l.kind → slice_index l.tray.used.items k ≡ slice_index l.fn.tray.used.items k;
  more : slice_index l.fn.tray.used.items l.kind ≤ slice_index l.tray.used.items l.kind;
  kinds : 0 < slice_index l.fn.tray.used.items l.kind → l.tray.kinds.items ≡ l.fn.tray.kinds.items;
  inside : ((z : ℕ) → stands l.fn.tray.step.items z ≡ true → z < length l.fn.board.kind.items) → (z : ℕ) → stands l.tray.step.items z ≡ true → z < length l.fn.board.kind.items;
  fewer : (z : ℕ) → z < length l.fn.board.kind.items → waits l.board z ≡ true → waits l.fn.board z ≡ true;
  fill : (regions : ℕ) (ready taken : ℕ → Bool) → Fill (shop_of (layout_of l.fn.board) l.fn.room regions) ready (waits l.fn.board) taken (stands l.fn.tray.step.items) l.fn.tray.used.items → Fill (shop_of (layout_of l.fn.board) l.fn.room regions) ready (waits l.board) taken (stands l.tray.step.items) l.tray.used.items;
}

abbrev pub decreases-loop-board : goal.decreases-loop-board
decreases-loop-board l = count_below (waits l.board) (length l.fn.board.kind.items)
