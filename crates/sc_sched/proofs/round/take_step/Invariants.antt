use Rattle.std.proofs.Common.{◌≡◌, ℕ, true, ◌<◌, ◌≤◌, ◌-◌, ◌%◌, length, slice_index}
use Rattle.sc_sched.specs.Board.{layout_of, waits}
use Rattle.sc_sched.specs.Rounds.{shop_of, stands, Fill}
use Rattle.sc_sched.proofs.round.take_step.Given as goal

abbrev pub invariant-loop-at : goal.invariant-loop-at
invariant-loop-at l = record {
  layout : layout_of l.board ≡ layout_of l.fn.board;
  used : length l.tray.used.items ≡ length l.fn.tray.used.items;
  kinds : l.tray.kinds.items ≡ l.initial.tray.kinds.items;
  grows : (k : ℕ) → slice_index l.initial.tray.used.items k ≤ slice_index l.tray.used.items k;
  rest : (k : ℕ) → slice_index l.initial.tray.used.items k ≡ 0 → slice_index l.tray.used.items k ≡ 0;
  inside : ((z : ℕ) → stands l.fn.tray.step.items z ≡ true → z < length l.fn.board.kind.items) → (z : ℕ) → stands l.tray.step.items z ≡ true → z < length l.fn.board.kind.items;
  done : (i : ℕ) → i < l.at → (z : ℕ) → z < length l.fn.board.kind.items → slice_index l.fn.board.kind.items z ≡ slice_index l.initial.tray.kinds.items i → waits l.board z ≡ true → slice_index l.tray.used.items (slice_index l.initial.tray.kinds.items i) % slice_index l.fn.room (slice_index l.initial.tray.kinds.items i) ≡ 0;
  fill : Fill (shop_of (layout_of l.fn.board) l.fn.room l.fn.regions) (waits l.fn.board) (waits l.board) (stands l.initial.tray.step.items) (stands l.tray.step.items) l.tray.used.items;
}

abbrev pub decreases-loop-at : goal.decreases-loop-at
decreases-loop-at l = length l.initial.tray.kinds.items - l.at
