use Rattle.std.proofs.Common.{◌≡◌, ℕ, true, ◌<◌, length}
use Rattle.sc_sched.specs.Board.{layout_of, waits}
use Rattle.sc_sched.specs.Step.{count_below}
use Rattle.sc_sched.specs.Rounds.{shop_of, stands, Free, Opened}
use Rattle.sc_sched.proofs.round.take_free.Given as goal

abbrev pub invariant-loop-free : goal.invariant-loop-free
invariant-loop-free l = record {
  layout : layout_of l.board ≡ layout_of l.fn.board;
  used : length l.tray.used.items ≡ length l.fn.tray.used.items;
  opened : Opened l.tray.kinds.items l.tray.used.items;
  inside : ((z : ℕ) → stands l.fn.tray.step.items z ≡ true → z < length l.fn.board.kind.items) → (z : ℕ) → stands l.tray.step.items z ≡ true → z < length l.fn.board.kind.items;
  taken : Free (shop_of (layout_of l.fn.board) l.fn.room l.fn.regions) (waits l.fn.board) (waits l.board) (stands l.tray.step.items) l.tray.used.items l.free;
}

abbrev pub decreases-loop-free : goal.decreases-loop-free
decreases-loop-free l = count_below (waits l.board) (length l.fn.board.kind.items)
