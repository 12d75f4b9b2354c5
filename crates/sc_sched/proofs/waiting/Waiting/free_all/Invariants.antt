use Rattle.std.proofs.Common.{◌≡◌, ℕ, ◌<◌, ◌&&◌, ◌||◌, length}
use Rattle.std.specs.Prelude.{nat_lt}
use Rattle.sc_sched.specs.Board.{layout_of, waits}
use Rattle.sc_sched.specs.Waiting.{is_ready}
use Rattle.sc_sched.proofs.waiting.Waiting.free_all.Given as goal

abbrev pub invariant-loop-x : goal.invariant-loop-x
invariant-loop-x l = record {
  layout : layout_of l.board ≡ layout_of l.fn.board;
  waits : (z : ℕ) → z < length l.fn.board.kind.items → waits l.board z ≡ (waits l.fn.board z || (nat_lt z l.x && is_ready l.self z));
}
