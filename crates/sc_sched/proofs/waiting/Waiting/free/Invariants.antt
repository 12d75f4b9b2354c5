use Rattle.std.proofs.Common.{◌≡◌, ℕ, ◌<◌, ◌&&◌, ◌||◌, length, take}
use Rattle.std.specs.List.{list_any}
use Rattle.sc_sched.specs.Board.{layout_of, waits}
use Rattle.sc_sched.specs.Neighbours.{holds, neighbours_at}
use Rattle.sc_sched.specs.Waiting.{is_ready}
use Rattle.sc_sched.proofs.waiting.Waiting.free.Given as goal

abbrev pub invariant-loop-x : goal.invariant-loop-x
invariant-loop-x l = record {
  layout : layout_of l.board ≡ layout_of l.fn.board;
  waits : (z : ℕ) → z < length l.fn.board.kind.items → waits l.board z ≡ (waits l.fn.board z || (list_any (λ x. holds (neighbours_at l.self.next.items x) z) (take l.x-index l.step) && is_ready l.self z));
}
