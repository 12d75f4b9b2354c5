use Rattle.std.proofs.Common.{◌≡◌, ℕ, Bool, ◌<◌, [], length, slice_index, not}
use Rattle.sc_sched.specs.Step.{count_below}
use Rattle.sc_sched.specs.Board.{layout_of, waits}
use Rattle.sc_sched.specs.Cutters.{IsIdle}
use Rattle.sc_sched.specs.Laid.{IsLaid}
use Rattle.sc_sched.specs.Legal.{placed}
use Rattle.sc_sched.specs.Neighbours.{AreLast, AreNext}
use Rattle.sc_sched.specs.PrioritySchedules.{NoneIsWider, shop_of_gates}
use Rattle.sc_sched.specs.Waiting.{is_placed}
use Rattle.sc_sched.proofs.Progress.{IsBegun, free_after}
use Rattle.sc_sched.proofs.placing.place_all.Given as goal

abbrev pub invariant-loop-steps : goal.invariant-loop-steps
invariant-loop-steps l = record {
  layout : layout_of l.board ≡ layout_of l.fn.laid.board;
  waits : (z : ℕ) → z < length l.gates → waits l.board z ≡ free_after l.gates l.steps z;
  last : AreLast l.gates l.waiting.last.items;
  next : AreNext l.gates l.waiting.next.items;
  many : length l.waiting.placed.items ≡ length l.gates;
  placed : (z : ℕ) → z < length l.gates → is_placed l.waiting z ≡ placed l.steps z;
  step : l.tray.step.items ≡ [];
  kinds : l.tray.kinds.items ≡ [];
  rooms : length l.tray.used.items ≡ length l.fn.laid.room.items;
  used : (k : ℕ) → k < length l.tray.used.items → slice_index l.tray.used.items k ≡ 0;
  idle : IsIdle (length l.fn.laid.room.items) l.cutter;
  begun : (d : ℕ) (before : ℕ → ℕ → Bool) → IsLaid l.gates d before (layout_of l.fn.laid.board) l.fn.laid.room.items → NoneIsWider d l.gates → IsBegun (shop_of_gates l.gates l.k d before) l.steps;
}

abbrev pub decreases-loop-steps : goal.decreases-loop-steps
decreases-loop-steps l = count_below (λ x. not (placed l.steps x)) (length l.gates)
