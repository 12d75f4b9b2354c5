use Rattle.std.proofs.Common.{◌≡◌, ℕ, ◌||◌, length, take}
use Rattle.sc_sched.specs.Rounds.{stands}
use Rattle.sc_sched.specs.Waiting.{is_placed}
use Rattle.sc_sched.proofs.waiting.Waiting.place.Given as goal

abbrev pub invariant-loop-x : goal.invariant-loop-x
invariant-loop-x l = record {
  last : l.self.last.items ≡ l.fn.self.last.items;
  next : l.self.next.items ≡ l.fn.self.next.items;
  many : length l.self.placed.items ≡ length l.fn.self.placed.items;
  placed : (z : ℕ) → is_placed l.self z ≡ (is_placed l.fn.self z || stands (take l.x-index l.step) z);
}
