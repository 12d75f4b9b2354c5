use Rattle.std.proofs.Common.{◌≡◌, ℕ, true, ◌<◌, length, slice_index}
use Rattle.sc_sched.specs.Rounds.{stands}
use Rattle.sc_sched.proofs.tray.Tray.clear.Given as goal

abbrev pub invariant-loop-kind : goal.invariant-loop-kind
invariant-loop-kind l = record {
  many : length l.self.used.items ≡ length l.fn.self.used.items;
  inside : (k : ℕ) → stands l.self.kinds.items k ≡ true → k < length l.self.used.items;
  listed : (k : ℕ) → k < length l.self.used.items → 0 < slice_index l.self.used.items k → stands l.self.kinds.items k ≡ true;
}

abbrev pub decreases-loop-kind : goal.decreases-loop-kind
decreases-loop-kind l = length l.self.kinds.items
