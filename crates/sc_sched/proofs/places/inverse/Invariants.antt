use Rattle.std.proofs.Common.{◌≡◌, ℕ, ◌<◌, length}
use Rattle.std.specs.Prelude.{slice_index}
use Rattle.sc_sched.proofs.places.inverse.Given as goal

abbrev pub invariant-loop-i : goal.invariant-loop-i
invariant-loop-i l = record {
  many : length l.back.items ≡ length l.numbers;
  known : (j : ℕ) → j < l.i → slice_index l.back.items (slice_index l.numbers j) ≡ j;
}
