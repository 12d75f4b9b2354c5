use Rattle.std.proofs.Common.{◌≡◌, ℕ, ◌<◌, length, take, slice_index_or}
use Rattle.sc_sched.specs.Legal.{times_in}
use Rattle.sc_check.specs.Places.{marked_times}
use Rattle.sc_check.specs.declared.places.Stands.TheVariants.{Nowhere}
use Rattle.sc_check.proofs.places.mark_step.Given as goal

abbrev pub invariant-loop-region : goal.invariant-loop-region
invariant-loop-region l = (p : ℕ) → p < length l.fn.places →
    slice_index_or l.places p Nowhere ≡ marked_times (slice_index_or l.fn.places p Nowhere) l.step (times_in p (take l.region-index l.regions))
