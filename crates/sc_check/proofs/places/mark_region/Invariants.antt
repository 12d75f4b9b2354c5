use Rattle.std.proofs.Common.{◌≡◌, ℕ, ◌<◌, ◌==◌, length, take, slice_index_or}
use Rattle.std.specs.List.{count_by}
use Rattle.sc_check.specs.Places.{marked_times}
use Rattle.sc_check.specs.declared.places.Stands.TheVariants.{Nowhere}
use Rattle.sc_check.proofs.places.mark_region.Given as goal

abbrev pub invariant-loop-x : goal.invariant-loop-x
invariant-loop-x l = (p : ℕ) → p < length l.fn.places →
    slice_index_or l.places p Nowhere ≡ marked_times (slice_index_or l.fn.places p Nowhere) l.step (count_by (λ y. y == p) (take l.x-index l.region))
