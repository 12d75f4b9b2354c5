use Rattle.std.proofs.Common.{◌≡◌, ℕ, ◌<◌, false, slice_index_or}
use Rattle.sc_check.specs.Places.{is_again}
use Rattle.sc_check.specs.declared.places.Stands.TheVariants.{Nowhere}
use Rattle.sc_check.proofs.places.first_twice.Given as goal

abbrev pub invariant-loop-x : goal.invariant-loop-x
invariant-loop-x l = (k : ℕ) → k < l.x → is_again (slice_index_or l.places k Nowhere) ≡ false
