use Rattle.std.proofs.Common.{◌≡◌, ℕ, ◌<◌, length, take, slice_index_or}
use Rattle.sc_check.specs.Places.{found_at}
use Rattle.sc_check.specs.declared.places.Stands.TheVariants.{Nowhere}
use Rattle.sc_check.proofs.places.places_of.Given as goal

abbrev pub invariant-loop-i : goal.invariant-loop-i
invariant-loop-i l = record {
  len : length l.places.items ≡ l.gates;
  found : (p : ℕ) → p < l.gates → slice_index_or l.places.items p Nowhere ≡ found_at (take l.i l.steps) p;
}
