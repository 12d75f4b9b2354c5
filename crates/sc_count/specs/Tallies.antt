-- What a tally stands for.
use Rattle.std.specs.Prelude.{◌≡◌, ℕ, ◌<◌, List, [], ◌∷◌, ◌++◌, length, slice_get, Some}
use Rattle.sc_deck.specs.declared.key.Key.{Key}
use Rattle.sc_deck.specs.Bodies.{Contents}
use Rattle.sc_deck.specs.Modules.{Module}
use Rattle.sc_deck.specs.Unfolding.{expansion}
use Rattle.sc_count.specs.declared.counts.Counts.{Counts}
use Rattle.sc_count.specs.declared.tally.Tally.{Tally}
use Rattle.sc_count.specs.Callees.{counts_over_items}
use Rattle.sc_count.specs.Counting.{counts_in}

-- A tally stands for modules where it has, for each of them in order, the counts of its expansion by the tally's durations.
pub record StandsFor (tally : Tally) (modules : List Module) : Type 0 where
  pub len : length tally.counts ≡ length modules
  pub each : (i : ℕ) → i < length modules → slice_get tally.counts i ≡ Some (counts_in tally.times (expansion modules i))

-- the counts of a body from those of its callees in the tally
abbrev pub new_counts : Tally → Contents → Counts
new_counts tally body = counts_over_items tally.times tally.counts body.items

abbrev pub with_counts : Tally → Counts → Tally
with_counts tally c = record tally { counts = tally.counts ++ c ∷ [] }

-- the modules with one more body under its key
abbrev pub with_body : List Module → Key → Contents → List Module
with_body modules key body = modules ++ record { key = key; items = body.items } ∷ []
