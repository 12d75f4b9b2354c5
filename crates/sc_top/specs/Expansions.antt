-- The stages from a deck, and from a hierarchical text, to the deck that is written out.
use Rattle.std.specs.Prelude.{◌≡◌, ℕ, ◌-◌, ◌<◌, ◌≤◌, ◌⊎◌, List, Result, Ok, Err, length, replicate}
use Rattle.sc_count.specs.Counting.{counts_in}
use Rattle.sc_count.specs.Limits.{IsTooLarge, IsWithin}
use Rattle.sc_count.specs.declared.counts.Counts.{Counts}
use Rattle.sc_deck.specs.Events.{Event, fresh_in, gates_in}
use Rattle.sc_deck.specs.Modules.{Module}
use Rattle.sc_deck.specs.Unfolding.{expansion}
use Rattle.sc_flat.specs.Shown.{ManyWires}
use Rattle.sc_read.specs.HierReads.{IsHierText, IsHierFault}
use Rattle.sc_top.specs.Fault.{plain, hier_refusal}
use Rattle.sc_top.specs.Stages.{Then, Gives}
use Rattle.sc_top.specs.declared.fault.Refusal.{Refusal}
use Rattle.sc_top.specs.declared.fault.Reason.TheVariants as reason

-- the deck of a hierarchical text
abbrev pub IsDeckOf : List ℕ → Result (List Module) Refusal → Type 0
IsDeckOf text = Gives (IsHierText text) (IsHierFault text) hier_refusal

-- the events of main with all its calls written out
abbrev pub whole : List Module → List Event
whole modules = expansion modules (length modules - 1)

-- the durations of gates where a request names none: each takes 1
abbrev pub ones : List ℕ
ones = replicate 18 1

-- the counts of main with all its calls written out, by these durations
abbrev pub counts_by : List ℕ → List Module → Counts
counts_by times modules = counts_in times (whole modules)

-- the counts are within their limit
abbrev pub IsCounted : List ℕ → List Module → Result (Unit {0}) Refusal → Type 0
IsCounted times modules (Ok counted) = IsWithin (counts_by times modules)
IsCounted times modules (Err refusal) = IsTooLarge (counts_by times modules) × (refusal ≡ plain reason.CountTooLarge)

-- a deck whose flat text has too many wires, or else too many gates
abbrev pub IsOversized : ℕ → List Module → Refusal → Type 0
IsOversized limit modules refusal =
    (ManyWires (fresh_in (whole modules)) × (refusal ≡ plain reason.TooManyWires)) ⊎
    ((¬ (ManyWires (fresh_in (whole modules)))) × (limit < length (gates_in (whole modules))) × (refusal ≡ plain reason.TooManyGates))

-- the deck, where its flat text has not too many wires and at most so many gates
abbrev pub IsSized : ℕ → List Module → Result (List Module) Refusal → Type 0
IsSized limit modules (Ok deck) = (¬ (ManyWires (fresh_in (whole modules)))) × (length (gates_in (whole modules)) ≤ limit) × (deck ≡ modules)
IsSized limit modules (Err refusal) = IsOversized limit modules refusal

-- the deck, where its flat text is within every limit
abbrev pub IsWritable : ℕ → List Module → Result (List Module) Refusal → Type 0
IsWritable limit modules = Then (IsCounted ones modules) (λ counted. IsSized limit modules)

-- the deck of a text whose flat text is to be written, of at most so many gates
abbrev pub IsExpansion : ℕ → List ℕ → Result (List Module) Refusal → Type 0
IsExpansion limit text = Then (IsDeckOf text) (IsWritable limit)

-- a deck whose flat text is within every limit
pub record FitsFlat (limit : ℕ) (modules : List Module) : Type 0 where
  pub counts : IsWithin (counts_by ones modules)
  pub wires : ¬ (ManyWires (fresh_in (whole modules)))
  pub gates : length (gates_in (whole modules)) ≤ limit
