-- The stages from a deck to its list of gates.
use Rattle.std.specs.Prelude.{◌≡◌, ℕ, ◌<◌, ◌≤◌, List, Option, None, Some, Result, Ok, Err, length}
use Rattle.sc_base.specs.Limits.{most_gates}
use Rattle.sc_count.specs.Limits.{IsWithin}
use Rattle.sc_deck.specs.Events.{fresh_in, gates_in}
use Rattle.sc_deck.specs.Modules.{Module}
use Rattle.sc_flat.specs.Shown.{ManyWires}
use Rattle.sc_flat.specs.declared.preparing.PrepFault.{PrepFault}
use Rattle.sc_flat.specs.declared.preparing.PrepFault.TheVariants as sizing
use Rattle.sc_read.specs.declared.flat.FlatText.{FlatText}
use Rattle.sc_top.specs.Expansions.{whole, counts_by, IsCounted}
use Rattle.sc_top.specs.Fault.{plain}
use Rattle.sc_top.specs.Stages.{Then}
use Rattle.sc_top.specs.declared.fault.Refusal.{Refusal}
use Rattle.sc_top.specs.declared.fault.Reason.TheVariants as reason

-- the gates of main with all its calls written out, and the numbers of its qubits and classical bits
abbrev pub list_of : List Module → FlatText
list_of modules = record { qubits = (fresh_in (whole modules)).qubits; cbits = (fresh_in (whole modules)).cbits; gates = gates_in (whole modules) }

-- the qubits and the classical bits are not too many for a list
abbrev pub HasFewWires : List Module → Result (Unit {0}) Refusal → Type 0
HasFewWires modules (Ok few) = ¬ (ManyWires (fresh_in (whole modules)))
HasFewWires modules (Err refusal) = ManyWires (fresh_in (whole modules)) × (refusal ≡ plain reason.TooManyWires)

-- the list, where its gates are not too many to be scheduled
abbrev pub HasFewGates : List Module → Result FlatText Refusal → Type 0
HasFewGates modules (Ok list) = (length (gates_in (whole modules)) ≤ most_gates) × (list ≡ list_of modules)
HasFewGates modules (Err refusal) = (most_gates < length (gates_in (whole modules))) × (refusal ≡ plain reason.SchedTooLarge)

-- the list of a deck, by these durations of gates
abbrev pub IsListed : List ℕ → List Module → Result FlatText Refusal → Type 0
IsListed times modules = Then (IsCounted times modules) (λ counted. Then (HasFewWires modules) (λ few. HasFewGates modules))

-- a deck whose list is within every limit
pub record IsListable (times : List ℕ) (modules : List Module) : Type 0 where
  pub counts : IsWithin (counts_by times modules)
  pub wires : ¬ (ManyWires (fresh_in (whole modules)))
  pub gates : length (gates_in (whole modules)) ≤ most_gates

-- a deck that has no list for this reason
abbrev pub listing_refusal : PrepFault → Option Refusal
listing_refusal sizing.TooManyWires = Some (plain reason.TooManyWires)
listing_refusal sizing.TooManyGates = Some (plain reason.SchedTooLarge)
listing_refusal sizing.Memory = None
