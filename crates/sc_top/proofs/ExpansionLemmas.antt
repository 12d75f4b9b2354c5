-- The stages from a deck to the one that is written out: why they refuse, and that counts have one answer.
use Rattle.std.proofs.Common.{◌≡◌, ℕ, ◌<◌, ◌≤◌, List, length, Ok, Err, refl, sym, ap, ◌∙◌, inl, inr, arith}
use Rattle.std.proofs.lemmas.Bool.{cases_lt}
use Rattle.sc_count.specs.Limits.{IsTooLarge, IsWithin}
use Rattle.sc_count.specs.declared.counts.Counts.{Counts}
use Rattle.sc_count.specs.declared.tally.TallyFault.{TallyFault}
use Rattle.sc_count.specs.declared.tally.TallyFault.TheVariants as counting
use Rattle.sc_deck.specs.Events.{fresh_in, gates_in}
use Rattle.sc_deck.specs.Modules.{Module}
use Rattle.sc_flat.specs.Shown.{ManyWires}
use Rattle.sc_flat.specs.declared.preparing.PrepFault.{PrepFault}
use Rattle.sc_flat.specs.declared.preparing.PrepFault.TheVariants as sizing
use Rattle.sc_top.specs.Expansions.{whole, ones, counts_by, IsCounted, IsSized}
use Rattle.sc_top.specs.Fault.{count_refusal, size_refusal}
use Rattle.sc_top.specs.Stages.{Then, goes, HasOne, Why, Found, fault_of_refusal}
use Rattle.sc_top.proofs.StageLemmas.{refused}

-- ---- counts

-- the counts are too large
pub counted_why : (times : List ℕ) (modules : List Module) (f : TallyFault) → (f ≡ counting.CountTooLarge → IsTooLarge (counts_by times modules)) →
    Why ⊥ ⊥ ⊥ (Unit {0}) (λ r. IsCounted times modules (Err r)) (fault_of_refusal (count_refusal f))
counted_why times modules counting.CountTooLarge large = (large refl, refl)
counted_why times modules counting.Memory large = tt

not_large : (c : Counts) → IsWithin c → IsTooLarge c → ⊥
not_large c within (inl past) = let le = within.gates in omega arith
not_large c within (inr (inl past)) = let le = within.weight in omega arith
not_large c within (inr (inr (inl past))) = let le = within.qubits in omega arith
not_large c within (inr (inr (inr past))) = let le = within.cbits in omega arith

pub one_counted : (times : List ℕ) (modules : List Module) → HasOne (IsCounted times modules)
one_counted times modules (Ok a) (Ok b) within also = refl
one_counted times modules (Ok a) (Err s) within (large, was) = absurd (not_large (counts_by times modules) within large)
one_counted times modules (Err r) (Ok b) (large, is) within = absurd (not_large (counts_by times modules) within large)
one_counted times modules (Err r) (Err s) (large, is) (also, was) = ap (refused (Unit {0})) (is ∙ sym was)

-- ---- sizes

-- too many wires or too many gates
pub size_why : (limit : ℕ) (modules : List Module) (fault : PrepFault) → IsWithin (counts_by ones modules) → (fault ≡ sizing.TooManyWires → ManyWires (fresh_in (whole modules))) →
    (fault ≡ sizing.TooManyGates → (¬ (ManyWires (fresh_in (whole modules)))) × (limit < length (gates_in (whole modules)))) →
    Found (Then (IsCounted ones modules) (λ counted. IsSized limit modules)) (Err (fault_of_refusal (size_refusal fault)))
size_why limit modules sizing.TooManyWires within wires gates = record { value = tt; fault = goes tt _ within (inl (wires refl, refl)) }
size_why limit modules sizing.TooManyGates within wires gates = record { value = tt; fault = goes tt _ within (inr ((gates refl).0, (gates refl).1, refl)) }
size_why limit modules sizing.Memory within wires gates = record { value = tt; fault = tt }

pub not_below : (limit n : ℕ) → (limit < n → ⊥) → n ≤ limit
not_below limit n none = elim (cases_lt limit n) [
  | inl past ↦ absurd (none past)
  | inr within ↦ within
]

-- neither of them
pub sized_fits : (limit : ℕ) (modules : List Module) → IsWithin (counts_by ones modules) → (ManyWires (fresh_in (whole modules)) → ⊥) →
    (((¬ (ManyWires (fresh_in (whole modules)))) × (limit < length (gates_in (whole modules)))) → ⊥) → Found (Then (IsCounted ones modules) (λ counted. IsSized limit modules)) (Ok modules)
sized_fits limit modules within narrow few =
    record { value = goes tt (Ok modules) within (narrow, not_below limit (length (gates_in (whole modules))) (λ past. few (narrow, past)), refl); fault = tt }
