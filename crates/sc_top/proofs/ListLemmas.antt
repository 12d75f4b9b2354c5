-- The list of a deck: why it is refused, that it is one, and that there is one.
use Rattle.std.proofs.Common.{◌≡◌, ℕ, ◌<◌, ◌≤◌, List, length, Ok, Err, refl, sym, ap, ◌∙◌, arith}
use Rattle.sc_base.specs.Limits.{most_gates}
use Rattle.sc_count.specs.Limits.{IsWithin}
use Rattle.sc_deck.specs.Events.{fresh_in, gates_in}
use Rattle.sc_deck.specs.Modules.{Module}
use Rattle.sc_flat.specs.Shown.{ManyWires}
use Rattle.sc_flat.specs.declared.preparing.PrepFault.{PrepFault}
use Rattle.sc_flat.specs.declared.preparing.PrepFault.TheVariants as sizing
use Rattle.sc_read.specs.declared.flat.FlatText.{FlatText}
use Rattle.sc_top.specs.Expansions.{whole, counts_by}
use Rattle.sc_top.specs.Listed.{list_of, HasFewWires, HasFewGates, IsListed, IsListable, listing_refusal}
use Rattle.sc_top.specs.Stages.{stops, goes, HasOne, Found, fault_of_refusal}
use Rattle.sc_top.proofs.ExpansionLemmas.{not_below, one_counted}
use Rattle.sc_top.proofs.StageLemmas.{refused, given, then_one}

-- ---- why it is refused

pub listing_why : (times : List ℕ) (modules : List Module) (f : PrepFault) → IsWithin (counts_by times modules) → (f ≡ sizing.TooManyWires → ManyWires (fresh_in (whole modules))) →
    (f ≡ sizing.TooManyGates → (¬ (ManyWires (fresh_in (whole modules)))) × (most_gates < length (gates_in (whole modules)))) → Found (IsListed times modules) (Err (fault_of_refusal (listing_refusal f)))
listing_why times modules sizing.TooManyWires within wires gates = record { value = tt; fault = goes tt _ within (stops _ (wires refl, refl)) }
listing_why times modules sizing.TooManyGates within wires gates = record { value = tt; fault = goes tt _ within (goes tt _ (gates refl).0 ((gates refl).1, refl)) }
listing_why times modules sizing.Memory within wires gates = record { value = tt; fault = tt }

-- few gates
pub few_enough : (modules : List Module) → (ManyWires (fresh_in (whole modules)) → ⊥) → (((¬ (ManyWires (fresh_in (whole modules)))) × (most_gates < length (gates_in (whole modules)))) → ⊥) →
    length (gates_in (whole modules)) ≤ most_gates
few_enough modules narrow few = not_below most_gates (length (gates_in (whole modules))) (λ past. few (narrow, past))

-- ---- one answer

one_few_wires : (modules : List Module) → HasOne (HasFewWires modules)
one_few_wires modules (Ok a) (Ok b) few also = refl
one_few_wires modules (Ok a) (Err s) few (many, was) = absurd (few many)
one_few_wires modules (Err r) (Ok b) (many, is) few = absurd (few many)
one_few_wires modules (Err r) (Err s) (many, is) (also, was) = ap (refused (Unit {0})) (is ∙ sym was)

one_few_gates : (modules : List Module) → HasOne (HasFewGates modules)
one_few_gates modules (Ok a) (Ok b) (few, is) (also, was) = ap (given FlatText) (is ∙ sym was)
one_few_gates modules (Ok a) (Err s) (few, is) (many, was) = absurd (omega arith)
one_few_gates modules (Err r) (Ok b) (many, is) (few, was) = absurd (omega arith)
one_few_gates modules (Err r) (Err s) (many, is) (also, was) = ap (refused FlatText) (is ∙ sym was)

pub one_listed : (times : List ℕ) (modules : List Module) → HasOne (IsListed times modules)
one_listed times modules = then_one (one_counted times modules) (λ counted within. then_one (one_few_wires modules) (λ few narrow. one_few_gates modules))

-- ---- an answer

-- a deck within every limit has its list
pub has_list : (times : List ℕ) (modules : List Module) → IsListable times modules → IsListed times modules (Ok (list_of modules))
has_list times modules fits = goes tt _ fits.counts (goes tt _ fits.wires (fits.gates, refl))
