-- The stages of `coarse`: why they refuse, that there is one answer, and that there is one.
use Rattle.std.proofs.Common.{◌≡◌, ℕ, ◌≤◌, Bool, true, false, List, Ok, Err, refl, sym, ap, ◌∙◌, arith}
use Rattle.std.proofs.lemmas.Bool.{false≢true}
use Rattle.sc_coarse.proofs.OneCoarse.{only_coarse, some_coarse}
use Rattle.sc_coarse.proofs.WideAndLong.{one_wide}
use Rattle.sc_coarse.specs.CoarseDecks.{AreCoarse}
use Rattle.sc_coarse.specs.Refusals.{deck_too_large, IsFirstWide, NoneIsWide}
use Rattle.sc_coarse.specs.declared.make.CoarseFault.{CoarseFault}
use Rattle.sc_coarse.specs.declared.make.CoarseFault.TheVariants as coarsening
use Rattle.sc_deck.specs.Modules.{Module}
use Rattle.sc_sched.specs.PrioritySchedules.{IsRankOrder}
use Rattle.sc_sched.specs.declared.order.Rank.{Rank}
use Rattle.sc_top.specs.Coarsened.{HasFewItems, HasRoomForItems, IsCoarse, IsCoarsened, IsCoarsenable, coarsened, coarse_refusal}
use Rattle.sc_top.specs.Expansions.{ones}
use Rattle.sc_top.specs.Fault.{at_item}
use Rattle.sc_top.specs.Scheduled.{order_by}
use Rattle.sc_top.specs.Stages.{stops, goes, HasOne, Found, fault_of_refusal}
use Rattle.sc_top.specs.declared.coarsened.Coarsened.{Coarsened}
use Rattle.sc_top.specs.declared.fault.Reason.TheVariants as reason
use Rattle.sc_top.proofs.ExpansionLemmas.{one_counted}
use Rattle.sc_top.proofs.ModeLemmas.{yields_one, lawful}
use Rattle.sc_top.proofs.StageLemmas.{refused, then_one, is_one}

-- ---- why they refuse

pub not_so : (b : Bool) → (b ≡ true → ⊥) → b ≡ false
not_so true never = absurd (never refl)
not_so false never = refl

pub coarse_why : (comes : Rank → Rank → Bool) (k d : ℕ) (modules : List Module) (f : CoarseFault) → (f ≡ coarsening.SchedTooLarge → deck_too_large modules ≡ true) →
    ((i x : ℕ) → f ≡ coarsening.NarrowItem i x → (deck_too_large modules ≡ false) × IsFirstWide d modules i x) → Found (IsCoarse comes k d modules) (Err (fault_of_refusal (coarse_refusal f)))
coarse_why comes k d modules coarsening.SchedTooLarge large wide = record { value = tt; fault = stops _ (large refl, refl) }
coarse_why comes k d modules (coarsening.NarrowItem i x) large wide =
    let (fits, first) = wide i x refl in record { value = tt; fault = goes tt _ fits (stops _ (i, x, first, refl)) }
coarse_why comes k d modules coarsening.Memory large wide = record { value = tt; fault = tt }

-- ---- one answer

one_few_items : (modules : List Module) → HasOne (HasFewItems modules)
one_few_items modules (Ok a) (Ok b) few also = refl
one_few_items modules (Ok a) (Err s) few (many, was) = absurd (false≢true (sym few ∙ many))
one_few_items modules (Err r) (Ok b) (many, is) few = absurd (false≢true (sym few ∙ many))
one_few_items modules (Err r) (Err s) (many, is) (also, was) = ap (refused (Unit {0})) (is ∙ sym was)

not_wide : (d : ℕ) (modules : List Module) (i x : ℕ) → NoneIsWide d modules → IsFirstWide d modules i x → ⊥
not_wide d modules i x none first = let low = none i x in let high = first.wide in omega arith

one_room_for_items : (d : ℕ) (modules : List Module) → HasOne (HasRoomForItems d modules)
one_room_for_items d modules (Ok a) (Ok b) none also = refl
one_room_for_items d modules (Ok a) (Err s) none (i, x, first, was) = absurd (not_wide d modules i x none first)
one_room_for_items d modules (Err r) (Ok b) (i, x, first, is) none = absurd (not_wide d modules i x none first)
one_room_for_items d modules (Err r) (Err s) (i, x, first, is) (j, y, also, was) =
    let (instance, item) = one_wide d modules i x j y first also in
    ap (refused (Unit {0})) (is ∙ ((λ n. at_item reason.NarrowItem (instance n) (item n)) ∙ sym was))

one_coarse : (comes : Rank → Rank → Bool) (k d : ℕ) (modules : List Module) → IsRankOrder comes → HasOne (IsCoarse comes k d modules)
one_coarse comes k d modules order =
    then_one (one_few_items modules) (λ few fits. then_one (one_room_for_items d modules) (λ room none. yields_one (AreCoarse comes k d modules) (only_coarse comes k d order modules)))

pub one_coarsened : (k d : ℕ) (lpfs : Bool) (modules : List Module) → HasOne (IsCoarsened k d lpfs modules)
one_coarsened k d lpfs modules = then_one (one_counted ones modules) (λ counted within. then_one (one_coarse (order_by lpfs) k d modules (lawful lpfs)) (λ instances coarse. is_one _))

-- ---- an answer

-- a deck that is within every limit, and has no gate item of more than d qubits, has coarse schedules
pub has_coarse : (k d : ℕ) (lpfs : Bool) (modules : List Module) → 1 ≤ k → IsCoarsenable d modules → (c : Coarsened) × IsCoarsened k d lpfs modules (Ok c)
has_coarse k d lpfs modules some fits =
    let (instances, coarse) = some_coarse (order_by lpfs) k d (lawful lpfs) some modules fits.room in
    (coarsened modules instances, goes tt _ fits.counts (goes instances _ (goes tt _ fits.items (goes tt _ fits.room coarse)) refl))
