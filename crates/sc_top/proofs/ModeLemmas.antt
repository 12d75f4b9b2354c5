-- The stages of `count` and of `schedule`: why they refuse, that each has one answer, and that it has one.
use Rattle.std.proofs.Common.{◌≡◌, ℕ, ◌<◌, ◌≤◌, Bool, true, false, List, length, map, Ok, Err, Result, refl, sym, ap, ◌∙◌, inl, inr, arith}
use Rattle.std.proofs.lemmas.Bool.{cases_lt}
use Rattle.sc_base.specs.Limits.{most_gates}
use Rattle.sc_count.specs.Limits.{IsWithin}
use Rattle.sc_deck.specs.Events.{gates_in}
use Rattle.sc_deck.specs.Modules.{Module}
use Rattle.sc_gate.proofs.ChainLaws.{critical_chain}
use Rattle.sc_gate.specs.declared.gate.Gate.{Gate}
use Rattle.sc_gate.specs.Chains.{Timed, timed, IsCritical, critical_of}
use Rattle.sc_sched.proofs.OneSchedule.{only_schedule}
use Rattle.sc_sched.proofs.SomeRank.{schedule_exists}
use Rattle.sc_sched.proofs.StepLaws.{some_wider}
use Rattle.sc_sched.specs.Laws.{greater_irreflexive, greater_transitive, greater_total}
use Rattle.sc_sched.specs.PrioritySchedules.{NoneIsWider, IsRankOrder}
use Rattle.sc_sched.specs.Scheduling.{IsFirstWider}
use Rattle.sc_sched.specs.declared.order.Rank.{Rank}
use Rattle.sc_sched.specs.declared.plan.Plan.{Plan}
use Rattle.sc_sched.specs.declared.scheduling.SchedFault.{SchedFault}
use Rattle.sc_sched.specs.declared.scheduling.SchedFault.TheVariants as planning
use Rattle.sc_top.specs.Expansions.{whole, counts_by}
use Rattle.sc_top.specs.Fault.{at_gate}
use Rattle.sc_top.specs.Listed.{list_of}
use Rattle.sc_top.specs.Reports.{IsSummaryOf}
use Rattle.sc_top.specs.Scheduled.{order_by, HasRoom, IsPlanOf, IsPlanned, IsScheduled, IsSchedulable, schedule_refusal}
use Rattle.sc_top.specs.Stages.{stops, goes, HasOne, Found, fault_of_refusal}
use Rattle.sc_top.specs.Tallied.{Yields, IsSummarized}
use Rattle.sc_top.specs.declared.fault.Fault.{Fault}
use Rattle.sc_top.specs.declared.fault.Fault.TheVariants as fault
use Rattle.sc_top.specs.declared.fault.Refusal.{Refusal}
use Rattle.sc_top.specs.declared.fault.Reason.TheVariants as reason
use Rattle.sc_top.specs.declared.report.Summary.{Summary}
use Rattle.sc_top.proofs.ExpansionLemmas.{one_counted}
use Rattle.sc_top.proofs.ListLemmas.{one_listed, has_list}
use Rattle.sc_top.proofs.StageLemmas.{refused, given, then_one}

-- ---- why they refuse

pub found_memory : {A : Type 0} (Stage : Result A Refusal → Type 0) (f : Fault) → f ≡ fault.Memory → Found Stage (Err f)
found_memory Stage f is = rw is (record { value = tt; fault = tt })

pub schedule_why : (k d : ℕ) (comes : Rank → Rank → Bool) (times : List ℕ) (gates : List Gate) (f : SchedFault) → length gates ≤ most_gates → (f ≡ planning.SchedTooLarge → most_gates < length gates) →
    ((x : ℕ) → f ≡ planning.Narrow x → IsFirstWider d gates x) → Found (IsPlanned k d comes times gates) (Err (fault_of_refusal (schedule_refusal f)))
schedule_why k d comes times gates planning.SchedTooLarge few large wider = absurd (let past = large refl in omega arith)
schedule_why k d comes times gates (planning.Narrow x) few large wider = record { value = tt; fault = stops _ (x, wider x refl, refl) }
schedule_why k d comes times gates planning.Memory few large wider = record { value = tt; fault = tt }

-- no gate is wider where there is no first one
pub room_enough : (d : ℕ) (gates : List Gate) → ((x : ℕ) → IsFirstWider d gates x → ⊥) → NoneIsWider d gates
room_enough d gates none = elim (some_wider d gates (length gates) (omega arith)) [
  | inl some ↦ absurd (none some.0 some.1)
  | inr all ↦ all
]

-- ---- one answer

pub yields_one : {A : Type 0} (Value : A → Type 0) → ((a b : A) → Value a → Value b → a ≡ b) → HasOne (Yields Value)
yields_one {A = A} Value one (Ok a) (Ok b) x y = ap (given A) (one a b x y)
yields_one Value one (Ok a) (Err s) x y = absurd y
yields_one Value one (Err r) b x y = absurd x

one_critical : (gates : List Timed) (m n : ℕ) → IsCritical gates m → IsCritical gates n → m ≡ n
one_critical gates m n x y =
    let up : m ≤ n = y.bounds m x.reached in
    let down : n ≤ m = x.bounds n y.reached in
    omega arith

pub one_summary : (times : List ℕ) (modules : List Module) (s t : Summary) → IsSummaryOf times modules s → IsSummaryOf times modules t → s ≡ t
one_summary times modules s t a b =
    let critical : s.critical ≡ t.critical = one_critical (map (timed times) (gates_in (whole modules))) s.critical t.critical a.critical b.critical in
    λ k. record { instances = (a.instances ∙ sym b.instances) k; counts = (a.counts ∙ sym b.counts) k; critical = critical k }

pub one_summarized : (times : List ℕ) (modules : List Module) → HasOne (IsSummarized times modules)
one_summarized times modules = then_one (one_counted times modules) (λ counted within. yields_one (IsSummaryOf times modules) (one_summary times modules))

first_before : (d : ℕ) (gates : List Gate) (x y : ℕ) → IsFirstWider d gates x → IsFirstWider d gates y → x < y → ⊥
first_before d gates x y a b before = let low = b.first x before in let high = a.wider in omega arith

one_first : (d : ℕ) (gates : List Gate) (x y : ℕ) → IsFirstWider d gates x → IsFirstWider d gates y → x ≡ y
one_first d gates x y a b = elim (cases_lt x y) [
  | inl before ↦ absurd (first_before d gates x y a b before)
  | inr le ↦ elim (cases_lt y x) [
    | inl behind ↦ absurd (first_before d gates y x b a behind)
    | inr ge ↦ omega arith
  ]
]

not_wider : (d : ℕ) (gates : List Gate) (x : ℕ) → NoneIsWider d gates → IsFirstWider d gates x → ⊥
not_wider d gates x none first = let low = none x first.inside in let high = first.wider in omega arith

one_room : (d : ℕ) (gates : List Gate) → HasOne (HasRoom d gates)
one_room d gates (Ok a) (Ok b) none also = refl
one_room d gates (Ok a) (Err s) none (x, first, was) = absurd (not_wider d gates x none first)
one_room d gates (Err r) (Ok b) (x, first, is) none = absurd (not_wider d gates x none first)
one_room d gates (Err r) (Err s) (x, first, is) (y, also, was) = ap (refused (Unit {0})) (is ∙ ap (λ (n : ℕ). at_gate reason.Narrow n) (one_first d gates x y first also) ∙ sym was)

-- both orders are lawful
pub lawful : (lpfs : Bool) → IsRankOrder (order_by lpfs)
lawful false = record {
  irreflexive = λ a. greater_irreflexive a.height a.position;
  transitive = λ a b c h k. greater_transitive a.height a.position b.height b.position c.height c.position h k;
  total = λ a b h k. greater_total a.height a.position b.height b.position h k;
}
lawful true = record {
  irreflexive = λ a. greater_irreflexive a.through a.position;
  transitive = λ a b c h k. greater_transitive a.through a.position b.through b.position c.through c.position h k;
  total = λ a b h k. greater_total a.through a.position b.through b.position h k;
}

pub one_plan_of : (k d : ℕ) (comes : Rank → Rank → Bool) (times : List ℕ) (gates : List Gate) → IsRankOrder comes → (a b : Plan) → IsPlanOf k d comes times gates a → IsPlanOf k d comes times gates b → a ≡ b
one_plan_of k d comes times gates order a b x y =
    let steps = only_schedule comes times gates k d a.steps b.steps order x.steps y.steps in
    λ i. record { k = (x.regions ∙ sym y.regions) i; d = (x.width ∙ sym y.width) i; gates = (x.gates_are ∙ sym y.gates_are) i; steps = steps i }

pub one_planned : (k d : ℕ) (comes : Rank → Rank → Bool) (times : List ℕ) (gates : List Gate) → IsRankOrder comes → HasOne (IsPlanned k d comes times gates)
one_planned k d comes times gates order = then_one (one_room d gates) (λ room none. yields_one (IsPlanOf k d comes times gates) (one_plan_of k d comes times gates order))

pub one_scheduled : (k d : ℕ) (lpfs : Bool) (times : List ℕ) (modules : List Module) → HasOne (IsScheduled k d lpfs times modules)
one_scheduled k d lpfs times modules = then_one (one_listed times modules) (λ list listed. one_planned k d (order_by lpfs) times list.gates (lawful lpfs))

-- ---- an answer

-- a deck whose counts are within their limit has a report
pub has_summary : (times : List ℕ) (modules : List Module) → IsWithin (counts_by times modules) → (s : Summary) × IsSummarized times modules (Ok s)
has_summary times modules within =
    let gates : List Timed = map (timed times) (gates_in (whole modules)) in
    (record { instances = length modules; counts = counts_by times modules; critical = critical_of gates }, goes tt _ within (record { instances = refl; counts = refl; critical = critical_chain gates }))

-- and one that is within every limit, and has no gate of more than d qubits, has a schedule
pub has_plan : (k d : ℕ) (lpfs : Bool) (times : List ℕ) (modules : List Module) → 1 ≤ k → IsSchedulable d times modules → (plan : Plan) × IsScheduled k d lpfs times modules (Ok plan)
has_plan k d lpfs times modules some fits =
    let gates : List Gate = gates_in (whole modules) in
    let steps = schedule_exists (order_by lpfs) times (gates_in (whole modules)) k d (lawful lpfs) some fits.room in (
      record { k = k; d = d; gates = length gates; steps = steps.0 },
      goes (list_of modules) _ (has_list times modules fits.list) (goes tt _ fits.room (record { regions = refl; width = refl; gates_are = refl; steps = steps.1 })),
    )
