-- The stages from a deck to its schedule.
use Rattle.std.specs.Prelude.{◌≡◌, ℕ, Bool, true, false, List, Option, None, Some, Result, Ok, Err, length}
use Rattle.sc_deck.specs.Events.{gates_in}
use Rattle.sc_deck.specs.Modules.{Module}
use Rattle.sc_gate.specs.declared.gate.Gate.{Gate}
use Rattle.sc_sched.specs.Orders.{by_height, by_through}
use Rattle.sc_sched.specs.PrioritySchedules.{IsPrioritySchedule, NoneIsWider}
use Rattle.sc_sched.specs.Scheduling.{IsFirstWider}
use Rattle.sc_sched.specs.declared.order.Rank.{Rank}
use Rattle.sc_sched.specs.declared.plan.Plan.{Plan}
use Rattle.sc_sched.specs.declared.scheduling.SchedFault.{SchedFault}
use Rattle.sc_sched.specs.declared.scheduling.SchedFault.TheVariants as planning
use Rattle.sc_top.specs.Expansions.{whole}
use Rattle.sc_top.specs.Fault.{plain, at_gate}
use Rattle.sc_top.specs.Listed.{IsListed, IsListable}
use Rattle.sc_top.specs.Stages.{Then}
use Rattle.sc_top.specs.Tallied.{Yields}
use Rattle.sc_top.specs.declared.fault.Refusal.{Refusal}
use Rattle.sc_top.specs.declared.fault.Reason.TheVariants as reason

-- the order in which ready gates are taken: by the chains that start at them, or by those that hold them
abbrev pub order_by : Bool → Rank → Rank → Bool
order_by false = by_height
order_by true = by_through

-- no gate has more than d qubits; else the first that has
abbrev pub HasRoom : ℕ → List Gate → Result (Unit {0}) Refusal → Type 0
HasRoom d gates (Ok room) = NoneIsWider d gates
HasRoom d gates (Err refusal) = (x : ℕ) × IsFirstWider d gates x × (refusal ≡ at_gate reason.Narrow x)

-- the priority schedule of the gates on k regions of d qubits, by an order of their ranks
pub record IsPlanOf (k d : ℕ) (comes : Rank → Rank → Bool) (times : List ℕ) (gates : List Gate) (plan : Plan) : Type 0 where
  pub regions : plan.k ≡ k
  pub width : plan.d ≡ d
  pub gates_are : plan.gates ≡ length gates
  pub steps : IsPrioritySchedule comes times gates k d plan.steps

-- the schedule of gates
abbrev pub IsPlanned : ℕ → ℕ → (Rank → Rank → Bool) → List ℕ → List Gate → Result Plan Refusal → Type 0
IsPlanned k d comes times gates = Then (HasRoom d gates) (λ room. Yields (IsPlanOf k d comes times gates))

-- the schedule of a deck on k regions of d qubits
abbrev pub IsScheduled : ℕ → ℕ → Bool → List ℕ → List Module → Result Plan Refusal → Type 0
IsScheduled k d lpfs times modules = Then (IsListed times modules) (λ list. IsPlanned k d (order_by lpfs) times list.gates)

-- a deck whose list is within every limit, and no gate of which has more than d qubits
pub record IsSchedulable (d : ℕ) (times : List ℕ) (modules : List Module) : Type 0 where
  pub list : IsListable times modules
  pub room : NoneIsWider d (gates_in (whole modules))

-- gates that have no schedule for this reason
abbrev pub schedule_refusal : SchedFault → Option Refusal
schedule_refusal planning.SchedTooLarge = Some (plain reason.SchedTooLarge)
schedule_refusal (planning.Narrow position) = Some (at_gate reason.Narrow position)
schedule_refusal planning.Memory = None
