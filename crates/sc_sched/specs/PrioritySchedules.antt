-- The priority schedule of a gate list on k regions of d qubits, by an order of ranks.
use Rattle.std.specs.Prelude.{◌≡◌, ℕ, ◌/◌, ◌<◌, ◌≤◌, ◌==◌, Bool, true, false, List, map, length, slice_index, slice_index_or, position, unwrap_or}
use Rattle.sc_gate.specs.declared.gate.Gate.{Gate}
use Rattle.sc_sched.specs.declared.order.Rank.{Rank}
use Rattle.sc_gate.specs.SameGates.{same_kind}
use Rattle.sc_sched.specs.Gates.{arity_of, arity_at, kind_of, shares}
use Rattle.sc_sched.specs.Legal.{Step, IsLegal}
use Rattle.sc_sched.specs.Ranks.{timed_gates, IsRank}
use Rattle.sc_sched.specs.Step.{Shop}
use Rattle.sc_sched.specs.Schedule.{positions, IsPriority}

-- a kind is named by the first position at which a gate of it stands
abbrev pub first_like : List Gate → Gate → ℕ
first_like gates gate = unwrap_or (position (λ other. same_kind (kind_of gate) (kind_of other)) gates) 0

abbrev pub kind_names : List Gate → List ℕ
kind_names gates = map (first_like gates) gates

-- how many gates like it one region takes
abbrev pub room_for : ℕ → Gate → ℕ
room_for d gate = d / arity_of gate

abbrev pub rooms : ℕ → List Gate → List ℕ
rooms d gates = map (room_for d) gates

-- the rules of a step, of these gates in this order
abbrev pub shop_of_gates : List Gate → ℕ → ℕ → (ℕ → ℕ → Bool) → Shop ℕ
shop_of_gates gates k d before = record {
  gates = length gates;
  kinds = positions (length gates);
  kind_of = slice_index (kind_names gates);
  is = λ kind x. slice_index (kind_names gates) x == kind;
  room = λ kind. slice_index_or (rooms d gates) kind 1;
  regions = k;
  before = before;
  shares = shares gates;
}

-- A legal schedule with no empty step in which each ready gate that is not placed earlier stands in a step exactly where it
-- fits beside those gates of the step that are before it in the order. The steps are cut into regions kind by kind.
pub record IsPrioritySchedule (comes : Rank → Rank → Bool) (times : List ℕ) (gates : List Gate) (k d : ℕ) (steps : List Step) : Type 0 where
  pub rank : ℕ → Rank
  pub ranked : (x : ℕ) → x < length gates → IsRank (timed_gates times gates) x (rank x)
  pub legal : IsLegal gates k d steps
  pub taken : IsPriority (shop_of_gates gates k d (λ x y. comes (rank x) (rank y))) steps

-- no gate has more than d qubits
abbrev pub NoneIsWider : ℕ → List Gate → Type 0
NoneIsWider d gates = (x : ℕ) → x < length gates → arity_at gates x ≤ d

-- the laws of an order of ranks
pub record IsRankOrder (comes : Rank → Rank → Bool) : Type 0 where
  pub irreflexive : (a : Rank) → comes a a ≡ false
  pub transitive : (a b c : Rank) → comes a b ≡ true → comes b c ≡ true → comes a c ≡ true
  pub total : (a b : Rank) → comes a b ≡ false → comes b a ≡ false → a.position ≡ b.position
