-- The rank of a gate: the weights of the heaviest chains that start at it and that hold it, and its position.
use Rattle.std.specs.Prelude.{◌≡◌, ℕ, ◌+◌, ◌⊎◌, Some, List, map, take, Contains}
use Rattle.sc_gate.specs.declared.gate.Gate.{Gate}
use Rattle.sc_gate.specs.Chains.{Timed, timed, Linked, weight_at, weight_of, Greatest, start_time, after}
use Rattle.sc_gate.specs.Heights.{no_time}
use Rattle.sc_sched.specs.declared.order.Rank.{Rank}

-- the gates with their durations
abbrev pub timed_gates : List ℕ → List Gate → List Timed
timed_gates times gates = map (timed times) gates

-- a chain of this weight that starts at the gate
pub record StartsAt (gates : List Timed) (x n : ℕ) : Type 0 where
  pub rest : List ℕ
  pub linked : Linked gates x rest
  pub weighs : n ≡ weight_of gates x rest

-- a chain of this weight that holds the gate
pub record HoldsGate (gates : List Timed) (x n : ℕ) : Type 0 where
  pub first : ℕ
  pub rest : List ℕ
  pub linked : Linked gates first rest
  pub holds : (first ≡ x) ⊎ Contains rest x
  pub weighs : n ≡ weight_of gates first rest

pub record IsRank (gates : List Timed) (x : ℕ) (rank : Rank) : Type 0 where
  pub height : Greatest (StartsAt gates x) (Some rank.height)
  pub through : Greatest (HoldsGate gates x) (Some rank.through)
  pub position : rank.position ≡ x

-- the weight of the heaviest chain that ends at the gate: its duration after the greatest arrival time at its wires
abbrev pub end_at : List Timed → ℕ → ℕ
end_at gates x = weight_at gates x + start_time (after no_time (take x gates)) gates x
