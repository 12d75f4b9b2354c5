-- The heaviest chains that start with a gate, and those that hold it.
use Rattle.std.specs.Prelude.{◌≡◌, ℕ, zero, suc, ◌+◌, true, ◌⊎◌, List, [], ◌∷◌, map, take, Some, None}
use Rattle.sc_gate.specs.declared.gate.Wire.{Wire}
use Rattle.sc_gate.specs.Chains.{Timed, meets_at, wires_at, weight_of, Linked, Greatest, best, or_zero, largest, after}

-- a chain of this weight that starts with the gate at a position
pub record ChainFrom (gates : List Timed) (p n : ℕ) : Type 0 where
  pub rest : List ℕ
  pub linked : Linked gates p rest
  pub here : meets_at gates p None ≡ true
  pub weighs : n ≡ weight_of gates p rest

-- the position is one of these
abbrev pub StandsIn : ℕ → List ℕ → Type 0
StandsIn p [] = ⊥
StandsIn p (q ∷ rest) = (q ≡ p) ⊎ StandsIn p rest

-- a chain of this weight that holds the gate at a position
pub record ChainThrough (gates : List Timed) (p n : ℕ) : Type 0 where
  pub first : ℕ
  pub rest : List ℕ
  pub linked : Linked gates first rest
  pub here : meets_at gates first None ≡ true
  pub holds : StandsIn p (first ∷ rest)
  pub weighs : n ≡ weight_of gates first rest

-- the weight of the heaviest chain that starts with the gate, or that holds it
abbrev pub IsHeight : List Timed → ℕ → ℕ → Type 0
IsHeight gates p n = Greatest (ChainFrom gates p) (Some n)

abbrev pub IsThrough : List Timed → ℕ → ℕ → Type 0
IsThrough gates p n = Greatest (ChainThrough gates p) (Some n)

-- the greatest weight of a chain that starts at the wire; 0 where there is none
abbrev pub tail_of : List Timed → Wire → ℕ
tail_of gates w = or_zero (best gates (Some w) None)

-- the height of the gate at a position: its duration and the greatest tail of its wires in the gates after it
abbrev pub height_at : List Timed → ℕ → ℕ
height_at [] p = 0
height_at (g ∷ gates) zero = g.weight + largest (map (tail_of gates) g.wires)
height_at (g ∷ gates) (suc p) = height_at gates p

abbrev pub no_time : Wire → ℕ
no_time w = 0

-- the heaviest chain through the gate at a position: its height after the greatest arrival time at its wires of the gates
-- before it, where all begin at 0
abbrev pub through_at : List Timed → ℕ → ℕ
through_at gates p = height_at gates p + largest (map (after no_time (take p gates)) (wires_at gates p))
