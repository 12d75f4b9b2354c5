-- What cancelling does to a gate list, and what it leaves.
use Rattle.std.specs.Prelude.{◌≡◌, ◌<◌, ◌==◌, ℕ, true, false, List, [], ◌∷◌, ◌++◌, count_by}
use Rattle.std.specs.List.{list_any}
use Rattle.sc_base.specs.declared.names.GateName.{GateName}
use Rattle.sc_gate.specs.declared.gate.Gate.{Gate}
use Rattle.sc_gate.specs.Gates.{name_of, place_of, Cancels}
use Rattle.sc_gate.specs.Wires.{shares}

-- The second list is reached from the first by moves: two neighbours that share no wire change places, as they commute; two
-- neighbours that cancel are removed, as they are the identity together.
pub data Moves : List Gate → List Gate → Type 0 where
  done : (gates : List Gate) → Moves gates gates
  swapped : (front back gates : List Gate) (g h : Gate) → shares g h ≡ false → Moves (front ++ h ∷ g ∷ back) gates → Moves (front ++ g ∷ h ∷ back) gates
  removed : (front back gates : List Gate) (g h : Gate) → Cancels g h → Moves (front ++ back) gates → Moves (front ++ g ∷ h ∷ back) gates

-- between two gates that cancel there stands one that shares a wire with them
abbrev pub IsReduced : List Gate → Type 0
IsReduced gates =
    (front middle back : List Gate) (g h : Gate) → gates ≡ front ++ g ∷ (middle ++ h ∷ back) → Cancels g h → list_any (λ m. shares g m) middle ≡ true

-- how many gates have the name
abbrev pub count_of : GateName → List Gate → ℕ
count_of name gates = count_by (λ g. place_of (name_of g.kind) == place_of name) gates

-- each number is less than the next one
abbrev pub Ascend : List ℕ → Type 0
Ascend [] = Unit {0}
Ascend (p ∷ []) = Unit {0}
Ascend (p ∷ q ∷ positions) = (p < q) × Ascend (q ∷ positions)
