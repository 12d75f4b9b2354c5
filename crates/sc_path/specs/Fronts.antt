-- What the rows of a body say of the gates so far.
use Rattle.std.specs.Prelude.{◌≡◌, ℕ, suc, ◌<◌, ◌≤◌, nat_eq, List, [], ◌∷◌, ◌++◌, map, length, Bool, true, false, ◌||◌, ◌⊎◌, Option, Some, None, slice_index, slice_get, if◌then◌else◌}
use Rattle.std.specs.Option.{option_map}
use Rattle.sc_gate.specs.declared.gate.Wire.{Wire}
use Rattle.sc_gate.specs.Chains.{Timed, more, plus, when, best, or_zero}
use Rattle.sc_gate.specs.Paths.{star, WiresAre}
use Rattle.sc_gate.specs.Renaming.{rename_timed, IsOneToOne}
use Rattle.sc_path.specs.declared.row.Entry.{Entry}
use Rattle.sc_path.specs.declared.fault.PathFault.{PathFault}
use Rattle.sc_path.specs.declared.fault.PathFault.TheVariants.{CountTooLarge, Memory}
use Rattle.sc_path.specs.Rows.{look, row_at, shifted, same_start, Passes, Heavy, place}
use Rattle.sc_path.specs.Tables.{param, IsTable}

-- the number is one of these
abbrev pub stands_in : ℕ → List ℕ → Bool
stands_in w [] = false
stands_in w (v ∷ vs) = nat_eq v w || stands_in w vs

-- the greatest over these rows
abbrev pub over_rows : List ℕ → (ℕ → Option ℕ) → Option ℕ
over_rows [] f = None
over_rows (v ∷ vs) f = more (f v) (over_rows vs f)

-- which wires the rows are of, and which the starts
pub record Sites : Type 0 where
  pub at : ℕ → Wire
  pub start : ℕ → Wire

abbrev pub from_of : Sites → Option ℕ → Option Wire
from_of sites s = option_map sites.start s

-- no start has a place past the last one
pub record Bounded (rows : List (List Entry)) (n : ℕ) : Type 0 where
  pub none : (w : ℕ) (s : Option ℕ) → n ≤ place s → look (row_at rows w) s ≡ None

-- The rows are those of these gates: each has, for each start, the greatest time at its wire of a signal that leaves the start
-- at 0, and the last one the greatest weight of a chain that ends anywhere.
pub record Stands (gates : List Timed) (sites : Sites) (rows : List (List Entry)) (last : List ℕ) : Type 0 where
  pub apart : (a b : ℕ) → a < length rows → b < length rows → sites.at a ≡ sites.at b → a ≡ b
  pub stars : (w : ℕ) (s : Option ℕ) → w < length rows → place s < length last → look (row_at rows w) s ≡ star gates (from_of sites s) (sites.at w)
  pub lasts : (s : Option ℕ) → place s < length last → slice_index last (place s) ≡ or_zero (best gates (from_of sites s) None)

-- a gate of this weight on the wires of these rows
abbrev pub gate_at : Sites → ℕ → List ℕ → Timed
gate_at sites weight wires = record { weight = weight; wires = map sites.at wires }

-- the entries through a gate
abbrev pub through : List (List Entry) → ℕ → List ℕ → Option ℕ → Option ℕ
through rows weight wires s = over_rows wires (λ v. shifted (row_at rows v) weight s)

pub record HeavyAt (rows : List (List Entry)) (wires : List ℕ) (weight : ℕ) : Type 0 where
  pub wire : ℕ
  pub here : stands_in wire wires ≡ true
  pub heavy : Heavy (row_at rows wire) weight

abbrev pub WhyThrough : List (List Entry) → List ℕ → ℕ → PathFault → Type 0
WhyThrough rows wires weight Memory = Unit {0}
WhyThrough rows wires weight CountTooLarge = HeavyAt rows wires weight

-- the row at w after a row was put at some places
abbrev pub put_at : List (List Entry) → List ℕ → List Entry → ℕ → Option ℕ → Option ℕ
put_at rows wires row w s = if stands_in w wires then look row s else look (row_at rows w) s

-- why a gate is refused: a chain that ends with it is too heavy
abbrev pub WhyGate : List (List Entry) → List ℕ → ℕ → List ℕ → PathFault → Type 0
WhyGate rows last weight wires Memory = Unit {0}
WhyGate rows last weight wires CountTooLarge = (gates : List Timed) (sites : Sites) → Stands gates sites rows last → Passes (best (gates ++ gate_at sites weight wires ∷ []) None None)

abbrev pub look_at : List (List Entry) → Option ℕ → Option ℕ → Option ℕ
look_at rows None s = None
look_at rows (Some w) s = look (row_at rows w) s

-- the entries that a start in the callee stands for: anywhere is a chain that starts in the call, i the wire of the call at i
abbrev pub source : List (List Entry) → List ℕ → Option ℕ → Option ℕ → Option ℕ
source rows wires None s = when (same_start None s) (Some 0)
source rows wires (Some i) s = look_at rows (slice_get wires i) s

-- what a row of the callee's table adds
abbrev pub called : (Option ℕ → Option ℕ) → List Entry → Option ℕ
called F [] = None
called F (e ∷ es) = more (plus (Some e.weight) (F e.start)) (called F es)

abbrev pub WhyCalled : List (List Entry) → List ℕ → List Entry → PathFault → Type 0
WhyCalled rows wires es Memory = Unit {0}
WhyCalled rows wires es CountTooLarge = (s : Option ℕ) × Passes (called (λ t. source rows wires t s) es)

-- some row of the table adds too much
abbrev pub WhyCall : List (List Entry) → List ℕ → List (List Entry) → PathFault → Type 0
WhyCall rows wires table Memory = Unit {0}
WhyCall rows wires table CountTooLarge = (j : ℕ) × (j < length table) × (s : Option ℕ) × Passes (called (λ t. source rows wires t s) (row_at table j))

-- the row of the call's wire j after the call
abbrev pub row_after : List (List Entry) → List ℕ → List (List Entry) → ℕ → Option ℕ → Option ℕ
row_after rows wires table j s = more (look (row_at rows (slice_index wires j)) s) (called (λ t. source rows wires t s) (row_at table j))

-- The call's gates on the rows of a body: its parameter wires stand for the wires of these rows, and its fresh wires are its own.
pub record Placed (gates callee : List Timed) (sites : Sites) (n k : ℕ) (q : ℕ) (wires : List ℕ) : Type 0 where
  pub rename : Wire → Wire
  pub own : Wire → Bool
  pub one_to_one : IsOneToOne rename
  pub params : (i : ℕ) → i < length wires → rename (param q i) ≡ sites.at (slice_index wires i)
  pub before : WiresAre (λ w. own w ≡ false) gates
  pub rows : (w : ℕ) → w < n → own (sites.at w) ≡ false
  pub starts : (u : ℕ) → suc u < k → own (sites.start u) ≡ false
  pub after : WiresAre (λ w. (((i : ℕ) × (i < length wires) × (w ≡ sites.at (slice_index wires i))) ⊎ (own w ≡ true))) (map (rename_timed rename) callee)

-- why a call is refused: a chain through it is too heavy
abbrev pub WhyNoCall : List (List Entry) → List ℕ → List ℕ → List (List Entry) → PathFault → Type 0
WhyNoCall rows last wires table Memory = Unit {0}
WhyNoCall rows last wires table CountTooLarge =
    (gates callee : List Timed) (q : ℕ) (sites : Sites) → Stands gates sites rows last → IsTable callee q (length wires) table →
    (placed : Placed gates callee sites (length rows) (length last) q wires) → Passes (best (gates ++ map (rename_timed placed.rename) callee) None None)

-- the row at w after the rows were put at their wires, in order
abbrev pub put_each : List (List Entry) → List ℕ → List (List Entry) → ℕ → List Entry
put_each rows [] new w = row_at rows w
put_each rows (v ∷ wires) [] w = row_at rows w
put_each rows (v ∷ wires) (r ∷ new) w = if nat_eq v w then r else put_each rows wires new w
