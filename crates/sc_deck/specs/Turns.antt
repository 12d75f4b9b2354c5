-- Items with turns, written out and folded.
use Rattle.std.specs.Prelude.{◌≡◌, ℕ, ◌+◌, ◌-◌, nat_eq, Bool, true, false, ◌&&◌, List, [], ◌∷◌, map, fold, length, slice_get, replicate, if◌then◌else◌}
use Rattle.std.specs.Option.{option_map_or}
use Rattle.std.specs.Cmp.Lexicographic.{pointwise}
use Rattle.sc_gate.specs.declared.gate.Wire.{Wire}
use Rattle.sc_gate.specs.declared.gate.Gate.{Gate}
use Rattle.sc_gate.specs.Wires.{same_wire}
use Rattle.sc_deck.specs.declared.item.Item.{Item}
use Rattle.sc_deck.specs.declared.item.Item.TheVariants as item
use Rattle.sc_gate.specs.SameGates.{same_gate}
use Rattle.sc_deck.specs.Modules.{Module}

-- an item with n turns stands for n equal items
abbrev pub written_out : Item → List Item
written_out (item.Fresh class n) = item.Fresh class n ∷ []
written_out (item.Gate gate) = item.Gate gate ∷ []
written_out (item.Call callee wires) = item.Call callee wires ∷ []
written_out (item.Gates gate turns) = replicate turns (item.Gate gate)
written_out (item.Calls callee wires turns) = replicate turns (item.Call callee wires)

-- the item has two turns or more
abbrev pub has_turns : Item → Bool
has_turns (item.Fresh class n) = false
has_turns (item.Gate gate) = false
has_turns (item.Call callee wires) = false
has_turns (item.Gates gate turns) = true
has_turns (item.Calls callee wires turns) = true

-- how many turns an item has
abbrev pub turns_of : Item → ℕ
turns_of (item.Fresh class n) = 1
turns_of (item.Gate gate) = 1
turns_of (item.Call callee wires) = 1
turns_of (item.Gates gate turns) = turns
turns_of (item.Calls callee wires turns) = turns

-- the turns of the last item, and 0 where there is none
abbrev pub last_turns : List Item → ℕ
last_turns items = option_map_or turns_of (slice_get items (length items - 1)) 0

-- a call of the same body on the same wires
abbrev pub same_call : ℕ → List Wire → ℕ → List Wire → Bool
same_call callee wires other others = nat_eq callee other && pointwise same_wire wires others

-- the items apply the same gate, or make the same call, whatever their turns
abbrev pub same_step : Item → Item → Bool
same_step (item.Gate g) (item.Gate h) = same_gate g h
same_step (item.Gate g) (item.Gates h m) = same_gate g h
same_step (item.Gates g n) (item.Gate h) = same_gate g h
same_step (item.Gates g n) (item.Gates h m) = same_gate g h
same_step (item.Call c ws) (item.Call d vs) = same_call c ws d vs
same_step (item.Call c ws) (item.Calls d vs m) = same_call c ws d vs
same_step (item.Calls c ws n) (item.Call d vs) = same_call c ws d vs
same_step (item.Calls c ws n) (item.Calls d vs m) = same_call c ws d vs
same_step i j = false

-- no item is followed by the same gate or the same call
abbrev pub NeighboursDiffer : List Item → Type 0
NeighboursDiffer [] = Unit {0}
NeighboursDiffer (i ∷ []) = Unit {0}
NeighboursDiffer (i ∷ j ∷ items) = (same_step i j ≡ false) × NeighboursDiffer (j ∷ items)

-- an item after another: one item with turns where both are the same gate, or the same call
abbrev pub joined : Item → Item → List Item
joined (item.Gate g) (item.Gate h) = if same_gate g h then item.Gates g 2 ∷ [] else item.Gate g ∷ item.Gate h ∷ []
joined (item.Gates g n) (item.Gate h) = if same_gate g h then item.Gates g (n + 1) ∷ [] else item.Gates g n ∷ item.Gate h ∷ []
joined (item.Call c ws) (item.Call d vs) = if same_call c ws d vs then item.Calls c ws 2 ∷ [] else item.Call c ws ∷ item.Call d vs ∷ []
joined (item.Calls c ws n) (item.Call d vs) = if same_call c ws d vs then item.Calls c ws (n + 1) ∷ [] else item.Calls c ws n ∷ item.Call d vs ∷ []
joined i j = i ∷ j ∷ []

-- a folded list with one more item, which joins the last one where it can
abbrev pub with_folded : List Item → Item → List Item
with_folded [] j = j ∷ []
with_folded (i ∷ []) j = joined i j
with_folded (i ∷ k ∷ items) j = i ∷ with_folded (k ∷ items) j

-- each longest run of equal gates, or of equal calls, as one item with turns
abbrev pub folded : List Item → List Item
folded items = fold with_folded [] items

abbrev pub folded_module : Module → Module
folded_module m = record m { items = folded m.items }

abbrev pub folded_modules : List Module → List Module
folded_modules modules = map folded_module modules
