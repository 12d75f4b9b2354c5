-- The blocks of a body while they are made.
use Rattle.std.specs.Prelude.{◌≡◌, ℕ, ◌≤◌, Bool, List, [], ◌∷◌, ◌++◌, length}
use Rattle.sc_gate.specs.declared.gate.Gate.{Gate}
use Rattle.sc_deck.specs.declared.item.Item.{Item}
use Rattle.sc_deck.specs.declared.item.Item.TheVariants as item
use Rattle.sc_sched.specs.PrioritySchedules.{NoneIsWider}
use Rattle.sc_sched.specs.declared.order.Rank.{Rank}
use Rattle.sc_coarse.specs.declared.building.Building.{Building}
use Rattle.sc_coarse.specs.CoarseRule.{Part, Stretch, Single, parts_from, AreBlocks}

-- a call or a repeated gate
abbrev pub IsSingle : Item → Type 0
IsSingle (item.Fresh class n) = ⊥
IsSingle (item.Gate gate) = ⊥
IsSingle (item.Call callee wires) = Unit {0}
IsSingle (item.Gates gate turns) = Unit {0}
IsSingle (item.Calls callee wires turns) = Unit {0}

-- a stretch of its own, where it has an item
abbrev pub stretch_part : List ℕ → List Gate → List Part
stretch_part [] gates = []
stretch_part (x ∷ items) gates = Stretch (x ∷ items) gates ∷ []

-- plain items that are begun with, before parts: one stretch with that which comes next
abbrev pub with_open : List ℕ → List Gate → List Part → List Part
with_open items gates [] = stretch_part items gates
with_open items gates (Stretch more others ∷ parts) = Stretch (items ++ more) (gates ++ others) ∷ parts
with_open items gates (Single x ∷ parts) = stretch_part items gates ++ Single x ∷ parts

-- of these parts some have their blocks, and a stretch is begun with that goes on with the items from a position on
pub record IsBuilt (comes : Rank → Rank → Bool) (k d : ℕ) (parts : List Part) (x : ℕ) (rest : List Item) (b : Building) : Type 0 where
  pub done : List Part
  pub blocks : AreBlocks comes k d done b.blocks
  pub whole : parts ≡ done ++ with_open b.items.items b.gates.items (parts_from x rest)
  pub same : length b.items.items ≡ length b.gates.items

-- gates that have a schedule as they are: they are not too many, and none has more than d qubits
pub record CanEnd (d : ℕ) (gates : List Gate) : Type 0 where
  pub few : length gates ≤ 4194304
  pub narrow : NoneIsWider d gates
