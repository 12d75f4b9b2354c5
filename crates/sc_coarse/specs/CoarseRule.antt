-- The coarse rule: the stretches of a body by their priority schedules, and all else alone.
use Rattle.std.specs.Prelude.{◌≡◌, ℕ, ◌+◌, Bool, List, [], ◌∷◌, ◌++◌, map, flat_map, replicate, Option, Some, None, slice_get, slice_index}
use Rattle.sc_gate.specs.declared.gate.Gate.{Gate}
use Rattle.sc_deck.specs.declared.item.Item.{Item}
use Rattle.sc_deck.specs.declared.item.Item.TheVariants as item
use Rattle.sc_sched.specs.declared.order.Rank.{Rank}
use Rattle.sc_sched.specs.Legal.{Step}
use Rattle.sc_sched.specs.PrioritySchedules.{IsPrioritySchedule}
use Rattle.sc_sched.specs.Schedule.{positions}
use Rattle.sc_coarse.specs.declared.block.Block.{Block}
use Rattle.sc_coarse.specs.declared.block.Block.TheVariants as block
use Rattle.sc_coarse.specs.CoarseSchedules.{Turn, turn, TurnBlock, OneStep, OneCall}

-- A part of a body: a stretch, which is a longest list of gate items of one turn with no call and no repeated gate between
-- them, by the positions of its items and by their gates; or one call or repeated gate, by its position.
pub data Part : Type 0 where
  Stretch : (items : List ℕ) (gates : List Gate) → Part
  Single : (item : ℕ) → Part

-- a gate item of one turn before parts: it is of the stretch that begins there, or is a stretch of its own
abbrev pub with_plain : ℕ → Gate → List Part → List Part
with_plain x gate [] = Stretch (x ∷ []) (gate ∷ []) ∷ []
with_plain x gate (Stretch items gates ∷ parts) = Stretch (x ∷ items) (gate ∷ gates) ∷ parts
with_plain x gate (Single y ∷ parts) = Stretch (x ∷ []) (gate ∷ []) ∷ Single y ∷ parts

-- the parts of items, of which the first has this position; fresh items are in no part and end no stretch
abbrev pub parts_from : ℕ → List Item → List Part
parts_from x [] = []
parts_from x (item.Fresh class n ∷ items) = parts_from (x + 1) items
parts_from x (item.Gate gate ∷ items) = with_plain x gate (parts_from (x + 1) items)
parts_from x (item.Call callee wires ∷ items) = Single x ∷ parts_from (x + 1) items
parts_from x (item.Gates gate turns ∷ items) = Single x ∷ parts_from (x + 1) items
parts_from x (item.Calls callee wires turns ∷ items) = Single x ∷ parts_from (x + 1) items

abbrev pub parts_of : List Item → List Part
parts_of items = parts_from 0 items

-- every gate takes the time 1
abbrev pub ones : List ℕ
ones = replicate 18 1

-- a step of a stretch, with the positions of its items in place of those of its gates
abbrev pub item_step : List ℕ → Step → Block
item_step items step = block.Step (map (map (slice_index items)) step)

-- the blocks of a stretch: the steps of the priority schedule of its gates
pub record AreStretchBlocks (comes : Rank → Rank → Bool) (k d : ℕ) (items : List ℕ) (gates : List Gate) (blocks : List Block) : Type 0 where
  pub steps : List Step
  pub priority : IsPrioritySchedule comes ones gates k d steps
  pub blocks_are : blocks ≡ map (item_step items) steps

abbrev pub ArePartBlocks : (Rank → Rank → Bool) → ℕ → ℕ → Part → List Block → Type 0
ArePartBlocks comes k d (Stretch items gates) blocks = AreStretchBlocks comes k d items gates blocks
ArePartBlocks comes k d (Single x) blocks = blocks ≡ block.Alone x ∷ []

-- the blocks of parts, one part after another
abbrev pub AreBlocks : (Rank → Rank → Bool) → ℕ → ℕ → List Part → List Block → Type 0
AreBlocks comes k d [] blocks = blocks ≡ []
AreBlocks comes k d (part ∷ parts) blocks =
    (first : List Block) × (rest : List Block) × (blocks ≡ first ++ rest) × ArePartBlocks comes k d part first × AreBlocks comes k d parts rest

-- THE COARSE SCHEDULE of items by the rule, on k regions of d qubits and by an order of ranks
abbrev pub IsCoarseRule : (Rank → Rank → Bool) → ℕ → ℕ → List Item → List Block → Type 0
IsCoarseRule comes k d items blocks = AreBlocks comes k d (parts_of items) blocks

abbrev pub first_turn : ℕ → Turn
first_turn x = turn x 0

-- the one region of a step, or the call, that is one turn of the item at a position
abbrev pub turn_step : ℕ → ℕ → TurnBlock
turn_step x n = OneStep ((turn x n ∷ []) ∷ [])

abbrev pub turn_call : ℕ → ℕ → TurnBlock
turn_call x n = OneCall (turn x n)

-- as many blocks as the item has turns
abbrev pub single_blocks : ℕ → Option Item → List TurnBlock
single_blocks x None = []
single_blocks x (Some (item.Fresh class n)) = []
single_blocks x (Some (item.Gate gate)) = turn_step x 0 ∷ []
single_blocks x (Some (item.Call callee wires)) = turn_call x 0 ∷ []
single_blocks x (Some (item.Gates gate turns)) = map (turn_step x) (positions turns)
single_blocks x (Some (item.Calls callee wires turns)) = map (turn_call x) (positions turns)

-- the blocks of turns that a block stands for
abbrev pub turn_blocks : List Item → Block → List TurnBlock
turn_blocks items (block.Step regions) = OneStep (map (map first_turn) regions) ∷ []
turn_blocks items (block.Alone x) = single_blocks x (slice_get items x)

abbrev pub all_turn_blocks : List Item → List Block → List TurnBlock
all_turn_blocks items blocks = flat_map (turn_blocks items) blocks
