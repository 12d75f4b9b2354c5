-- Coarse schedules of an instance: lists of blocks in which each turn of its gates and calls stands once, in an order that keeps its wires.
use Rattle.std.specs.Prelude.{◌≡◌, ℕ, suc, ◌+◌, ◌<◌, ◌==◌, ◌&&◌, Bool, true, cond, if◌then◌else◌, nat_lt, List, [], ◌∷◌, map, slice_get, slice_index, All}
use Rattle.std.specs.List.{list_any, sum_by, count_by}
use Rattle.std.specs.Option.{option_map_or}
use Rattle.sc_gate.specs.declared.gate.Wire.{Wire}
use Rattle.sc_gate.specs.Gates.{operands}
use Rattle.sc_gate.specs.Wires.{member}
use Rattle.sc_deck.specs.declared.item.Item.{Item}
use Rattle.sc_deck.specs.declared.item.Item.TheVariants as item

-- a turn of an item: the position of the item, fresh items counted, and the number of the turn, both from 0
pub record Turn : Type 0 where
  pub item : ℕ
  pub number : ℕ

abbrev pub turn : ℕ → ℕ → Turn
turn x n = record { item = x; number = n }

-- a block: one step of turns of gate items, by its regions, or one turn of a call item
pub data TurnBlock : Type 0 where
  OneStep : List (List Turn) → TurnBlock
  OneCall : Turn → TurnBlock

-- how many turns an item has as a gate, and as a call
abbrev pub gate_turns : Item → ℕ
gate_turns (item.Fresh class n) = 0
gate_turns (item.Gate gate) = 1
gate_turns (item.Call callee wires) = 0
gate_turns (item.Gates gate turns) = turns
gate_turns (item.Calls callee wires turns) = 0

abbrev pub call_turns : Item → ℕ
call_turns (item.Fresh class n) = 0
call_turns (item.Gate gate) = 0
call_turns (item.Call callee wires) = 1
call_turns (item.Gates gate turns) = 0
call_turns (item.Calls callee wires turns) = turns

-- and in all
abbrev pub item_turns : Item → ℕ
item_turns i = gate_turns i + call_turns i

-- a turn of a gate item, of a call item, and of either
abbrev pub IsGateTurn : List Item → Turn → Type 0
IsGateTurn items t = t.number < slice_index (map gate_turns items) t.item

abbrev pub IsCallTurn : List Item → Turn → Type 0
IsCallTurn items t = t.number < slice_index (map call_turns items) t.item

abbrev pub IsTurn : List Item → Turn → Type 0
IsTurn items t = t.number < slice_index (map item_turns items) t.item

-- the wires of an item that is a gate or a call
abbrev pub item_wires : Item → List Wire
item_wires (item.Fresh class n) = []
item_wires (item.Gate gate) = operands gate
item_wires (item.Call callee wires) = wires
item_wires (item.Gates gate turns) = operands gate
item_wires (item.Calls callee wires turns) = wires

abbrev pub wires_at : List Item → ℕ → List Wire
wires_at items x = option_map_or item_wires (slice_get items x) []

-- the items at two positions share a wire
abbrev pub items_share : List Item → ℕ → ℕ → Bool
items_share items x y = list_any (λ w. member w (wires_at items y)) (wires_at items x)

abbrev pub same_turn : Turn → Turn → Bool
same_turn t u = (t.item == u.item) && (t.number == u.number)

-- how often a turn stands in a block, and in all the blocks
abbrev pub times_in_block : Turn → TurnBlock → ℕ
times_in_block t (OneStep regions) = sum_by (λ region. count_by (same_turn t) region) regions
times_in_block t (OneCall u) = cond (same_turn t u) 1 0

abbrev pub times_in_blocks : List TurnBlock → Turn → ℕ
times_in_blocks blocks t = sum_by (times_in_block t) blocks

-- the number, from 0, of the first block in which a turn stands
abbrev pub block_of : List TurnBlock → Turn → ℕ
block_of [] t = 0
block_of (block ∷ blocks) t = if nat_lt 0 (times_in_block t block) then 0 else suc (block_of blocks t)

-- a step has turns of gate items only, and a call block a turn of a call item
abbrev pub SuitsItems : List Item → TurnBlock → Type 0
SuitsItems items (OneStep regions) = All (λ region. All (IsGateTurn items) region) regions
SuitsItems items (OneCall t) = IsCallTurn items t

-- A COARSE SCHEDULE of items
pub record IsCoarseSchedule (items : List Item) (blocks : List TurnBlock) : Type 0 where
  pub suits : All (SuitsItems items) blocks
  -- every turn of a gate or call item stands in exactly one block
  pub once : (t : Turn) → IsTurn items t → times_in_blocks blocks t ≡ 1
  -- after the earlier turns of that item
  pub turns_in_order : (x m n : ℕ) → m < n → IsTurn items (turn x n) → block_of blocks (turn x m) < block_of blocks (turn x n)
  -- and after every earlier item that shares a wire with it
  pub items_in_order : (t u : Turn) → IsTurn items t → IsTurn items u → t.item < u.item → items_share items t.item u.item ≡ true →
      block_of blocks t < block_of blocks u
