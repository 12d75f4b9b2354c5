-- The length of a coarse schedule: how many steps its blocks stand for.
use Rattle.std.specs.Prelude.{ℕ, ◌<◌, ◌*◌, List, slice_get}
use Rattle.std.specs.List.{sum_by}
use Rattle.std.specs.Option.{option_map_or}
use Rattle.sc_deck.specs.declared.item.Item.{Item}
use Rattle.sc_deck.specs.declared.item.Item.TheVariants as item
use Rattle.sc_coarse.specs.declared.block.Block.{Block}
use Rattle.sc_coarse.specs.declared.block.Block.TheVariants as block
use Rattle.sc_coarse.specs.declared.coarse.Instance.{Instance}

-- the number of steps of an item that stands alone, where instance j has so many
abbrev pub item_length : (ℕ → ℕ) → Item → ℕ
item_length lengths (item.Fresh class n) = 0
item_length lengths (item.Gate gate) = 1
item_length lengths (item.Call callee wires) = lengths callee
item_length lengths (item.Gates gate turns) = turns
item_length lengths (item.Calls callee wires turns) = turns * lengths callee

-- 1 for a step
abbrev pub block_length : (ℕ → ℕ) → List Item → Block → ℕ
block_length lengths items (block.Step regions) = 1
block_length lengths items (block.Alone x) = option_map_or (item_length lengths) (slice_get items x) 0

abbrev pub blocks_length : (ℕ → ℕ) → List Item → List Block → ℕ
blocks_length lengths items blocks = sum_by (block_length lengths items) blocks

-- the length of an instance; 0 past the last
abbrev pub length_at : List Instance → ℕ → ℕ
length_at instances j = option_map_or (λ (one : Instance). one.length) (slice_get instances j) 0

-- an item calls an earlier instance only
abbrev pub CallsBelow : ℕ → Item → Type 0
CallsBelow n (item.Fresh class k) = Unit {0}
CallsBelow n (item.Gate gate) = Unit {0}
CallsBelow n (item.Call callee wires) = callee < n
CallsBelow n (item.Gates gate turns) = Unit {0}
CallsBelow n (item.Calls callee wires turns) = callee < n

-- the item of a block is one of so many
abbrev pub IsInBody : ℕ → Block → Type 0
IsInBody many (block.Step regions) = Unit {0}
IsInBody many (block.Alone x) = x < many
