-- Hierarchical texts, line by line: which lines may stand where, and where a limit is passed.
use Rattle.std.specs.Prelude.{◌≡◌, ◌≢◌, ℕ, ◌<◌, ◌≤◌, Bool, true, false, List, [], ◌∷◌, ◌++◌, length, codes, ◌⊎◌}
use Rattle.sc_base.specs.Limits.{most_wires, most_instances, most_items, most_depth}
use Rattle.sc_gate.specs.Lines.{number_line}
use Rattle.sc_gate.specs.Numbers.{Numbers, both}
use Rattle.sc_deck.specs.declared.item.Item.{Item}
use Rattle.sc_deck.specs.declared.key.Key.{Key}
use Rattle.sc_deck.specs.Bodies.{wires_of}
use Rattle.sc_deck.specs.Decks.{ItemCallFits, IsNewKey, IsWhole}
use Rattle.sc_deck.specs.Items.{ItemFits, ItemInRange}
use Rattle.sc_deck.specs.Keys.{main_key}
use Rattle.sc_deck.specs.Modules.{Module, body_of, heights_of, height_over}
use Rattle.sc_deck.specs.Turns.{has_turns}
use Rattle.sc_read.specs.HierLines.{IsFormedKey, IsHeading, ItemText}

-- What was read so far, and with it which lines may stand next: the first line; the first line of a module, behind these
-- modules; an item or the end of a module, which has these items so far; or none. The truth value says whether
-- the text has version 2, in which items may have turns.
pub data Stage : Type 0 where
  Title : Stage
  Between : Bool → List Module → Stage
  Within : Bool → List Module → Module → Stage
  Over : List Module → Stage

-- the limits, in the order in which one is named where a line passes several
pub data Limit : Type 0 where
  Instances : Limit
  Wires : Limit
  Items : Limit
  Depth : Limit

abbrev pub version_of : Bool → ℕ
version_of false = 1
version_of true = 2

-- a signature that no other module has
pub record IsNextKey (modules : List Module) (key : Key) : Type 0 where
  pub formed : IsFormedKey key
  pub new : IsNewKey modules key

-- one more item of a module that has so many wires, behind earlier modules
pub record IsNextItem (turns : Bool) (modules : List Module) (wires : Numbers) (i : Item) : Type 0 where
  -- fresh wires, turns, and operands that are there and distinct
  pub fits : ItemFits wires i
  pub in_range : ItemInRange i
  -- a call of an earlier module, with its parameters in number and class
  pub call : ItemCallFits modules i
  -- in version 1 no item has turns
  pub version : (turns ≡ false) → has_turns i ≡ false

-- the first line
pub record IsTitle (line : List ℕ) (next : Stage) : Type 0 where
  pub turns : Bool
  pub line_is : line ≡ number_line (codes "hier") (version_of turns)
  pub next_is : next ≡ Between turns []

-- a module begins
pub record BeginsModule (turns : Bool) (modules : List Module) (line : List ℕ) (next : Stage) : Type 0 where
  pub key : Key
  pub key_is : IsNextKey modules key
  pub line_is : IsHeading (length modules) key line
  pub next_is : next ≡ Within turns modules (record { key = key; items = [] })

-- one more item
pub record AddsItem (turns : Bool) (modules : List Module) (m : Module) (line : List ℕ) (next : Stage) : Type 0 where
  pub item : Item
  pub item_is : IsNextItem turns modules (wires_of (body_of m)) item
  pub line_is : ItemText item line
  pub next_is : next ≡ Within turns modules (record m { items = m.items ++ item ∷ [] })

-- a module ends that is not `main()`
pub record EndsModule (turns : Bool) (modules : List Module) (m : Module) (line : List ℕ) (next : Stage) : Type 0 where
  pub not_main : m.key ≢ main_key
  pub line_is : line ≡ codes "end\n"
  pub next_is : next ≡ Between turns (modules ++ m ∷ [])

-- `main()` ends, and every other module is called by a later one
pub record EndsText (modules : List Module) (m : Module) (line : List ℕ) (next : Stage) : Type 0 where
  pub whole : IsWhole (modules ++ m ∷ [])
  pub line_is : line ≡ codes "end\n"
  pub next_is : next ≡ Over (modules ++ m ∷ [])

-- a line is in its place, limits left aside, and this is the stage behind it
abbrev pub InPlace : Stage → List ℕ → Stage → Type 0
InPlace Title line next = IsTitle line next
InPlace (Between turns modules) line next = BeginsModule turns modules line next
InPlace (Within turns modules m) line next =
    AddsItem turns modules m line next ⊎ (EndsModule turns modules m line next ⊎ EndsText modules m line next)
InPlace (Over modules) line next = ⊥

-- What is read passes a limit. A line passes a limit exactly where the stage behind it is the first that does: the number of
-- modules and the wires of parameters at a `module` line, the wires of a body at a `qbit` or `cbit` line, its items at every item
-- line, its height at a `call` line.
abbrev pub Passes : Stage → Limit → Type 0
Passes (Within turns modules m) Instances = most_instances ≤ length modules
Passes (Within turns modules m) Wires = most_wires < both (wires_of (body_of m))
Passes (Within turns modules m) Items = most_items < length m.items
Passes (Within turns modules m) Depth = most_depth < height_over (heights_of modules) m
Passes stage limit = ⊥

-- it passes this limit and none that is named before it
abbrev pub PassesFirst : Stage → Limit → Type 0
PassesFirst stage Instances = Passes stage Instances
PassesFirst stage Wires = Passes stage Wires × (Passes stage Instances → ⊥)
PassesFirst stage Items = Passes stage Items × (Passes stage Instances → ⊥) × (Passes stage Wires → ⊥)
PassesFirst stage Depth = Passes stage Depth × (Passes stage Instances → ⊥) × (Passes stage Wires → ⊥) × (Passes stage Items → ⊥)

-- a line is in its place and passes no limit
pub record Goes (stage : Stage) (line : List ℕ) (next : Stage) : Type 0 where
  pub in_place : InPlace stage line next
  pub within : (limit : Limit) → Passes next limit → ⊥

-- a line is in its place and passes this limit first
pub record Breaks (stage : Stage) (line : List ℕ) (limit : Limit) : Type 0 where
  pub next : Stage
  pub in_place : InPlace stage line next
  pub passes : PassesFirst next limit

-- a text may end behind the end of `main()` alone
abbrev pub MayEnd : Stage → Type 0
MayEnd (Over modules) = Unit {0}
MayEnd stage = ⊥
