-- Which decks have no coarse schedule.
use Rattle.std.specs.Prelude.{ℕ, ◌+◌, ◌<◌, ◌≤◌, ◌||◌, Bool, false, nat_lt, List, map, length, slice_get, slice_index}
use Rattle.std.specs.List.{list_any}
use Rattle.std.specs.Option.{option_map_or}
use Rattle.sc_deck.specs.declared.item.Item.{Item}
use Rattle.sc_deck.specs.declared.item.Item.TheVariants as item
use Rattle.sc_deck.specs.Modules.{Module}
use Rattle.sc_sched.specs.Gates.{arity_of}
use Rattle.sc_coarse.specs.CoarseRule.{Part, Stretch, Single, parts_of}

-- a stretch of more gates than are scheduled
abbrev pub is_long : Part → Bool
is_long (Stretch items gates) = nat_lt 4194304 (length gates)
is_long (Single x) = false

-- the number of gates of a stretch that is begun with, with one more item
abbrev pub gates_with : ℕ → Item → ℕ
gates_with n (item.Fresh class k) = n
gates_with n (item.Gate gate) = n + 1
gates_with n (item.Call callee wires) = 0
gates_with n (item.Gates gate turns) = 0
gates_with n (item.Calls callee wires turns) = 0

abbrev pub items_of : Module → List Item
items_of m = m.items

-- more items than there are positions, or a stretch that is too long
abbrev pub body_too_large : List Item → Bool
body_too_large items = nat_lt 4294967295 (length items) || list_any is_long (parts_of items)

abbrev pub module_too_large : Module → Bool
module_too_large m = body_too_large m.items

abbrev pub deck_too_large : List Module → Bool
deck_too_large modules = list_any module_too_large modules

-- the number of qubits of a gate item, whatever its turns, and 0 for other items
abbrev pub item_width : Item → ℕ
item_width (item.Fresh class n) = 0
item_width (item.Gate gate) = arity_of gate
item_width (item.Call callee wires) = 0
item_width (item.Gates gate turns) = arity_of gate
item_width (item.Calls callee wires turns) = 0

-- the width of the item at a position of a body, and of instance i; 0 past the end
abbrev pub width_in : List Item → ℕ → ℕ
width_in items x = slice_index (map item_width items) x

abbrev pub width_at : List Module → ℕ → ℕ → ℕ
width_at modules i x = option_map_or (λ (m : Module). width_in m.items x) (slice_get modules i) 0

-- the first instance with a gate item of more than d qubits, and the first such item of it
pub record IsFirstWide (d : ℕ) (modules : List Module) (i x : ℕ) : Type 0 where
  pub wide : d < width_at modules i x
  pub first_instance : (j y : ℕ) → j < i → width_at modules j y ≤ d
  pub first_item : (y : ℕ) → y < x → width_at modules i y ≤ d

-- no gate item has more than d qubits
abbrev pub NoneIsWide : ℕ → List Module → Type 0
NoneIsWide d modules = (i x : ℕ) → width_at modules i x ≤ d
