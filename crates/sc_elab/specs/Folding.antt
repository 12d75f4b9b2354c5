-- Items and decks that are folded as they are made, and what they stand for.
use Rattle.std.specs.Prelude.{◌≡◌, ◌+◌, ◌*◌, ◌≤◌, Option, Some, None, List, map, flat_map}
use Rattle.sc_deck.specs.declared.Item.{Item}
use Rattle.sc_deck.specs.Modules.{Module}
use Rattle.sc_deck.specs.Turns.{written_out, last_turns, folded, folded_modules}
use Rattle.sc_elab.specs.declared.frame.Frame.{Frame}
use Rattle.sc_elab.specs.declared.todo.Request.{Request}

-- the items that are stood for, each item with n turns n times
abbrev pub written : List Item → List Item
written items = flat_map written_out items

-- a module with its items written out
abbrev pub written_module : Module → Module
written_module m = record m { items = written m.items }

abbrev pub written_modules : List Module → List Module
written_modules deck = map written_module deck

-- the items are what folding makes of those that they stand for
abbrev pub IsFolded : List Item → Type 0
IsFolded items = items ≡ folded (written items)

-- so are those of each module
abbrev pub AreFolded : List Module → Type 0
AreFolded deck = deck ≡ folded_modules (written_modules deck)

-- the last item has so few turns that it may get 64 more for each step that is left
abbrev pub HasRoom : Frame → Type 0
HasRoom f = last_turns f.body.items + 64 * f.steps ≤ 64 * 1048576

-- the same with room for a call that the body has come to
abbrev pub HasRoomFor : Option Request → Frame → Type 0
HasRoomFor None f = HasRoom f
HasRoomFor (Some r) f = last_turns f.body.items + 1 + 64 * f.steps ≤ 64 * 1048576
