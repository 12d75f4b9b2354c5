-- The events of an instance with all its calls written out.
use Rattle.std.specs.Prelude.{ℕ, zero, suc, List, [], ◌∷◌, ◌++◌, map, filter, slice_get, slice_index_or}
use Rattle.std.specs.Option.{option_map_or}
use Rattle.sc_base.specs.declared.names.Class.{Class}
use Rattle.sc_gate.specs.declared.gate.Wire.{Wire}
use Rattle.sc_gate.specs.declared.gate.Gate.{Gate}
use Rattle.sc_gate.specs.Wires.{same_class}
use Rattle.sc_deck.specs.declared.item.Item.{Item}
use Rattle.sc_deck.specs.declared.item.Item.TheVariants as item
use Rattle.sc_deck.specs.Events.{Event, Enter, Fresh, Apply, Return, gates_in, after_events}
use Rattle.sc_gate.specs.Renaming.{rename_gate}
use Rattle.sc_deck.specs.Keys.{param_classes, params_of}
use Rattle.sc_deck.specs.Modules.{Module, from_earlier}
use Rattle.sc_gate.specs.Numbers.{Numbers, number_of, with_more, no_wires}

-- n wires of a class, from a number on
abbrev pub wires_from : Class → ℕ → ℕ → List Wire
wires_from class first zero = []
wires_from class first (suc n) = record { class = class; number = first } ∷ wires_from class (suc first) n

-- the wires of one class
abbrev pub of_class : Class → List Wire → List Wire
of_class class wires = filter (λ w. same_class class w.class) wires

-- The wire that a local wire stands for, where the wires of a body are these, its parameters first and then its fresh ones.
-- Local wires are numbered apart by class.
abbrev pub placed : List Wire → Wire → Wire
placed places wire = slice_index_or (of_class wire.class places) wire.number wire

-- the wires of a body after an item: fresh ones come behind the others
abbrev pub places_with : Item → List Wire → Numbers → List Wire
places_with (item.Fresh class n) places next = places ++ wires_from class (number_of class next) n
places_with (item.Gate gate) places next = places
places_with (item.Call callee wires) places next = places
places_with (item.Gates gate turns) places next = places
places_with (item.Calls callee wires turns) places next = places

-- what a body unfolds to, on the wires that are passed and from the next fresh numbers on
abbrev pub Unfolding : Type 0
Unfolding = List Wire → Numbers → List Event

abbrev pub unfolding_at : List Unfolding → ℕ → Unfolding
unfolding_at [] i wires next = []
unfolding_at (u ∷ us) zero wires next = u wires next
unfolding_at (u ∷ us) (suc i) wires next = unfolding_at us i wires next

-- the same again and again, each time from the next fresh numbers on
abbrev pub repeated : ℕ → (Numbers → List Event) → Numbers → List Event
repeated zero once next = []
repeated (suc n) once next = once next ++ repeated n once (after_events next (once next))

-- The events of an item in a body with these wires, where the bodies that it calls have these unfoldings.
-- An item with n turns is n such items, one after another.
abbrev pub unfold_item : List Unfolding → Item → List Wire → Numbers → List Event
unfold_item us (item.Fresh class n) places next = Fresh class n ∷ []
unfold_item us (item.Gate gate) places next = Apply (rename_gate (placed places) gate) ∷ []
unfold_item us (item.Call callee wires) places next = unfolding_at us callee (map (placed places) wires) next
unfold_item us (item.Gates gate turns) places next = repeated turns (λ _. Apply (rename_gate (placed places) gate) ∷ []) next
unfold_item us (item.Calls callee wires turns) places next = repeated turns (unfolding_at us callee (map (placed places) wires)) next

-- the events of items, one after another
abbrev pub unfold_items : List Unfolding → List Item → List Wire → Numbers → List Event
unfold_items us [] places next = []
unfold_items us (i ∷ items) places next =
    let events : List Event = unfold_item us i places next in
    events ++ unfold_items us items (places_with i places next) (after_events next events)

-- the wires of a body after items
abbrev pub places_after : List Unfolding → List Item → List Wire → Numbers → List Wire
places_after us [] places next = places
places_after us (i ∷ items) places next = places_after us items (places_with i places next) (after_events next (unfold_item us i places next))

-- from the entering to the return
abbrev pub unfold_module : List Unfolding → Module → Unfolding
unfold_module us m wires next = Enter m.key wires ∷ (unfold_items us m.items wires next ++ Return m.key ∷ [])

-- the unfoldings of the modules in order, each from those before it
abbrev pub unfoldings : List Module → List Unfolding
unfoldings modules = from_earlier unfold_module [] modules

-- the unfolding of module i on these wires as its parameters, from the next fresh numbers on
abbrev pub unfold_on : List Module → ℕ → Unfolding
unfold_on modules i = unfolding_at (unfoldings modules) i

-- wires of these classes in order, numbered apart by class
abbrev pub numbered : List Class → Numbers → List Wire
numbered [] next = []
numbered (class ∷ classes) next = record { class = class; number = number_of class next } ∷ numbered classes (with_more class 1 next)

-- The unfolding of module i: its parameter wires have the first numbers, and fresh wires the next ones.
abbrev pub expansion : List Module → ℕ → List Event
expansion modules i =
    option_map_or (λ m. unfold_on modules i (numbered (param_classes m.key) no_wires) (params_of m.key)) (slice_get modules i) []

-- the gates of module i with all its calls written out
abbrev pub gates_of : List Module → ℕ → List Gate
gates_of modules i = gates_in (expansion modules i)
