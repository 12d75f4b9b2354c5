-- The refusal of a run, its meaning and its instances, all from its events.
use Rattle.std.specs.Prelude.{ℕ, suc, nat_lt, Option, Some, List, [], ◌∷◌, ◌++◌, map, flat_map, length, if◌then◌else◌}
use Rattle.std.specs.List.{list_any}
use Rattle.sc_gate.specs.declared.gate.Wire.{Wire}
use Rattle.sc_gate.specs.declared.gate.Gate.{Gate}
use Rattle.sc_gate.specs.Wires.{same_wire}
use Rattle.sc_tables.specs.Replacing.{replaced}
use Rattle.sc_deck.specs.declared.Key.{Key}
use Rattle.sc_deck.specs.declared.Item.{Item}
use Rattle.sc_deck.specs.declared.Item.TheVariants as item
use Rattle.sc_deck.specs.Events.{Event, Enter, Fresh, Apply, Return, gates_in}
use Rattle.sc_deck.specs.Keys.{same_key}
use Rattle.sc_deck.specs.Modules.{Module}
use Rattle.sc_gate.specs.Numbers.{Numbers, number_of, with_more, no_wires}
use Rattle.sc_gate.specs.Renaming.{rename_gate}
use Rattle.sc_deck.specs.Unfolding.{wires_from, of_class}
use Rattle.sc_meaning.specs.declared.choice.Choice.{Choice}
use Rattle.sc_meaning.specs.declared.choice.Choice.TheVariants.{Keep, Replace}
use Rattle.sc_meaning.specs.declared.fault.ElabFault.{ElabFault}
use Rattle.sc_meaning.specs.declared.fault.ElabFault.TheVariants.{TooManyInstances}
use Rattle.sc_meaning.specs.Outcomes.{Outcome, events_of, fault_of}

-- ---- refusal

-- the keys with one more, if it is new
abbrev pub with_key : List Key → Key → List Key
with_key keys key = if list_any (same_key key) keys then keys else keys ++ key ∷ []

-- the distinct keys that were entered, after earlier ones
abbrev pub entered_keys : List Event → List Key → List Key
entered_keys [] keys = keys
entered_keys (Enter key wires ∷ events) keys = entered_keys events (with_key keys key)
entered_keys (Fresh class n ∷ events) keys = entered_keys events keys
entered_keys (Apply gate ∷ events) keys = entered_keys events keys
entered_keys (Return key ∷ events) keys = entered_keys events keys

-- more than 65,536 distinct keys are refused, whatever fault follows
abbrev pub refusal_of : Outcome Numbers → Option ElabFault
refusal_of outcome =
    if nat_lt 65536 (length (entered_keys (events_of outcome) [])) then Some TooManyInstances else fault_of outcome

-- ---- meaning

-- the gates that stand for a gate
abbrev pub chosen : Choice → Gate → List Gate
chosen Keep g = g ∷ []
chosen Replace g = replaced g

-- the gates of events, in order
abbrev pub meaning_of : Choice → List Event → List Gate
meaning_of choice events = flat_map (chosen choice) (gates_in events)

-- the events with the gates that stand for theirs
abbrev pub chosen_events : Choice → List Event → List Event
chosen_events choice [] = []
chosen_events choice (Enter key wires ∷ events) = Enter key wires ∷ chosen_events choice events
chosen_events choice (Fresh class n ∷ events) = Fresh class n ∷ chosen_events choice events
chosen_events choice (Apply gate ∷ events) = map Apply (chosen choice gate) ++ chosen_events choice events
chosen_events choice (Return key ∷ events) = Return key ∷ chosen_events choice events

-- ---- instances

-- an entering that has not returned: its wires by the caller's numbers, its own wires in the whole run, parameters first,
-- and its items so far
pub record Open : Type 0 where
  pub wires : List Wire
  pub places : List Wire
  pub items : List Item

-- the number of a wire among others
abbrev pub number_in : List Wire → Wire → ℕ
number_in [] w = 0
number_in (p ∷ places) w = if same_wire p w then 0 else suc (number_in places w)

-- a wire of the whole run by its local number
abbrev pub local_wire : List Wire → Wire → Wire
local_wire places w = record { class = w.class; number = number_in (of_class w.class places) w }

abbrev pub places_of : List Open → List Wire
places_of [] = []
places_of (top ∷ rest) = top.places

abbrev pub items_of : List Open → List Item
items_of [] = []
items_of (top ∷ rest) = top.items

-- the innermost entering with more items and more wires
abbrev pub with_items : List Item → List Wire → List Open → List Open
with_items items fresh [] = []
with_items items fresh (top ∷ rest) = record top { places = top.places ++ fresh; items = top.items ++ items } ∷ rest

-- the items of a gate
abbrev pub gate_items : Choice → List Wire → Gate → List Item
gate_items choice places g = map item.Gate (chosen choice (rename_gate (local_wire places) g))

-- the number of a key in a deck
abbrev pub number_in_deck : List Module → Key → ℕ
number_in_deck [] key = 0
number_in_deck (m ∷ deck) key = if same_key m.key key then 0 else suc (number_in_deck deck key)

-- the deck with an entering that returned, unless its key has returned before
abbrev pub with_module : List Module → Key → List Item → List Module
with_module [] key items = record { key = key; items = items } ∷ []
with_module (m ∷ deck) key items = if same_key m.key key then m ∷ deck else m ∷ with_module deck key items

abbrev pub open_in : Key → List Wire → List Open → List Open
open_in key wires opened = record { wires = map (local_wire (places_of opened)) wires; places = wires; items = [] } ∷ opened

-- the entering is left, and its caller gets a call item
abbrev pub call_item : ℕ → List Open → List Open
call_item number [] = []
call_item number (top ∷ rest) = with_items (item.Call number top.wires ∷ []) [] rest

-- the deck that events lead to from a deck, with these enterings open and these next fresh wires
abbrev pub read : Choice → List Event → List Open → List Module → Numbers → List Module
read choice [] opened deck next = deck
read choice (Fresh class n ∷ events) opened deck next =
    read choice events (with_items (item.Fresh class n ∷ []) (wires_from class (number_of class next) n) opened) deck (with_more class n next)
read choice (Apply gate ∷ events) opened deck next =
    read choice events (with_items (gate_items choice (places_of opened) gate) [] opened) deck next
read choice (Enter key wires ∷ events) opened deck next = read choice events (open_in key wires opened) deck next
read choice (Return key ∷ events) opened deck next =
    let deck' : List Module = with_module deck key (items_of opened) in
    read choice events (call_item (number_in_deck deck' key) opened) deck' next

-- what stands outside of main
abbrev pub outside : Open
outside = record { wires = []; places = []; items = [] }

-- the distinct keys of the returns in order of first return, each with the items of that entering
abbrev pub instances_of : Choice → List Event → List Module
instances_of choice events = read choice events (outside ∷ []) [] no_wires
