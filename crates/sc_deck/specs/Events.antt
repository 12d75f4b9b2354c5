-- What happens in a run, in order: enterings of instances, fresh wires, gates and returns. Wires are those of the whole run.
use Rattle.std.specs.Prelude.{ℕ, List, [], ◌∷◌, map}
use Rattle.sc_base.specs.declared.names.Class.{Class}
use Rattle.sc_gate.specs.declared.gate.Wire.{Wire}
use Rattle.sc_gate.specs.declared.gate.Gate.{Gate}
use Rattle.sc_gate.specs.Lines.{flat_text}
use Rattle.sc_gate.specs.Renaming.{rename_gate}
use Rattle.sc_deck.specs.declared.key.Key.{Key}
use Rattle.sc_gate.specs.Numbers.{Numbers, with_more, no_wires}

pub data Event : Type 0 where
  -- an instance is entered, on these wires as its parameters
  Enter : (key : Key) (wires : List Wire) → Event
  -- so many wires of a class are made
  Fresh : (class : Class) (n : ℕ) → Event
  Apply : (gate : Gate) → Event
  Return : (key : Key) → Event

-- the gates of events, in order
abbrev pub gates_in : List Event → List Gate
gates_in [] = []
gates_in (Enter key wires ∷ events) = gates_in events
gates_in (Fresh class n ∷ events) = gates_in events
gates_in (Apply gate ∷ events) = gate ∷ gates_in events
gates_in (Return key ∷ events) = gates_in events

-- the next fresh numbers after events, given those before
abbrev pub after_events : Numbers → List Event → Numbers
after_events next [] = next
after_events next (Enter key wires ∷ events) = after_events next events
after_events next (Fresh class n ∷ events) = after_events (with_more class n next) events
after_events next (Apply gate ∷ events) = after_events next events
after_events next (Return key ∷ events) = after_events next events

-- the sums of the fresh wires
abbrev pub fresh_in : List Event → Numbers
fresh_in events = after_events no_wires events

-- the flat text of the gates, with the sums of the fresh wires
abbrev pub flat : List Event → List ℕ
flat events = flat_text (fresh_in events).qubits (fresh_in events).cbits (gates_in events)

-- an event with its wires renamed
abbrev pub rename_event : (Wire → Wire) → Event → Event
rename_event f (Enter key wires) = Enter key (map f wires)
rename_event f (Fresh class n) = Fresh class n
rename_event f (Apply gate) = Apply (rename_gate f gate)
rename_event f (Return key) = Return key
