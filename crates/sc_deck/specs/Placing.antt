-- The wires of an unfolding on other wires than the first numbers.
use Rattle.std.specs.Prelude.{◌≡◌, ℕ, zero, suc, ◌+◌, ◌-◌, ◌<◌, ◌≤◌, ◌⊎◌, Contains, List, [], ◌++◌, map, length, slice_index_or}
use Rattle.std.specs.List.{AllByRecursion}
use Rattle.sc_base.specs.declared.names.Class.{Class}
use Rattle.sc_gate.specs.declared.gate.Wire.{Wire}
use Rattle.sc_gate.specs.declared.gate.Gate.{Gate}
use Rattle.sc_gate.specs.Gates.{operands}
use Rattle.sc_deck.specs.Events.{Event, after_events, rename_event}
use Rattle.sc_gate.specs.Numbers.{Numbers, number_of}
use Rattle.sc_deck.specs.Unfolding.{of_class}

-- the wire of this class that is as far behind the one number as w is behind the other
abbrev pub shifted : ℕ → ℕ → Wire → Wire
shifted from to w = record { class = w.class; number = to + (w.number - from) }

-- THE CANONICAL PLACING of the wires of an expansion: its parameters, which have the first numbers, stand for these wires,
-- and its fresh wires for those from the next numbers on.
abbrev pub put : List Wire → Numbers → Wire → Wire
put wires next w = slice_index_or (of_class w.class wires) w.number (shifted (length (of_class w.class wires)) (number_of w.class next) w)

-- events n times, each time with fresh wires of its own
abbrev pub copies : ℕ → List Wire → List Event → Numbers → List Event
copies zero wires events next = []
copies (suc n) wires events next = map (rename_event (put wires next)) events ++ copies n wires events (after_events next events)

-- so many wires of each class
pub record Sized (places : List Wire) (numbers : Numbers) : Type 0 where
  pub count : (class : Class) → length (of_class class places) ≡ number_of class numbers

-- P holds of each operand of each gate
abbrev pub GatesOn : (Wire → Type 0) → List Gate → Type 0
GatesOn P gates = AllByRecursion (λ g. AllByRecursion P (operands g)) gates

-- P holds of each wire from the one number of its class on and below the other
abbrev pub Fills : (Wire → Type 0) → Numbers → Numbers → Type 0
Fills P from to = (class : Class) (k : ℕ) → number_of class from ≤ k → k < number_of class to → P (record { class = class; number = k })

-- one of these wires, or a fresh one from the one number of its class on and below the other
abbrev pub IsPassedOrFresh : List Wire → Numbers → Numbers → Wire → Type 0
IsPassedOrFresh wires next after w = Contains wires w ⊎ ((number_of w.class next ≤ w.number) × (w.number < number_of w.class after))
