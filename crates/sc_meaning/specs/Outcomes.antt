-- What a part of a run does: its events, and what it leaves or its fault.
use Rattle.std.specs.Prelude.{List, [], ◌++◌, Option, Some, None, Result, Ok, Err}
use Rattle.sc_deck.specs.Events.{Event}
use Rattle.sc_meaning.specs.declared.fault.ElabFault.{ElabFault}

-- a part of a run that is done, with what it leaves, or that stopped at its first fault
pub data Outcome (A : Type 0) : Type 0 where
  Done : (events : List Event) (left : A) → Outcome A
  Stopped : (events : List Event) (fault : ElabFault) → Outcome A

-- the same after earlier events
abbrev pub after : {A : Type 0} → List Event → Outcome A → Outcome A
after events (Done more a) = Done (events ++ more) a
after events (Stopped more fault) = Stopped (events ++ more) fault

-- goes on from where a part is done
abbrev pub then_do : {A B : Type 0} → Outcome A → (A → Outcome B) → Outcome B
then_do (Done events a) go = after events (go a)
then_do (Stopped events fault) go = Stopped events fault

-- goes on with a value, or stops at its fault
abbrev pub given : {A B : Type 0} → Result A ElabFault → (A → Outcome B) → Outcome B
given (Ok a) go = go a
given (Err fault) go = Stopped [] fault

-- the same events, leaving something else
abbrev pub leaving : {A B : Type 0} → (A → B) → Outcome A → Outcome B
leaving f (Done events a) = Done events (f a)
leaving f (Stopped events fault) = Stopped events fault

abbrev pub events_of : {A : Type 0} → Outcome A → List Event
events_of (Done events a) = events
events_of (Stopped events fault) = events

abbrev pub fault_of : {A : Type 0} → Outcome A → Option ElabFault
fault_of (Done events a) = None
fault_of (Stopped events fault) = Some fault
