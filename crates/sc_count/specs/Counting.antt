-- What is counted of a list of events.
use Rattle.std.specs.Prelude.{ℕ, ◌+◌, List, [], ◌∷◌, map, length, count_by, nat_eq, Bool}
use Rattle.sc_base.specs.declared.names.Class.{Class}
use Rattle.sc_base.specs.declared.names.Class.TheVariants.{Q, C}
use Rattle.sc_base.specs.declared.names.GateName.{GateName}
use Rattle.sc_base.specs.GateNames.{place_of, all_names}
use Rattle.sc_gate.specs.declared.gate.Gate.{Gate}
use Rattle.sc_gate.specs.Chains.{timed, total_weight}
use Rattle.sc_gate.specs.Gates.{name_of}
use Rattle.sc_deck.specs.Events.{Event, Enter, Fresh, Apply, Return, gates_in, fresh_in}
use Rattle.sc_deck.specs.Modules.{greatest}
use Rattle.sc_count.specs.declared.counts.Counts.{Counts}

abbrev pub is_named : GateName → Gate → Bool
is_named name gate = nat_eq (place_of name) (place_of (name_of gate.kind))

-- how many of the gates have this name
abbrev pub number_named : List Gate → GateName → ℕ
number_named gates name = count_by (is_named name) gates

-- the number of gates of each name, in the order of names
abbrev pub kinds_of : List Gate → List ℕ
kinds_of gates = map (number_named gates) all_names

-- fresh qubits more for the entering that was last. Fresh wires outside of every entering belong to none.
abbrev pub with_own : Class → ℕ → List ℕ → List ℕ
with_own Q n [] = []
with_own Q n (own ∷ entered) = (own + n) ∷ entered
with_own C n entered = entered

-- without the entering that was last
abbrev pub without_last : List ℕ → List ℕ
without_last [] = []
without_last (own ∷ entered) = entered

-- The fresh qubits of each entering that has not returned, the last one first, after an event.
abbrev pub opened : Event → List ℕ → List ℕ
opened (Enter key wires) entered = 0 ∷ entered
opened (Fresh class n) entered = with_own class n entered
opened (Apply gate) entered = entered
opened (Return key) entered = without_last entered

abbrev pub opened_after : List ℕ → List Event → List ℕ
opened_after entered [] = entered
opened_after entered (e ∷ events) = opened_after (opened e entered) events

-- live qubits: the fresh qubits of the enterings that have not returned
abbrev pub live : List ℕ → ℕ
live [] = 0
live (own ∷ entered) = own + live entered

-- the live qubits at each place of a list of events, before its first event and after each
abbrev pub lives : List ℕ → List Event → List ℕ
lives entered [] = live entered ∷ []
lives entered (e ∷ events) = live entered ∷ lives (opened e entered) events

-- the greatest number of live qubits at a place of the list
abbrev pub peak_of : List Event → ℕ
peak_of events = greatest (lives [] events)

-- THE COUNTS of a list of events, in unbounded numbers
abbrev pub counts_in : List ℕ → List Event → Counts
counts_in times events = record {
  kinds = kinds_of (gates_in events);
  gates = length (gates_in events);
  weight = total_weight (map (timed times) (gates_in events));
  qubits = (fresh_in events).qubits;
  cbits = (fresh_in events).cbits;
  peak = peak_of events;
}
