-- Which row of a body a local wire has, and which wires of the expansion the rows stand for.
use Rattle.std.specs.Prelude.{ℕ, ◌+◌, List, ◌++◌, map, take}
use Rattle.sc_base.specs.declared.names.Class.{Class}
use Rattle.sc_base.specs.declared.names.Class.TheVariants.{Q, C}
use Rattle.sc_gate.specs.declared.gate.Wire.{Wire}
use Rattle.sc_gate.specs.Chains.{Timed, timed}
use Rattle.sc_deck.specs.declared.item.Item.{Item}
use Rattle.sc_deck.specs.declared.key.Key.{Key}
use Rattle.sc_deck.specs.Bodies.{Contents, wires_of}
use Rattle.sc_deck.specs.Events.{Event, gates_in}
use Rattle.sc_deck.specs.Keys.{param_classes, params_of}
use Rattle.sc_deck.specs.Modules.{Module}
use Rattle.sc_deck.specs.Unfolding.{Unfolding, unfoldings, unfold_items, places_after, placed, of_class, numbered}
use Rattle.sc_gate.specs.Numbers.{no_wires}
use Rattle.sc_path.specs.declared.row.Entry.{Entry}
use Rattle.sc_path.specs.declared.fault.PathFault.{PathFault}
use Rattle.sc_path.specs.declared.table.Table.{Table}
use Rattle.sc_path.specs.Tables.{param, Extends, StandsFor, WhyAdded}
use Rattle.sc_path.specs.Fronts.{Sites, Stands}

-- qubits come first, then classical bits
abbrev pub row_in : Class → ℕ → ℕ → ℕ
row_in Q qubits n = n
row_in C qubits n = qubits + n

abbrev pub row_number : ℕ → Wire → ℕ
row_number qubits w = row_in w.class qubits w.number

-- the rows of a call's wires, as the callee's table has its parameters
abbrev pub rows_for : ℕ → List Wire → List ℕ
rows_for qubits wires = map (row_number qubits) (of_class Q wires) ++ map (row_number qubits) (of_class C wires)

-- the parameter wires of an expansion
abbrev pub start_places : Key → List Wire
start_places key = numbered (param_classes key) no_wires

abbrev pub events_of : List Unfolding → Key → List Item → List Event
events_of us key items = unfold_items us items (start_places key) (params_of key)

-- what chains see of the gates of the first items
abbrev pub gates_before : List ℕ → List Unfolding → Key → List Item → ℕ → List Timed
gates_before times us key items n = map (timed times) (gates_in (events_of us key (take n items)))

-- a row stands for the wire on which its local wire is put, and a start for its parameter wire
abbrev pub body_sites : List Unfolding → Key → List Item → Sites
body_sites us key items = record {
  at = λ w. placed (places_after us items (start_places key) (params_of key)) (param (wires_of (record { params = params_of key; items = items })).qubits w);
  start = param (params_of key).qubits;
}

-- THE ROWS are those of the first items of a body, in every deck of which these are the tables
abbrev pub StandsAt : List Table → List ℕ → Contents → ℕ → List (List Entry) → List ℕ → Type 0
StandsAt tables times body n rows last =
    (modules : List Module) (key : Key) → Extends modules key body → StandsFor tables times modules →
    Stands (gates_before times (unfoldings modules) key body.items n) (body_sites (unfoldings modules) key body.items) rows last

-- why an item is refused: a chain of the body is too heavy
abbrev pub WhyItem : List Table → List ℕ → Contents → ℕ → List (List Entry) → List ℕ → PathFault → Type 0
WhyItem tables times body n rows last fault = StandsAt tables times body n rows last → WhyAdded tables times body fault
