-- A walk over a deck: what it still has to unfold, and how it goes on.
use Rattle.std.specs.Prelude.{ℕ, ◌+◌, ◌-◌, ◌*◌, nat_eq, List, [], ◌∷◌, ◌++◌, map, take, drop, length, slice_get, if◌then◌else◌}
use Rattle.std.specs.Option.{option_map_or}
use Rattle.sc_base.specs.declared.names.Class.{Class}
use Rattle.sc_gate.specs.declared.gate.Wire.{Wire}
use Rattle.sc_gate.specs.Numbers.{Numbers, number_of, with_more}
use Rattle.sc_deck.specs.declared.item.Item.{Item}
use Rattle.sc_deck.specs.declared.item.Item.TheVariants as item
use Rattle.sc_deck.specs.declared.key.Key.{Key}
use Rattle.sc_deck.specs.Events.{Event, Return, after_events}
use Rattle.sc_deck.specs.Keys.{main_key}
use Rattle.sc_deck.specs.Modules.{Module, key_of}
use Rattle.sc_deck.specs.Unfolding.{Unfolding, unfold_items, unfoldings, placed}
use Rattle.sc_flat.specs.declared.frames.Frame.{Frame}
use Rattle.sc_flat.specs.declared.size.Size.{Size}
use Rattle.sc_flat.specs.declared.walk.Walk.{Walk}
use Rattle.sc_flat.specs.Frames.{with_numbers, with_wires, numbers_from, wires_in}

-- the items of a module, and none where there is no such module
abbrev pub items_at : List Module → ℕ → List Item
items_at modules i = option_map_or (λ (m : Module). m.items) (slice_get modules i) []

abbrev pub key_at : List Module → ℕ → Key
key_at modules i = option_map_or key_of (slice_get modules i) main_key

-- an item of which so many turns are done
abbrev pub less_turns : ℕ → Item → Item
less_turns done (item.Fresh class n) = item.Fresh class n
less_turns done (item.Gate gate) = item.Gate gate
less_turns done (item.Call callee wires) = item.Call callee wires
less_turns done (item.Gates gate turns) = item.Gates gate (turns - done)
less_turns done (item.Calls callee wires turns) = item.Calls callee wires (turns - done)

-- the same for the first of some items
abbrev pub less : ℕ → List Item → List Item
less done [] = []
less done (i ∷ items) = less_turns done i ∷ items

-- a body that is open: its key, the items that are left of it, and its wires so far
pub record Open : Type 0 where
  pub key : Key
  pub left : List Item
  pub places : List Wire

-- the events that are left of open bodies, the innermost first
abbrev pub rest_of : List Unfolding → List Open → Numbers → List Event
rest_of us [] next = []
rest_of us (o ∷ os) next =
    let events : List Event = unfold_items us o.left o.places next in
    events ++ (Return o.key ∷ rest_of us os (after_events next events))

-- the open body of a frame with these wires
abbrev pub open_of : List Module → Frame → List ℕ → List ℕ → Open
open_of modules f qubits cbits = record { key = key_at modules f.body; left = less f.done (drop f.item (items_at modules f.body)); places = wires_in qubits cbits }

-- the open bodies of frames, the innermost first, which hold these wires
abbrev pub opens : List Module → List Frame → List ℕ → List ℕ → List Open
opens modules [] qubits cbits = []
opens modules (f ∷ frames) qubits cbits =
    open_of modules f (drop f.qubits qubits) (drop f.cbits cbits) ∷ opens modules frames (take f.qubits qubits) (take f.cbits cbits)

-- the next fresh numbers
abbrev pub numbers : Walk → Numbers
numbers w = record { qubits = w.next_qubit; cbits = w.next_cbit }

-- THE EVENTS THAT ARE LEFT
abbrev pub rest : List Module → Walk → List Event
rest modules w = rest_of (unfoldings modules) (opens modules (w.top ∷ w.below.frames) w.wires.qubits w.wires.cbits) (numbers w)

-- the wires of the innermost body, by class
abbrev pub own_qubits : Walk → List ℕ
own_qubits w = drop w.top.qubits w.wires.qubits

abbrev pub own_cbits : Walk → List ℕ
own_cbits w = drop w.top.cbits w.wires.cbits

abbrev pub places_of : Walk → List Wire
places_of w = wires_in (own_qubits w) (own_cbits w)

-- at the next item
abbrev pub passed : Frame → Frame
passed f = record { body = f.body; item = f.item + 1; done = 0; qubits = f.qubits; cbits = f.cbits }

-- with one turn more of so many
abbrev pub turned : ℕ → Frame → Frame
turned turns f = record {
  body = f.body;
  item = (if nat_eq (f.done + 1) turns then f.item + 1 else f.item);
  done = (if nat_eq (f.done + 1) turns then 0 else f.done + 1);
  qubits = f.qubits;
  cbits = f.cbits;
}

abbrev pub with_turn : ℕ → Walk → Walk
with_turn turns w = record w { top = turned turns w.top }

-- fresh numbers taken, and the item passed
abbrev pub past : Numbers → Walk → Walk
past next w = record w { top = passed w.top; next_qubit = next.qubits; next_cbit = next.cbits }

-- fresh wires of a class
abbrev pub with_fresh : Class → ℕ → Walk → Walk
with_fresh class n w =
    record (past (with_more class n (numbers w)) w) { wires = with_numbers class (numbers_from (number_of class (numbers w)) n) w.wires }

-- past the turns of a call that are left, each of this size
abbrev pub without_turns : ℕ → Size → Walk → Walk
without_turns turns size w =
    past (record { qubits = w.next_qubit + (turns - w.top.done) * size.qubits; cbits = w.next_cbit + (turns - w.top.done) * size.cbits }) w

-- inside the callee of a call
abbrev pub inside : ℕ → List Wire → ℕ → Walk → Walk
inside callee wires turns w = record {
  top = record { body = callee; item = 0; done = 0; qubits = length w.wires.qubits; cbits = length w.wires.cbits };
  below = record w.below { frames = turned turns w.top ∷ w.below.frames };
  wires = with_wires (map (placed (places_of w)) wires) w.wires;
  next_qubit = w.next_qubit;
  next_cbit = w.next_cbit;
}

-- back in the body outside of the innermost one
abbrev pub outside : Frame → List Frame → Walk → Walk
outside f frames w = record w {
  top = f;
  below = record w.below { frames = frames };
  wires = record w.wires { qubits = take w.top.qubits w.wires.qubits; cbits = take w.top.cbits w.wires.cbits };
}

-- at the front of a body without parameters
abbrev pub begun : ℕ → Walk → Walk
begun body w = record {
  top = record { body = body; item = 0; done = 0; qubits = 0; cbits = 0 };
  below = record w.below { frames = [] };
  wires = record w.wires { qubits = []; cbits = [] };
  next_qubit = 0;
  next_cbit = 0;
}
