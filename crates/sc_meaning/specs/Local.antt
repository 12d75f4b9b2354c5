-- The same run, where each body numbers its own wires from 0, and what its events make: items, a deck and keys.
-- An entering runs alike wherever it is called, so this is what is kept of it.
use Rattle.std.specs.Prelude.{ℕ, zero, suc, nat_lt, List, [], ◌∷◌, ◌++◌, map, length, Result, Ok, Err, if◌then◌else◌}
use Rattle.sc_gate.specs.declared.gate.Wire.{Wire}
use Rattle.sc_gate.specs.Numbers.{Numbers, no_wires}
use Rattle.sc_deck.specs.declared.Key.{Key}
use Rattle.sc_deck.specs.declared.Item.{Item}
use Rattle.sc_deck.specs.declared.Item.TheVariants as item
use Rattle.sc_deck.specs.Events.{Event, Enter, Fresh, Apply, Return}
use Rattle.sc_deck.specs.Keys.{param_classes, params_of}
use Rattle.sc_deck.specs.Modules.{Module}
use Rattle.sc_deck.specs.Unfolding.{numbered}
use Rattle.sc_meaning.specs.declared.choice.Choice.{Choice}
use Rattle.sc_meaning.specs.declared.fault.ElabFault.{ElabFault}
use Rattle.sc_meaning.specs.declared.fault.ElabFault.TheVariants.{TooDeep, TooManyInstances}
use Rattle.sc_meaning.specs.Definitions.{Program, definition}
use Rattle.sc_meaning.specs.Outcomes.{Outcome, Done, Stopped, leaving}
use Rattle.sc_meaning.specs.Run.{Callee, body, entered}
use Rattle.sc_meaning.specs.Instances.{chosen, with_key, with_module, number_in_deck}

-- the body of a key: its numbers and its wires are those that the key says
abbrev pub local_body : Program → Callee → Key → Outcome Numbers
local_body program call key =
    body program call (definition program key.name) key.args (numbered (param_classes key) no_wires) (params_of key)

-- the caller's numbers go on where they were
unfoldable pub local : Program → ℕ → Callee
local program zero key wires next = Stopped [] TooDeep
local program (suc n) key wires next = leaving (λ own. next) (entered key wires (local_body program (local program n) key))

-- an entering that has not returned: its wires in the caller, and its items so far
pub record Half : Type 0 where
  pub wires : List Wire
  pub items : List Item

-- what a run has made: the open enterings, the innermost first, the deck, and the keys that were entered
pub record Made : Type 0 where
  pub opened : List Half
  pub deck : List Module
  pub keys : List Key

-- before anything is made
abbrev pub nothing : Made
nothing = record { opened = []; deck = []; keys = [] }

-- the innermost entering with more items
abbrev pub with_half : List Item → List Half → List Half
with_half items [] = []
with_half items (top ∷ rest) = record top { items = top.items ++ items } ∷ rest

abbrev pub half_items : List Half → List Item
half_items [] = []
half_items (top ∷ rest) = top.items

-- the innermost entering is left, and its caller gets a call item
abbrev pub half_back : ℕ → List Half → List Half
half_back number [] = []
half_back number (top ∷ rest) = with_half (item.Call number top.wires ∷ []) rest

abbrev pub with_items : List Item → Made → Made
with_items items m = record m { opened = with_half items m.opened }

abbrev pub with_entry : Key → List Wire → Made → Made
with_entry key wires m = record { opened = record { wires = wires; items = [] } ∷ m.opened; deck = m.deck; keys = with_key m.keys key }

abbrev pub with_return : Key → List Module → Made → Made
with_return key deck m = record { opened = half_back (number_in_deck deck key) m.opened; deck = deck; keys = m.keys }

-- what one event makes
abbrev pub make_one : Choice → Event → Made → Made
make_one choice (Fresh class n) m = with_items (item.Fresh class n ∷ []) m
make_one choice (Apply gate) m = with_items (map item.Gate (chosen choice gate)) m
make_one choice (Enter key wires) m = with_entry key wires m
make_one choice (Return key) m = with_return key (with_module m.deck key (half_items m.opened)) m

-- what events make, in order
abbrev pub make : Choice → List Event → Made → Made
make choice [] m = m
make choice (e ∷ events) m = make choice events (make_one choice e m)

-- the answer, unless more than 65,536 keys were entered
abbrev pub unless_many : {A : Type 0} → Made → Result A ElabFault → Result A ElabFault
unless_many m answer = if nat_lt 65536 (length m.keys) then Err TooManyInstances else answer

-- what a part of a run answers: what it leaves and what it has made, or why it is refused
abbrev pub ran : {A : Type 0} → Choice → Made → Outcome A → Result (A × Made) ElabFault
ran choice m (Done events a) = let m' : Made = make choice events m in unless_many m' (Ok (a, m'))
ran choice m (Stopped events fault) = unless_many (make choice events m) (Err fault)
