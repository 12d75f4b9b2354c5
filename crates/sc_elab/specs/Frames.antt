-- What the elaborator's functions promise of their frames.
use Rattle.std.specs.Prelude.{◌≡◌, ℕ, nat_lt, false, List, ◌∷◌, length, map, reverse, Option, Ok, Err}
use Rattle.sc_gate.specs.declared.gate.Wire.{Wire}
use Rattle.sc_gate.specs.Numbers.{both}
use Rattle.sc_deck.specs.declared.Key.{Key}
use Rattle.sc_deck.specs.declared.Item.{Item}
use Rattle.sc_deck.specs.Bodies.{wires_of}
use Rattle.sc_deck.specs.Modules.{Module}
use Rattle.sc_meaning.specs.declared.choice.Choice.{Choice}
use Rattle.sc_meaning.specs.declared.fault.ElabFault.{ElabFault}
use Rattle.sc_elab.specs.declared.frame.Frame.{Frame}
use Rattle.sc_elab.specs.declared.span.Span.{Span}
use Rattle.sc_elab.specs.declared.todo.Todo.{Todo}
use Rattle.sc_elab.specs.declared.todo.Request.{Request}
use Rattle.sc_meaning.specs.Outcomes.{Outcome, then_do}
use Rattle.sc_meaning.specs.Definitions.{Program}
use Rattle.sc_meaning.specs.Run.{Callee}
use Rattle.sc_meaning.specs.States.{State, Wired}
use Rattle.sc_elab.specs.Folding.{written}
use Rattle.sc_elab.specs.Spans.{span_wires}
use Rattle.sc_meaning.specs.Local.{Half, Made, ran}
use Rattle.sc_elab.specs.Pending.{pending, after_asked}

-- the names of one scope, each with its wires
abbrev pub spread : List (List ℕ × Span) → Wired
spread scope = map (λ entry. (entry.0, span_wires entry.1)) scope

-- the names of wires of a body, scope by scope, the innermost first
abbrev pub names_of : Frame → List Wired
names_of f = map spread (reverse f.wires.items)

-- the state of a body, in its own wire numbers
abbrev pub view : Frame → State
view f = record {
  numbers = f.numbers;
  wires = names_of f;
  next = wires_of f.body;
  steps = f.steps;
  width = both (wires_of f.body);
}

-- what has been made while a body that stands for these items is open, entered with these wires inside of the others
abbrev pub made : List Wire → List Item → List Half → List Module → List Key → Made
made ws items rest deck keys = record { opened = record { wires = ws; items = items } ∷ rest; deck = deck; keys = keys }

-- P of all that may have been made around these items
abbrev pub Everywhere : List Item → List Item → (Made → Made → Type 0) → Type 0
Everywhere items items' P =
    (ws : List Wire) (rest : List Half) (deck : List Module) (keys : List Key) → nat_lt 65536 (length keys) ≡ false →
    P (made ws items rest deck keys) (made ws items' rest deck keys)

-- the code does what a part without calls does
abbrev pub Runs : Choice → Outcome State → Frame → Frame → Type 0
Runs choice outcome f f' =
    Everywhere (written f.body.items) (written f'.body.items) (λ m m'. ran choice m outcome ≡ Ok (view f', m'))

-- a part without calls is refused
abbrev pub IsRefused : Choice → Outcome State → Frame → ElabFault → Type 0
IsRefused choice outcome f fault = Everywhere (written f.body.items) (written f.body.items) (λ m m'. ran choice m outcome ≡ Err fault)

-- a part was done as far as it goes without a call
abbrev pub Advanced : Program → Choice → (Callee → State → Outcome State) → Frame → List Todo → Option Request → Frame → List Todo → Type 0
Advanced program choice part f todo r f' todo' =
    (call : Callee) (go : State → Outcome State) →
    Everywhere (written f.body.items) (written f'.body.items) (λ m m'.
    ran choice m (then_do (part call (view f)) (pending program call todo go)) ≡ ran choice m' (after_asked call r (pending program call todo' go) (view f')))

-- a part is refused before it comes to a call
abbrev pub StopsAt : Choice → (Callee → State → Outcome State) → Frame → ElabFault → Type 0
StopsAt choice part f fault = (call : Callee) → IsRefused choice (part call (view f)) f fault
