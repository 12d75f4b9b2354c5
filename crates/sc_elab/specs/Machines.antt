-- What the elaborator's functions promise of what is kept between bodies.
use Rattle.std.specs.Prelude.{◌≡◌, ℕ, ◌<◌, ◌≤◌, List, [], ◌∷◌, ◌++◌, length, slice_get, slice_index, Some, Ok, Err, All}
use Rattle.sc_gate.specs.declared.gate.Wire.{Wire}
use Rattle.sc_gate.specs.Numbers.{Numbers}
use Rattle.sc_deck.specs.declared.Key.{Key}
use Rattle.sc_deck.specs.declared.Item.{Item}
use Rattle.sc_deck.specs.declared.Item.TheVariants as item
use Rattle.sc_deck.specs.Modules.{Module, heights_of}
use Rattle.sc_types.specs.Typing.{TypedSource}
use Rattle.sc_meaning.specs.declared.choice.Choice.{Choice}
use Rattle.sc_meaning.specs.declared.fault.ElabFault.{ElabFault}
use Rattle.sc_meaning.specs.declared.fault.ElabFault.TheVariants.{TooManyInstances}
use Rattle.sc_elab.specs.declared.frame.Frame.{Frame}
use Rattle.sc_elab.specs.declared.machine.Machine.{Machine}
use Rattle.sc_elab.specs.Folding.{written, written_modules, AreFolded}
use Rattle.sc_elab.specs.Frames.{view, made}
use Rattle.sc_elab.specs.Typings.{IsEntering}
use Rattle.sc_meaning.specs.Definitions.{Program}
use Rattle.sc_meaning.specs.Instances.{with_key}
use Rattle.sc_meaning.specs.Kept.{Held}
use Rattle.sc_meaning.specs.Local.{Half, Made, with_half, ran}
use Rattle.sc_meaning.specs.Outcomes.{Outcome}
use Rattle.sc_meaning.specs.Programs.{program_of}
use Rattle.sc_meaning.specs.States.{State}

-- a key is one too many
pub record IsEntered (keys : List Key) (key : Key) (fault : ElabFault) : Type 0 where
  pub fault_is : fault ≡ TooManyInstances
  pub many : 65536 < length (with_key keys key)

-- what has been made, while these enterings are open
abbrev pub kept : List Half → Machine → Made
kept opened m = record { opened = opened; deck = written_modules m.deck; keys = m.entered.keys }

-- a call was made: its caller gets a call item of this number
abbrev pub IsCalled : Choice → (List Wire → Numbers → Outcome Numbers) → Machine → ℕ → Machine → Type 0
IsCalled choice call m number m' =
    (wires : List Wire) (next : Numbers) (opened : List Half) →
    ran choice (kept opened m) (call wires next) ≡ Ok (next, kept (with_half (item.Call number wires ∷ []) opened) m')

-- a call is refused
abbrev pub IsRefusedCall : Choice → (List Wire → Numbers → Outcome Numbers) → Machine → ElabFault → Type 0
IsRefusedCall choice call m fault =
    (wires : List Wire) (next : Numbers) (opened : List Half) → ran choice (kept opened m) (call wires next) ≡ Err fault

-- what is made around a body, its calls included
abbrev pub around : List Wire → List Half → Machine → Frame → Made
around ws rest m f = made ws (written f.body.items) rest (written_modules m.deck) m.entered.keys

-- the code does what a part with calls does
abbrev pub RunsOn : Choice → Outcome State → Machine → Frame → Machine → Frame → Type 0
RunsOn choice outcome m f m' f' =
    (ws : List Wire) (rest : List Half) → ran choice (around ws rest m f) outcome ≡ Ok (view f', around ws rest m' f')

-- a part with calls is refused
abbrev pub IsRefusedOn : Choice → Outcome State → Machine → Frame → ElabFault → Type 0
IsRefusedOn choice outcome m f fault = (ws : List Wire) (rest : List Half) → ran choice (around ws rest m f) outcome ≡ Err fault

-- the body of a key has these items, wherever it is entered
pub record RunsBody (choice : Choice) (outcome : Outcome Numbers) (m : Machine) (items : List Item) (m' : Machine) : Type 0 where
  pub own : Numbers
  pub runs : (wires : List Wire) (opened : List Half) → ran choice (made wires [] opened (written_modules m.deck) m.entered.keys) outcome ≡ Ok (own, made wires (written items) opened (written_modules m'.deck) m'.entered.keys)

-- it is refused
abbrev pub IsRefusedBody : Choice → Outcome Numbers → Machine → ElabFault → Type 0
IsRefusedBody choice outcome m fault = (wires : List Wire) (opened : List Half) → ran choice (made wires [] opened (written_modules m.deck) m.entered.keys) outcome ≡ Err fault

-- ---- bodies that are kept

-- the height of each body of a deck is the least depth at which its key returns, and all that it enters was entered and has returned
abbrev pub AreHeld : Program → List Module → List Key → Type 0
AreHeld program deck keys = (i : ℕ) (m : Module) → slice_get deck i ≡ Some m → Held program deck keys m.key (slice_index (heights_of deck) i)

-- what is known of the bodies that have returned, and of the keys that were entered
pub record KeepsBodies (t : TypedSource) (m : Machine) : Type 0 where
  pub few : length m.entered.keys ≤ 65536
  pub folded : AreFolded m.deck
  -- a checked source enters their keys
  pub entering : All (λ b. IsEntering t b.key) m.deck
  pub held : AreHeld (program_of t) (written_modules m.deck) m.entered.keys

-- a deck with further bodies behind it
pub record GrowsTo (deck deck' : List Module) : Type 0 where
  pub more : List Module
  pub is : deck' ≡ deck ++ more
