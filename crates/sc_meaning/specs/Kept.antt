-- A body that is kept, with the least depth at which its key returns, in place of another entering of that key.
use Rattle.std.specs.Prelude.{◌≡◌, ℕ, suc, ◌<◌, ◌≤◌, true, Option, Some, None, Ok, Err, List, [], ◌∷◌, length, flat_map, sum, replicate}
use Rattle.std.specs.List.{list_any}
use Rattle.sc_base.specs.declared.Class.TheVariants.{Q}
use Rattle.sc_gate.specs.declared.gate.Wire.{Wire}
use Rattle.sc_gate.specs.Numbers.{Numbers}
use Rattle.sc_deck.specs.declared.Arg.{Arg}
use Rattle.sc_deck.specs.declared.Arg.TheVariants as arg
use Rattle.sc_deck.specs.declared.Key.{Key}
use Rattle.sc_deck.specs.declared.Item.TheVariants as item
use Rattle.sc_deck.specs.Events.{Event, Enter, Fresh, Apply, Return}
use Rattle.sc_deck.specs.Keys.{same_key, arg_classes}
use Rattle.sc_deck.specs.Modules.{Module}
use Rattle.sc_types.specs.Typing.{TypedSource, IsChecked}
use Rattle.sc_value.specs.declared.Value.{Value}
use Rattle.sc_meaning.specs.declared.choice.Choice.{Choice}
use Rattle.sc_meaning.specs.declared.fault.ElabFault.TheVariants.{TooDeep}
use Rattle.sc_meaning.specs.declared.want.Want.{Want}
use Rattle.sc_meaning.specs.declared.want.Want.TheVariants as want
use Rattle.sc_meaning.specs.Arguments.{number_arg, wants_of}
use Rattle.sc_meaning.specs.Definitions.{Definition, of_module, of_function, Program, definition}
use Rattle.sc_meaning.specs.Instances.{number_in_deck}
use Rattle.sc_meaning.specs.Local.{local_body, local, Half, Made, with_half, ran}
use Rattle.sc_meaning.specs.Outcomes.{Done, Stopped}
use Rattle.sc_meaning.specs.Programs.{program_of}

-- ---- what a key takes

-- an argument is what is wanted
abbrev pub IsArgOf : Want → Arg → Type 0
IsArgOf (want.One c) a = a ≡ arg.One c
IsArgOf (want.Many c) a = (n : ℕ) × (a ≡ arg.Many c n)
IsArgOf (want.Number sort) a = (x : Value) × (a ≡ number_arg x)

abbrev pub AreArgsOf : List Want → List Arg → Type 0
AreArgsOf [] [] = Unit {0}
AreArgsOf (t ∷ ts) (a ∷ args) = IsArgOf t a × AreArgsOf ts args
AreArgsOf _ _ = ⊥

-- a key has what its definition takes
abbrev pub FitsBy : Option Definition → List Arg → Type 0
FitsBy None args = Unit {0}
FitsBy (Some (of_module name params stmts)) args = AreArgsOf (wants_of (of_module name params stmts)) args
FitsBy (Some (of_function name f)) args = flat_map arg_classes args ≡ replicate (sum f.widths) Q

-- ---- what is known of keys

-- the key has returned
abbrev pub In : List Module → Key → Type 0
In deck key = number_in_deck deck key < length deck

-- it was entered
abbrev pub Seen : List Key → Key → Type 0
Seen keys key = list_any (same_key key) keys ≡ true

-- a fact of each key that is entered or returns
abbrev pub Each : (Key → Type 0) → List Event → Type 0
Each P [] = Unit {0}
Each P (Enter key wires ∷ es) = P key × Each P es
Each P (Return key ∷ es) = P key × Each P es
Each P (Fresh c n ∷ es) = Each P es
Each P (Apply g ∷ es) = Each P es

-- the body of a key is done, where calls may go this many bodies deeper
pub record Ends (program : Program) (n : ℕ) (key : Key) : Type 0 where
  pub events : List Event
  pub own : Numbers
  pub is : local_body program (local program n) key ≡ Done events own

-- what is known of a kept body: the least depth at which its key returns, and that all that it enters was entered and has returned
pub record Held (program : Program) (deck : List Module) (keys : List Key) (key : Key) (height : ℕ) : Type 0 where
  pub under : ℕ
  pub is : height ≡ suc under
  pub ends : Ends program under key
  pub short : (n : ℕ) → n < under → (y : List Event) × (local_body program (local program n) key ≡ Stopped y TooDeep)
  pub closed : Each (λ k. In deck k × Seen keys k) ends.events
  pub here : In deck key
  pub seen : Seen keys key

-- ---- the laws

abbrev pub made_of : List Half → List Module → List Key → Made
made_of opened deck keys = record { opened = opened; deck = deck; keys = keys }

-- Where the depth that is left is at least the height of a kept body, an entering of its key makes a call item, and changes nothing else.
abbrev pub KeptStands : Type 0
KeptStands =
    (t : TypedSource) (main : ℕ) → IsChecked t main → (choice : Choice) (deck : List Module) (keys : List Key) (key : Key) (height depth : ℕ)
    → FitsBy (definition (program_of t) key.name) key.args → Held (program_of t) deck keys key height → height ≤ depth → depth ≤ 256 → length keys ≤ 65536
    → (wires : List Wire) (next : Numbers) (opened : List Half)
    → ran choice (made_of opened deck keys) (local (program_of t) depth key wires next)
    ≡ Ok (next, made_of (with_half (item.Call (number_in_deck deck key) wires ∷ []) opened) deck keys)

-- Where it is less, the entering is refused by `TooDeep`, and not by the number of keys.
abbrev pub KeptIsTooDeep : Type 0
KeptIsTooDeep =
    (program : Program) (choice : Choice) (deck : List Module) (keys : List Key) (key : Key) (height depth : ℕ)
    → Held program deck keys key height → depth < height → length keys ≤ 65536
    → (wires : List Wire) (next : Numbers) (opened : List Half)
    → ran choice (made_of opened deck keys) (local program depth key wires next) ≡ Err TooDeep
