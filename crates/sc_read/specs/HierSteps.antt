-- What the reader of hierarchical texts keeps while it goes on from line to line.
use Rattle.std.specs.Prelude.{◌≡◌, ◌≢◌, ℕ, ◌+◌, ◌-◌, ◌<◌, ◌≤◌, ◌⊎◌, Bool, Some, List, [], ◌∷◌, ◌++◌, length, slice_get, All, codes}
use Rattle.std.specs.Option.{option_map}
use Rattle.sc_base.specs.Lines.{ReadTo, IsFirstBad, IsFirstBreak}
use Rattle.sc_base.specs.declared.lines.Lines.{Lines}
use Rattle.sc_base.specs.NameTexts.{IsNameText}
use Rattle.sc_deck.specs.declared.key.Key.{Key}
use Rattle.sc_gate.specs.Numbers.{both}
use Rattle.sc_deck.specs.declared.item.Item.{Item}
use Rattle.sc_deck.specs.Bodies.{Contents, wires_of}
use Rattle.sc_deck.specs.Decks.{CallsFit, IsNewKey, IsWhole}
use Rattle.sc_deck.specs.Items.{after_item}
use Rattle.sc_deck.specs.Keys.{params_of, HasLengths, main_key}
use Rattle.sc_deck.specs.Modules.{Module, key_of, heights_of, height_over, greatest_called}
use Rattle.sc_read.specs.declared.hier.HierFault.{HierFault}
use Rattle.sc_read.specs.declared.hier.HierFault.TheVariants.{BadQasm, TooWide, TooLong, TooDeep, TooManyInstances, Memory}
use Rattle.sc_read.specs.HierStages.{Stage, Between, Within, Instances, Wires, Items, Depth, InPlace, Goes, Breaks, MayEnd}

-- a key with the items of a body
abbrev pub module_of : Key → Contents → Module
module_of key body = record { key = key; items = body.items }

-- the line that comes at this stage, with its number, is at fault
abbrev pub IsLineFault : Stage → List ℕ → ℕ → HierFault → Type 0
IsLineFault stage line number (BadQasm n) = (n ≡ number) × ((next : Stage) → InPlace stage line next → ⊥)
IsLineFault stage line number (TooWide n) = (n ≡ number) × Breaks stage line Wires
IsLineFault stage line number (TooLong n) = (n ≡ number) × Breaks stage line Items
IsLineFault stage line number (TooDeep n) = (n ≡ number) × Breaks stage line Depth
IsLineFault stage line number (TooManyInstances n) = (n ≡ number) × Breaks stage line Instances
IsLineFault stage line number Memory = Unit {0}

-- a fault of the text that comes at this stage, whose first line has this number
abbrev pub IsFaultFrom : Stage → List ℕ → ℕ → HierFault → Type 0
IsFaultFrom stage text first (BadQasm line) = IsFirstBad Goes Breaks MayEnd stage text first line
IsFaultFrom stage text first (TooWide line) = IsFirstBreak Goes Breaks stage text first line Wires
IsFaultFrom stage text first (TooLong line) = IsFirstBreak Goes Breaks stage text first line Items
IsFaultFrom stage text first (TooDeep line) = IsFirstBreak Goes Breaks stage text first line Depth
IsFaultFrom stage text first (TooManyInstances line) = IsFirstBreak Goes Breaks stage text first line Instances
IsFaultFrom stage text first Memory = Unit {0}

-- a body that is read behind these modules: its calls fit, and it is within the limits
pub record IsBegun (modules : List Module) (body : Contents) : Type 0 where
  pub room : length modules < 65536
  pub calls : CallsFit modules body.items
  pub short : length body.items ≤ 1048576
  pub shallow : greatest_called (heights_of modules) body.items < 256

-- a module begins with this line
pub record Begins (modules : List Module) (line : List ℕ) (key : Key) (body : Contents) : Type 0 where
  pub goes : (turns : Bool) → Goes (Between turns modules) line (Within turns modules (module_of key body))
  pub params : body.params ≡ params_of key
  pub empty : body.items ≡ []
  pub new : IsNewKey modules key
  pub lengths : HasLengths key
  pub name : IsNameText key.name
  pub begun : IsBegun modules body

-- one line takes a body on to another, under any key with its parameters
pub record GoesOn (turns : Bool) (modules : List Module) (was : Contents) (line : List ℕ) (now : Contents) : Type 0 where
  pub params : now.params ≡ was.params
  pub goes : (key : Key) → was.params ≡ params_of key → Goes (Within turns modules (module_of key was)) line (Within turns modules (module_of key now))
  pub begun : IsBegun modules now

-- the items were read up to the line `end` and behind it
pub record ItemsRead (turns : Bool) (modules : List Module) (was now : Contents) (before after : Lines) : Type 0 where
  pub number : ℕ
  pub params : now.params ≡ was.params
  pub reads : (key : Key) → was.params ≡ params_of key →
      ReadTo Goes (Within turns modules (module_of key was)) before.rest.now before.number (Within turns modules (module_of key now)) (codes "end\n" ++ after.rest.now) number
  pub number_is : after.number ≡ number + 1
  pub begun : IsBegun modules now

-- a module was read from the line that begins it up to its `end` and behind it, and put behind the others
pub record ModuleRead (turns : Bool) (was now : List Module) (line : List ℕ) (number : ℕ) (before after : Lines) (m : Module) : Type 0 where
  pub end : ℕ
  pub pushed : now ≡ was ++ m ∷ []
  pub reads : ReadTo Goes (Between turns was) (line ++ before.rest.now) number (Within turns was m) (codes "end\n" ++ after.rest.now) end
  pub number_is : after.number ≡ end + 1
  pub name : IsNameText m.key.name
  pub short : length m.items ≤ 1048576
  pub shallow : height_over (heights_of was) m ≤ 256

-- what every deck that was read so far keeps
pub record IsSoundSoFar (modules : List Module) : Type 0 where
  pub names : All (λ m. IsNameText m.key.name) modules
  pub shallow : All (λ height. height ≤ 256) (heights_of modules)
  pub short : All (λ m. length m.items ≤ 1048576) modules

-- the last key is main without arguments
abbrev pub EndsWithMain : List Module → Type 0
EndsWithMain modules = option_map key_of (slice_get modules (length modules - 1)) ≡ Some main_key

-- `main()` has ended where another module was never called, at the line before; or something follows it
abbrev pub IsEndFault : List Module → List ℕ → ℕ → HierFault → Type 0
IsEndFault modules rest number (BadQasm n) = ((n + 1 ≡ number) × (IsWhole modules → ⊥)) ⊎ ((n ≡ number) × IsWhole modules × (rest ≢ []))
IsEndFault modules rest number _ = ⊥

-- the first limit that an item passes behind a body, at the line with this number
abbrev pub IsLimitFault : List Module → Contents → Item → ℕ → HierFault → Type 0
IsLimitFault modules body i number (TooWide n) = (n ≡ number) × (65536 < both (after_item (wires_of body) i))
IsLimitFault modules body i number (TooLong n) = (n ≡ number) × (both (after_item (wires_of body) i) ≤ 65536) × (1048576 ≤ length body.items)
IsLimitFault modules body i number (TooDeep n) =
    (n ≡ number) × (both (after_item (wires_of body) i) ≤ 65536) × (length body.items < 1048576) × (256 ≤ greatest_called (heights_of modules) (i ∷ []))
IsLimitFault modules body i number _ = ⊥

-- an item passes no limit behind a body
pub record IsWithinLimit (modules : List Module) (body : Contents) (i : Item) : Type 0 where
  pub narrow : both (after_item (wires_of body) i) ≤ 65536
  pub short : length body.items < 1048576
  pub shallow : greatest_called (heights_of modules) (i ∷ []) < 256
