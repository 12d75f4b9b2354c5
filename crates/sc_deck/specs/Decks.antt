-- What every deck keeps, and whole decks.
use Rattle.std.specs.Prelude.{◌≡◌, ◌≢◌, ℕ, ◌+◌, ◌-◌, ◌<◌, ◌≤◌, List, [], ◌∷◌, ◌++◌, map, length, slice_get, Some, IsSomeAnd, IsTrue, All, AllPairs}
use Rattle.std.specs.List.{AllByRecursion}
use Rattle.std.specs.Option.{option_map}
use Rattle.sc_gate.specs.declared.gate.Wire.{Wire}
use Rattle.sc_gate.specs.Gates.{class_of}
use Rattle.sc_deck.specs.declared.item.Item.{Item}
use Rattle.sc_deck.specs.declared.item.Item.TheVariants as item
use Rattle.sc_deck.specs.declared.key.Key.{Key}
use Rattle.sc_deck.specs.Bodies.{IsBody}
use Rattle.sc_deck.specs.Keys.{param_classes, HasLengths, ArgInRange, main_key}
use Rattle.sc_deck.specs.Modules.{Module, key_of, body_of, is_called}

-- the callee is there, and the wires have its parameters' number and classes, in order
abbrev pub CallFits : List Module → ℕ → List Wire → Type 0
CallFits modules callee wires = IsSomeAnd (slice_get modules callee) (λ m. map class_of wires ≡ param_classes m.key)

abbrev pub ItemCallFits : List Module → Item → Type 0
ItemCallFits modules (item.Fresh class n) = Unit {0}
ItemCallFits modules (item.Gate gate) = Unit {0}
ItemCallFits modules (item.Call callee wires) = CallFits modules callee wires
ItemCallFits modules (item.Gates gate turns) = Unit {0}
ItemCallFits modules (item.Calls callee wires turns) = CallFits modules callee wires

-- every call fits
abbrev pub CallsFit : List Module → List Item → Type 0
CallsFit modules items = AllByRecursion (ItemCallFits modules) items

-- every call is of an earlier module, and fits
abbrev pub CallEarlier : List Module → List Module → Type 0
CallEarlier before [] = Unit {0}
CallEarlier before (m ∷ modules) = CallsFit before m.items × CallEarlier (before ++ m ∷ []) modules

-- no module has this key
abbrev pub IsNewKey : List Module → Key → Type 0
IsNewKey modules key = All (λ m. m.key ≢ key) modules

-- what every deck keeps
pub record IsDeck (modules : List Module) : Type 0 where
  pub distinct : AllPairs (λ k l. k ≢ l) (map key_of modules)
  pub lengths : All (λ m. HasLengths m.key) modules
  pub args : All (λ m. All ArgInRange m.key.args) modules
  -- well-formed gates, distinct operands that are there, angles and turns in range, and at most 65,536 wires
  pub bodies : All (λ m. IsBody (body_of m)) modules
  pub calls : CallEarlier [] modules
  pub few : length modules ≤ 65536

-- the last key is main without arguments, and every other module is called by a later one
pub record IsWhole (modules : List Module) : Type 0 where
  pub main_last : option_map key_of (slice_get modules (length modules - 1)) ≡ Some main_key
  pub called : (i : ℕ) → i + 1 < length modules → IsTrue (is_called modules i)
