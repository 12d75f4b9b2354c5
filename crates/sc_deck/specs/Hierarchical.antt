-- Hierarchical texts of keys with items.
use Rattle.std.specs.Prelude.{◌≡◌, ℕ, ◌+◌, ◌≤◌, ◌⊎◌, ℤ, Bool, true, false, ◌||◌, ◌==◌, List, [], ◌∷◌, ◌++◌, map, flat_map, length, codes, decimal, unsigned_abs, if◌then◌else◌, All, AllPairs, ◌≢◌}
use Rattle.std.specs.List.{list_any, join_with_byte}
use Rattle.std.specs.Fmt.{signed_decimal}
use Rattle.sc_base.specs.declared.names.Class.{Class}
use Rattle.sc_base.specs.declared.names.Class.TheVariants.{Q, C}
use Rattle.sc_base.specs.Decimals.{fixed_text}
use Rattle.sc_base.specs.NameTexts.{IsNameText}
use Rattle.sc_gate.specs.declared.gate.Wire.{Wire}
use Rattle.sc_gate.specs.Lines.{class_letter, wire_text, gate_line, number_line}
use Rattle.sc_deck.specs.declared.item.Item.{Item}
use Rattle.sc_deck.specs.declared.item.Item.TheVariants as item
use Rattle.sc_deck.specs.declared.key.Arg.{Arg}
use Rattle.sc_deck.specs.declared.key.Arg.TheVariants.{Int, Double, One, Many}
use Rattle.sc_deck.specs.declared.key.Key.{Key}
use Rattle.sc_deck.specs.Bodies.{ItemsFit, wires_of}
use Rattle.sc_deck.specs.Items.{ItemInRange}
use Rattle.sc_deck.specs.Decks.{CallEarlier, IsWhole}
use Rattle.sc_deck.specs.Keys.{params_of, HasLengths, ArgInRange}
use Rattle.sc_deck.specs.Modules.{Module, key_of, body_of, heights_of}
use Rattle.sc_gate.specs.Numbers.{both}
use Rattle.sc_deck.specs.Turns.{has_turns}

-- an argument: a number, or the letter of a class, with a length in brackets for an array
abbrev pub arg_text : Arg → List ℕ
arg_text (Int n) = signed_decimal n
arg_text (Double x) = fixed_text x.0
arg_text (One class) = class_letter class ∷ []
arg_text (Many class n) = class_letter class ∷ (codes "[" ++ decimal n ++ codes "]")

-- the name, and in parentheses the arguments joined by commas
abbrev pub signature : Key → List ℕ
signature key = key.name ++ codes "(" ++ join_with_byte 44 (map arg_text key.args) ++ codes ")"

-- a space and the wires joined by commas, where there are any
abbrev pub wires_text : List Wire → List ℕ
wires_text [] = []
wires_text (w ∷ wires) = codes " " ++ join_with_byte 44 (map wire_text (w ∷ wires))

abbrev pub call_line : ℕ → List Wire → List ℕ
call_line callee wires = codes "call " ++ decimal callee ++ wires_text wires ++ codes "\n"

abbrev pub fresh_word : Class → List ℕ
fresh_word Q = codes "qbit"
fresh_word C = codes "cbit"

-- `repeat`, the number of turns, and the line that is repeated
abbrev pub repeat_line : ℕ → List ℕ → List ℕ
repeat_line turns line = codes "repeat " ++ decimal turns ++ codes " " ++ line

abbrev pub item_line : Item → List ℕ
item_line (item.Fresh class n) = number_line (fresh_word class) n
item_line (item.Gate gate) = gate_line gate
item_line (item.Call callee wires) = call_line callee wires
item_line (item.Gates gate turns) = repeat_line turns (gate_line gate)
item_line (item.Calls callee wires turns) = repeat_line turns (call_line callee wires)

-- the line of the module with its number, its items, and `end`
abbrev pub module_text : ℕ → Module → List ℕ
module_text number m =
    codes "module " ++ decimal number ++ codes " " ++ signature m.key ++ codes "\n" ++ flat_map item_line m.items ++ codes "end\n"

-- the modules, numbered from a first number on
abbrev pub modules_text : ℕ → List Module → List ℕ
modules_text number [] = []
modules_text number (m ∷ modules) = module_text number m ++ modules_text (number + 1) modules

abbrev pub hier_text : ℕ → List Module → List ℕ
hier_text version modules = number_line (codes "hier") version ++ modules_text 0 modules

-- some item has two turns or more
abbrev pub have_turns : List Module → Bool
have_turns modules = list_any (λ (m : Module). list_any has_turns m.items) modules

-- THE HIERARCHICAL TEXT: version 2 where an item has turns, and version 1 elsewhere
abbrev pub hier : List Module → List ℕ
hier modules = hier_text (if have_turns modules then 2 else 1) modules

-- the rules that hold of the modules of every hierarchical text, and of each front of them
pub record AreProper (modules : List Module) : Type 0 where
  pub names : All (λ m. IsNameText m.key.name) modules
  pub args : All (λ m. All ArgInRange m.key.args) modules
  pub in_range : All (λ m. All ItemInRange m.items) modules
  -- array lengths of at least 1
  pub lengths : All (λ m. HasLengths m.key) modules
  pub distinct : AllPairs (λ k l. k ≢ l) (map key_of modules)
  -- fresh wires, turns, and operands that are there and distinct
  pub fits : All (λ m. ItemsFit (params_of m.key) m.items) modules
  pub calls : CallEarlier [] modules

-- the rules that hold of every hierarchical text
pub record IsProper (modules : List Module) : Type 0 where
  pub rules : AreProper modules
  pub whole : IsWhole modules

-- the limits on modules
pub record IsWithinLimits (modules : List Module) : Type 0 where
  pub few : length modules ≤ 65536
  pub narrow : All (λ m. both (wires_of (body_of m)) ≤ 65536) modules
  -- a repeated item counts once
  pub short : All (λ m. length m.items ≤ 1048576) modules
  pub shallow : All (λ height. height ≤ 256) (heights_of modules)

-- THE GRAMMAR: the text of modules that keep the rules, in version 2, or in version 1 where no item has turns.
-- A text of version 2 may have no item with turns, and runs of equal items may stand unfolded.
pub record IsHier (text : List ℕ) (modules : List Module) : Type 0 where
  pub proper : IsProper modules
  pub written : ((have_turns modules ≡ false) × (text ≡ hier_text 1 modules)) ⊎ (text ≡ hier_text 2 modules)

-- a deck that a hierarchical text may hold: whole, with module names, and within the limits on heights and items
pub record IsSound (modules : List Module) : Type 0 where
  pub whole : IsWhole modules
  pub names : All (λ m. IsNameText m.key.name) modules
  pub shallow : All (λ height. height ≤ 256) (heights_of modules)
  pub short : All (λ m. length m.items ≤ 1048576) modules
