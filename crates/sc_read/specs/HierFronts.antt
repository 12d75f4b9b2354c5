-- Parts of the lines of hierarchical texts, as they are read. A number of wires past 32 bits is kept as the greatest number of
-- 32 bits, since it passes the limit on wires as well.
use Rattle.std.specs.Prelude.{◌≡◌, ℕ, ◌≤◌, Bool, min, nat_eq, List, [], ◌∷◌, map}
use Rattle.std.specs.List.{slice_split}
use Rattle.std.specs.Str.Parse.{digits_value}
use Rattle.sc_base.specs.Numerals.{WholeFront}
use Rattle.sc_deck.specs.declared.key.Arg.{Arg}
use Rattle.sc_deck.specs.declared.key.Arg.TheVariants.{Int, Double, One, Many}
use Rattle.sc_deck.specs.declared.key.Key.{Key}
use Rattle.sc_base.specs.declared.names.Class.{Class}
use Rattle.sc_gate.specs.Numbers.{Numbers}
use Rattle.sc_deck.specs.declared.item.Item.{Item}
use Rattle.sc_deck.specs.declared.item.Item.TheVariants as item
use Rattle.sc_deck.specs.Decks.{ItemCallFits}
use Rattle.sc_deck.specs.Hierarchical.{item_line}
use Rattle.sc_deck.specs.Items.{ItemFits, ItemInRange}
use Rattle.sc_deck.specs.Modules.{Module}
use Rattle.sc_read.specs.declared.item_line.Step.{Step}
use Rattle.sc_read.specs.declared.item_line.Step.TheVariants.{Apply, Enter}
use Rattle.sc_read.specs.declared.item_line.ItemLine.{ItemLine}
use Rattle.sc_read.specs.declared.item_line.ItemLine.TheVariants.{Fresh, Once, Repeated}
use Rattle.sc_read.specs.HierLines.{ArgText, IsFormedArg, IsFormedKey, IsHeading, FreshText, ItemText}
use Rattle.sc_read.specs.HierStages.{IsNextItem}

abbrev pub cut_number : ℕ → ℕ
cut_number n = min n 4294967295

abbrev pub cut_arg : Arg → Arg
cut_arg (Int n) = Int n
cut_arg (Double x) = Double x
cut_arg (One class) = One class
cut_arg (Many class n) = Many class (cut_number n)

abbrev pub cut_key : Key → Key
cut_key key = record { name = key.name; args = map cut_arg key.args }

-- the text begins with a strict numeral of at least 1, which is kept as this number
pub record LengthFront (text : List ℕ) (kept : ℕ) (rest : List ℕ) : Type 0 where
  pub digits : List ℕ
  pub front : WholeFront text digits rest
  pub some : 1 ≤ digits_value 10 digits
  pub kept_is : kept ≡ cut_number (digits_value 10 digits)

-- the text is that of an argument, which is kept as this one
pub record ReadsArg (text : List ℕ) (kept : Arg) : Type 0 where
  pub arg : Arg
  pub text_is : ArgText arg text
  pub formed : IsFormedArg arg
  pub kept_is : kept ≡ cut_arg arg

-- one by one
abbrev pub ReadsArgs : List (List ℕ) → List Arg → Type 0
ReadsArgs [] [] = Unit {0}
ReadsArgs [] (arg ∷ args) = ⊥
ReadsArgs (text ∷ texts) [] = ⊥
ReadsArgs (text ∷ texts) (arg ∷ args) = ReadsArg text arg × ReadsArgs texts args

-- the parts between commas, none of an empty text
abbrev pub parts_of : List ℕ → List (List ℕ)
parts_of [] = []
parts_of (byte ∷ bytes) = slice_split (λ b. nat_eq b 44) (byte ∷ bytes)

-- the line begins the module of this number, with a key that is kept as this one
pub record ReadsHeading (number : ℕ) (line : List ℕ) (kept : Key) : Type 0 where
  pub key : Key
  pub line_is : IsHeading number key line
  pub formed : IsFormedKey key
  pub kept_is : kept ≡ cut_key key

-- what a step does once, and so many times
abbrev pub step_item : Step → Item
step_item (Apply gate) = item.Gate gate
step_item (Enter callee wires) = item.Call callee wires

abbrev pub repeated_item : Step → ℕ → Item
repeated_item (Apply gate) turns = item.Gates gate turns
repeated_item (Enter callee wires) turns = item.Calls callee wires turns

abbrev pub kept_item : ItemLine → Item
kept_item (Fresh class n) = item.Fresh class n
kept_item (Once step) = step_item step
kept_item (Repeated step turns) = repeated_item step turns

abbrev pub cut_item : Item → Item
cut_item (item.Fresh class n) = item.Fresh class (cut_number n)
cut_item (item.Gate gate) = item.Gate gate
cut_item (item.Call callee wires) = item.Call callee wires
cut_item (item.Gates gate turns) = item.Gates gate turns
cut_item (item.Calls callee wires turns) = item.Calls callee wires turns

-- the line is that of so many fresh wires, kept as this number
pub record ReadsFresh (line : List ℕ) (class : Class) (kept : ℕ) : Type 0 where
  pub number : ℕ
  pub text_is : FreshText class number line
  pub some : 1 ≤ number
  pub kept_is : kept ≡ cut_number number

-- the line is that of this step, which may stand where there are so many wires behind so many modules
pub record ReadsStep (modules : List Module) (wires : Numbers) (line : List ℕ) (step : Step) : Type 0 where
  pub text_is : line ≡ item_line (step_item step)
  pub fits : ItemFits wires (step_item step)
  pub in_range : ItemInRange (step_item step)
  pub call : ItemCallFits modules (step_item step)

-- the line is that of an item that may stand there, kept as this one
pub record ReadsItem (turns : Bool) (modules : List Module) (wires : Numbers) (line : List ℕ) (kept : ItemLine) : Type 0 where
  pub item : Item
  pub text_is : ItemText item line
  pub item_is : IsNextItem turns modules wires item
  pub kept_is : kept_item kept ≡ cut_item item
