-- Lines of hierarchical texts in which numbers of wires may have any number of digits, so that a number past a limit is one.
use Rattle.std.specs.Prelude.{◌≡◌, ℕ, List, [], ◌∷◌, ◌++◌, codes, decimal}
use Rattle.std.specs.Fmt.{signed_decimal}
use Rattle.std.specs.List.{join_with_byte, AllByRecursion}
use Rattle.std.specs.Str.Parse.{digits_value}
use Rattle.sc_base.specs.Decimals.{fixed_text}
use Rattle.sc_base.specs.Numerals.{IsWhole}
use Rattle.sc_base.specs.declared.names.Class.{Class}
use Rattle.sc_base.specs.NameTexts.{IsNameText}
use Rattle.sc_gate.specs.Lines.{class_letter}
use Rattle.sc_deck.specs.declared.item.Item.{Item}
use Rattle.sc_deck.specs.declared.item.Item.TheVariants as item
use Rattle.sc_deck.specs.declared.key.Arg.{Arg}
use Rattle.sc_deck.specs.declared.key.Arg.TheVariants.{Int, Double, One, Many}
use Rattle.sc_deck.specs.declared.key.Key.{Key}
use Rattle.sc_deck.specs.Keys.{ArgInRange, HasLength}
use Rattle.sc_deck.specs.Hierarchical.{fresh_word, item_line}

-- a strict numeral of this number
pub record IsNumeralOf (n : ℕ) (digits : List ℕ) : Type 0 where
  pub whole : IsWhole digits
  pub value : n ≡ digits_value 10 digits

-- an array, with its length in brackets
pub record ArrayText (class : Class) (n : ℕ) (text : List ℕ) : Type 0 where
  pub digits : List ℕ
  pub length_is : IsNumeralOf n digits
  pub text_is : text ≡ class_letter class ∷ (codes "[" ++ digits ++ codes "]")

abbrev pub ArgText : Arg → List ℕ → Type 0
ArgText (Int n) text = text ≡ signed_decimal n
ArgText (Double x) text = text ≡ fixed_text x.0
ArgText (One class) text = text ≡ class_letter class ∷ []
ArgText (Many class n) text = ArrayText class n text

-- the arguments one by one
abbrev pub ArgTexts : List Arg → List (List ℕ) → Type 0
ArgTexts [] [] = Unit {0}
ArgTexts [] (text ∷ texts) = ⊥
ArgTexts (arg ∷ args) [] = ⊥
ArgTexts (arg ∷ args) (text ∷ texts) = ArgText arg text × ArgTexts args texts

-- a value is in range, and an array has at least one wire
pub record IsFormedArg (arg : Arg) : Type 0 where
  pub in_range : ArgInRange arg
  pub has_length : HasLength arg

-- a name, and arguments of which each is formed
pub record IsFormedKey (key : Key) : Type 0 where
  pub name : IsNameText key.name
  pub args : AllByRecursion IsFormedArg key.args

-- the name, and in parentheses the arguments joined by commas
pub record SignatureText (key : Key) (text : List ℕ) : Type 0 where
  pub parts : List (List ℕ)
  pub parts_are : ArgTexts key.args parts
  pub text_is : text ≡ key.name ++ codes "(" ++ join_with_byte 44 parts ++ codes ")"

-- the line that begins the module of this number
pub record IsHeading (number : ℕ) (key : Key) (line : List ℕ) : Type 0 where
  pub text : List ℕ
  pub text_is : SignatureText key text
  pub line_is : line ≡ codes "module " ++ decimal number ++ codes " " ++ text ++ codes "\n"

-- the line of so many fresh wires
pub record FreshText (class : Class) (n : ℕ) (line : List ℕ) : Type 0 where
  pub digits : List ℕ
  pub number_is : IsNumeralOf n digits
  pub line_is : line ≡ fresh_word class ++ codes " " ++ digits ++ codes "\n"

abbrev pub ItemText : Item → List ℕ → Type 0
ItemText (item.Fresh class n) line = FreshText class n line
ItemText (item.Gate gate) line = line ≡ item_line (item.Gate gate)
ItemText (item.Call callee wires) line = line ≡ item_line (item.Call callee wires)
ItemText (item.Gates gate turns) line = line ≡ item_line (item.Gates gate turns)
ItemText (item.Calls callee wires turns) line = line ≡ item_line (item.Calls callee wires turns)
