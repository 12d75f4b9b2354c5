-- The command of a mode, and what its matches hold.
use Rattle.std.specs.Prelude.{◌≡◌, ◌≤◌, ◌⊎◌, ℕ, Bool, true, false, List, [], ◌∷◌, ◌++◌, map, length, take, Option, Some, None, option_and_then, codes, if◌then◌else◌, slice_get}
use Rattle.clap.specs.Matches.{first_value, one_text}
use Rattle.clap.specs.Simple.{App, new_rule, new_shape, on_top}
use Rattle.clap.specs.Walk.{Rule}
use Rattle.clap.specs.declared.builder.action.ArgAction.{ArgAction}
use Rattle.clap.specs.declared.builder.action.ArgAction.TheVariants.{Set, SetTrue}
use Rattle.clap.specs.declared.parser.matches.Found.{Found}
use Rattle.sc_words.specs.Words.{Piece, asked, fits, is_flag, is_single, kept_if, mode_text, operand_count, operands_of, option_text, options_of, pieces_from, stands, value_of}
use Rattle.sc_words.specs.declared.request.Request.{Request}
use Rattle.sc_words.specs.declared.words.table.Mode.{Mode}
use Rattle.sc_words.specs.declared.words.table.OptionName.{OptionName}

-- ---- the command

-- an option has no value or one
abbrev pub action_of : OptionName → ArgAction
action_of o = if is_flag o then SetTrue else Set

-- an argument with a long name
abbrev pub named_rule : List ℕ → ArgAction → Rule
named_rule name action = record (new_rule name) { long = Some name; action = Some action }

abbrev pub option_rule : OptionName → Rule
option_rule o = named_rule (option_text o) (action_of o)

-- the names of operands in a command
abbrev pub operand_names : List (List ℕ)
operand_names = codes "first" ∷ codes "second" ∷ []

abbrev pub rules_of : List OptionName → ℕ → List Rule
rules_of options operands = map option_rule options ++ map new_rule (take operands operand_names)

abbrev pub with_rules : App → List Rule → App
with_rules app rules = on_top (λ s. record s { rules = s.rules ++ rules }) app

-- the command of a mode: words without the program's name, and no option but those of the row
abbrev pub command_of : Mode → App
command_of m = record {
  top = record (new_shape (mode_text m)) { rules = rules_of (options_of m) (operand_count m); no_binary_name = true; disable_help_flag = true };
  subs = [];
}

-- ---- its matches

-- what a flag reads as, by whether it stands
abbrev pub IsFlagText : Bool → Option (List ℕ) → Type 0
IsFlagText true text = text ≡ Some (codes "true")
IsFlagText false text = (text ≡ None) ⊎ (text ≡ Some (codes "false"))

-- what was found for the words of a mode is these pieces
pub record AreOf (m : Mode) (f : Found) (pieces : List Piece) : Type 0 where
  pub single : is_single pieces ≡ true
  pub few : length (operands_of pieces) ≤ operand_count m
  pub flag : (o : OptionName) → is_flag o ≡ true → IsFlagText (stands o pieces) (one_text f (option_text o))
  pub value : (o : OptionName) → is_flag o ≡ false → first_value f (option_text o) ≡ value_of o pieces
  pub first : first_value f (codes "first") ≡ slice_get (operands_of pieces) 0
  pub second : first_value f (codes "second") ≡ slice_get (operands_of pieces) 1

-- what was found is the pieces of the words
pub record AreOfWords (m : Mode) (words : List (List ℕ)) (f : Found) : Type 0 where
  pub pieces : List Piece
  pub spelled : pieces_from (options_of m) words None ≡ Some pieces
  pub found : AreOf m f pieces

-- what a mode asks for with these pieces, where they fit its row
abbrev pub asked_by : Mode → List Piece → Option Request
asked_by m pieces = option_and_then (asked m) (kept_if (fits m) (Some pieces))
