-- What a function of the parser says of the tokens from a place on.
use Rattle.std.specs.Prelude.{◌≡◌, ℕ, ◌+◌, ◌≤◌, ◌<◌, length, drop, Bool, true, List, [], ◌∷◌, Some}
use Rattle.std.specs.List.{list_all}
use Rattle.sc_syntax.specs.declared.Mark.{Mark}
use Rattle.sc_syntax.specs.declared.TokenSort.TheVariants as sort
use Rattle.sc_base.specs.declared.Place.{Place}
use Rattle.sc_syntax.specs.declared.TokenSort.{TokenSort}
use Rattle.sc_syntax.specs.declared.BinOp.{BinOp}
use Rattle.sc_syntax.specs.declared.WordOp.{WordOp}
use Rattle.sc_parse.specs.declared.expr.Level.{Level}
use Rattle.sc_parse.specs.declared.word.WordLevel.{WordLevel}
use Rattle.sc_parse.specs.declared.reader.Fault.{Fault}
use Rattle.sc_parse.specs.declared.reader.Fault.TheVariants.{Syntax, TooNested, Memory}
use Rattle.sc_parse.specs.Pieces.{Piece}
use Rattle.sc_parse.specs.Form.{Form, choice, Symbol}
use Rattle.sc_parse.specs.Trees.{Tree, token, kept, binary_of, word_binary_of, level_of, word_level_of, shift_of}
use Rattle.sc_parse.specs.Rules.{operator, word_operator, shift_marks}
use Rattle.sc_parse.specs.Runs.{Stack, Outcome, stuck, deep, Runs}
use Rattle.sc_parse.specs.Derives.{Derives, Builds}

-- The form is read from `at` up to `end`, whatever is read after it, and derives these parts.
pub record Reads (f : Form) (depth : ℕ) (ts : List Piece) (at end : ℕ) (vs : List Tree) : Type 0 where
  pub within : end ≤ length ts
  pub forward : at ≤ end
  pub run : (k : Stack) (o : Outcome) → Runs k (drop end ts) o → Runs ((depth, f) ∷ k) (drop at ts) o
  pub derives : Derives f (drop at ts) (drop end ts) vs

-- The same, where these are the parts beside the tokens.
pub record Keeps (f : Form) (depth : ℕ) (ts : List Piece) (at end : ℕ) (vs : List Tree) : Type 0 where
  pub parts : List Tree
  pub reads : Reads f depth ts at end parts
  pub same : kept parts ≡ vs

-- The same, where a token of this sort stands before the parts.
pub record KeepsAfter (f : Form) (sort : TokenSort) (depth : ℕ) (ts : List Piece) (at end : ℕ) (vs : List Tree) : Type 0 where
  pub it : Piece
  pub is : it.token.sort ≡ sort
  pub parts : List Tree
  pub reads : Reads f depth ts at end (token it ∷ parts)
  pub same : kept parts ≡ vs

-- The form is read, where the parts build this tree as a phrase of the symbol.
pub record Makes (f : Form) (s : Symbol) (depth : ℕ) (ts : List Piece) (at end : ℕ) (v : Tree) : Type 0 where
  pub parts : List Tree
  pub reads : Reads f depth ts at end parts
  pub builds : Builds s parts v

-- The same, where one part stands before them.
pub record MakesAfter (f : Form) (s : Symbol) (depth : ℕ) (ts : List Piece) (at end : ℕ) (before v : Tree) : Type 0 where
  pub parts : List Tree
  pub reads : Reads f depth ts at end parts
  pub builds : Builds s (before ∷ parts) v

-- One token of the form stands there, and is not nested too deep.
pub record Takes (f : Form) (depth : ℕ) (ts : List Piece) (at end : ℕ) (vs : List Tree) : Type 0 where
  pub shallow : depth ≤ 128
  pub moves : end ≡ at + 1
  pub reads : Reads f depth ts at end vs

-- A token of this sort and place, which the terminal takes, stands there, and is not nested too deep.
pub record TakesToken (f : Form) (depth : ℕ) (ts : List Piece) (at end : ℕ) (sort : TokenSort) (place : Place) : Type 0 where
  pub it : Piece
  pub is : it.token.sort ≡ sort
  pub stands : it.token.place ≡ place
  pub takes : Takes f depth ts at end (token it ∷ [])

-- One of these marks stands there, and is not nested too deep.
pub record TakesMark (marks : List Mark) (depth : ℕ) (ts : List Piece) (at end : ℕ) (mark : Mark) (place : Place) : Type 0 where
  pub token : TakesToken (choice marks) depth ts at end (sort.Mark mark) place
  pub among : (p : Mark → Bool) → list_all p marks ≡ true → p mark ≡ true

-- An operator of the level stands there, and is not nested too deep.
pub record TakesBinary (level : Level) (depth : ℕ) (ts : List Piece) (at end : ℕ) (op : BinOp) (place : Place) : Type 0 where
  pub it : Piece
  pub mark : Mark
  pub is : it.token.sort ≡ sort.Mark mark
  pub means : binary_of mark ≡ Some op
  pub levelled : level_of op ≡ level
  pub stands : it.token.place ≡ place
  pub takes : Takes (operator level) depth ts at end (token it ∷ [])

-- An operator of the level of words stands there, and is not nested too deep.
pub record TakesWordBinary (level : WordLevel) (depth : ℕ) (ts : List Piece) (at end : ℕ) (op : WordOp) (place : Place) : Type 0 where
  pub it : Piece
  pub mark : Mark
  pub is : it.token.sort ≡ sort.Mark mark
  pub means : word_binary_of mark ≡ Some op
  pub levelled : word_level_of op ≡ level
  pub stands : it.token.place ≡ place
  pub takes : Takes (word_operator level) depth ts at end (token it ∷ [])

-- A mark that shifts stands there, and is not nested too deep.
pub record TakesShift (depth : ℕ) (ts : List Piece) (at end : ℕ) (left : Bool) : Type 0 where
  pub it : Piece
  pub mark : Mark
  pub is : it.token.sort ≡ sort.Mark mark
  pub means : shift_of mark ≡ Some left
  pub takes : Takes (choice shift_marks) depth ts at end (token it ∷ [])

-- the form is not read from `at` on, whatever is read after it
pub record Ends (f : Form) (depth : ℕ) (ts : List Piece) (at : ℕ) (o : Outcome) : Type 0 where
  pub run : (k : Stack) → Runs ((depth, f) ∷ k) (drop at ts) o

-- by the kind of the fault
abbrev pub FailsBy : Form → ℕ → List Piece → ℕ → Fault → Type 0
FailsBy f depth ts at (Syntax p) = (p ≤ length ts) × Ends f depth ts at (stuck (drop p ts))
FailsBy f depth ts at (TooNested p) = (p < length ts) × Ends f depth ts at (deep (drop p ts))
FailsBy f depth ts at Memory = Unit {0}

pub record Fails (f : Form) (depth : ℕ) (ts : List Piece) (at : ℕ) (e : Fault) : Type 0 where
  pub why : FailsBy f depth ts at e
