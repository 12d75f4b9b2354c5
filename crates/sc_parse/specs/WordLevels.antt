-- How tightly the operators of words bind, and what is read of them.
use Rattle.std.specs.Prelude.{◌≡◌, ◌≢◌, ℕ, ◌+◌, ◌≤◌, ◌<◌, drop, false, List, [], ◌∷◌, Option, Some, None}
use Rattle.sc_syntax.specs.declared.Mark.{Mark}
use Rattle.sc_syntax.specs.declared.Mark.TheVariants as m
use Rattle.sc_syntax.specs.declared.WordOp.{WordOp}
use Rattle.sc_syntax.specs.declared.WordLink.{WordLink}
use Rattle.sc_parse.specs.declared.word.WordLevel.{WordLevel}
use Rattle.sc_parse.specs.declared.word.WordLevel.TheVariants as level
use Rattle.sc_parse.specs.declared.terminal.Terminal.{Terminal}
use Rattle.sc_parse.specs.declared.terminal.Terminal.TheVariants.{Mark as marked, Ext, Low}
use Rattle.sc_parse.specs.Pieces.{Piece, next}
use Rattle.sc_parse.specs.Form.{Form, sub, one, many, mark, optional, ◌⨾◌, ◌∣◌}
use Rattle.sc_parse.specs.Form as symbol
use Rattle.sc_parse.specs.Rules.{word_chain_of, word_operand, word_operator}
use Rattle.sc_parse.specs.Runs.{begins}
use Rattle.sc_parse.specs.Trees.{Tree, word_binary_of, word_level_of}
use Rattle.sc_parse.specs.Derives.{WordLinked}
use Rattle.sc_parse.specs.Reads.{Reads}

-- what stands behind the test of `?`
abbrev pub picked : Form
picked = mark m.Question ⨾ sub symbol.WExpr ⨾ mark m.Colon ⨾ sub symbol.WExpr

-- a name that is `ext` or `low`, or a word that one of them brings to another width
abbrev pub sized : Form
sized = (one Ext ∣ one Low) ⨾ optional (mark m.OpenParen ⨾ sub symbol.WExpr ⨾ mark m.Comma ⨾ sub symbol.Width ⨾ mark m.CloseParen)

-- how loosely a level's operators bind; 2 is left for shifts
abbrev pub word_looseness : WordLevel → ℕ
word_looseness level.Or = 7
word_looseness level.Xor = 6
word_looseness level.And = 5
word_looseness level.Equal = 4
word_looseness level.Less = 3
word_looseness level.Sum = 1
word_looseness level.Product = 0

-- how loosely the tightest operators bind that are on the same side of the shifts
abbrev pub tightest : WordLevel → ℕ
tightest level.Sum = 0
tightest level.Product = 0
tightest _ = 3

-- what these stand between
abbrev pub word_base : WordLevel → Form
word_base level.Sum = sub symbol.WUnary
word_base level.Product = sub symbol.WUnary
word_base _ = sub symbol.WShift

-- the level of the operator that a mark may be
abbrev pub word_mark_level : Mark → Option WordLevel
word_mark_level m = leveled (word_binary_of m)
  where
    leveled : Option WordOp → Option WordLevel
    leveled None = None
    leveled (Some o) = Some (word_level_of o)

-- the level of the operator that a token of this kind may be
abbrev pub word_kind_level : Terminal → Option WordLevel
word_kind_level (marked m) = word_mark_level m
word_kind_level _ = None

-- the level of the operator that the next token may be
abbrev pub word_level_ahead : Option Terminal → Option WordLevel
word_level_ahead None = None
word_level_ahead (Some k) = word_kind_level k

-- No operator that binds tighter than n, and no tighter than b, is the next token.
pub record IsWordQuiet (b n : ℕ) (ts : List Piece) : Type 0 where
  pub none : (l : WordLevel) → b ≤ word_looseness l → word_looseness l < n → begins (word_operator l) (next ts) ≡ false

-- An operand of the level is read, with all that binds tighter.
pub record ReadsWordOperand (l : WordLevel) (depth : ℕ) (ts : List Piece) (at end : ℕ) (v : Tree) : Type 0 where
  pub reads : Reads (word_operand l) depth ts at end (v ∷ [])
  pub quiet : IsWordQuiet (tightest l) (word_looseness l) (drop end ts)

-- A chain of the level is read, with all that binds as tightly or tighter.
pub record ReadsWordChain (l : WordLevel) (depth : ℕ) (ts : List Piece) (at end : ℕ) (v : Tree) : Type 0 where
  pub reads : Reads (sub (word_chain_of l)) depth ts at end (v ∷ [])
  pub quiet : IsWordQuiet (tightest l) (word_looseness l + 1) (drop end ts)

-- Operators of the level are read, each with the operand behind it, as many as there are and at least one. They make these links.
pub record ReadsWordLinks (l : WordLevel) (depth : ℕ) (ts : List Piece) (at end : ℕ) (links : List WordLink) : Type 0 where
  pub used : List Tree
  pub linked : WordLinked l used links
  pub reads : Reads (many (word_operator l ⨾ word_operand l)) depth ts at end used
  pub quiet : IsWordQuiet (tightest l) (word_looseness l + 1) (drop end ts)
  pub some : links ≢ []
  pub moves : at < end
