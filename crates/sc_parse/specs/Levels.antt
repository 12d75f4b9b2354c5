-- How tightly operators bind, and what is read of them.
use Rattle.std.specs.Prelude.{◌≡◌, ◌≢◌, ℕ, ◌+◌, ◌<◌, drop, false, List, [], ◌∷◌, Option, Some, None}
use Rattle.sc_syntax.specs.declared.Mark.{Mark}
use Rattle.sc_syntax.specs.declared.BinOp.{BinOp}
use Rattle.sc_syntax.specs.declared.Link.{Link}
use Rattle.sc_parse.specs.declared.expr.Level.{Level}
use Rattle.sc_parse.specs.declared.expr.Level.TheVariants as level
use Rattle.sc_parse.specs.declared.terminal.Terminal.{Terminal}
use Rattle.sc_parse.specs.declared.terminal.Terminal.TheVariants.{Mark as marked}
use Rattle.sc_parse.specs.Pieces.{Piece, next}
use Rattle.sc_parse.specs.Form.{sub, many, ◌⨾◌}
use Rattle.sc_parse.specs.Rules.{chain_of, operand, operator}
use Rattle.sc_parse.specs.Runs.{begins}
use Rattle.sc_parse.specs.Trees.{Tree, binary_of, level_of}
use Rattle.sc_parse.specs.Derives.{Linked}
use Rattle.sc_parse.specs.Reads.{Reads}

-- how loosely a level's operators bind
abbrev pub looseness : Level → ℕ
looseness level.Or = 6
looseness level.And = 5
looseness level.Equal = 4
looseness level.Order = 3
looseness level.Shift = 2
looseness level.Sum = 1
looseness level.Product = 0

-- the level of the operator that a mark may be
abbrev pub mark_level : Mark → Option Level
mark_level m = leveled (binary_of m)
  where
    leveled : Option BinOp → Option Level
    leveled None = None
    leveled (Some o) = Some (level_of o)

-- the level of the operator that a token of this kind may be
abbrev pub kind_level : Terminal → Option Level
kind_level (marked m) = mark_level m
kind_level _ = None

-- the level of the operator that the next token may be
abbrev pub level_ahead : Option Terminal → Option Level
level_ahead None = None
level_ahead (Some k) = kind_level k

-- No operator that binds tighter than n is the next token.
pub record IsQuiet (n : ℕ) (ts : List Piece) : Type 0 where
  pub none : (l : Level) → looseness l < n → begins (operator l) (next ts) ≡ false

-- An operand of the level is read, with all that binds tighter.
pub record ReadsOperand (l : Level) (depth : ℕ) (ts : List Piece) (at end : ℕ) (v : Tree) : Type 0 where
  pub reads : Reads (operand l) depth ts at end (v ∷ [])
  pub quiet : IsQuiet (looseness l) (drop end ts)

-- A chain of the level is read, with all that binds as tightly or tighter.
pub record ReadsChain (l : Level) (depth : ℕ) (ts : List Piece) (at end : ℕ) (v : Tree) : Type 0 where
  pub reads : Reads (sub (chain_of l)) depth ts at end (v ∷ [])
  pub quiet : IsQuiet (looseness l + 1) (drop end ts)

-- Operators of the level are read, each with the operand behind it, as many as there are and at least one. They make these links.
pub record ReadsLinks (l : Level) (depth : ℕ) (ts : List Piece) (at end : ℕ) (links : List Link) : Type 0 where
  pub used : List Tree
  pub linked : Linked l used links
  pub reads : Reads (many (operator l ⨾ operand l)) depth ts at end used
  pub quiet : IsQuiet (looseness l + 1) (drop end ts)
  pub some : links ≢ []
  pub moves : at < end
