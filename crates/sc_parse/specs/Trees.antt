-- What the parts of a phrase stand for.
use Rattle.std.specs.Prelude.{Bool, true, false, List, [], ◌∷◌, Option, Some, None}
use Rattle.sc_base.specs.declared.Class.{Class}
use Rattle.sc_base.specs.declared.Class.TheVariants as class
use Rattle.sc_base.specs.declared.GateName.{GateName}
use Rattle.sc_base.specs.declared.Place.{Place}
use Rattle.sc_syntax.specs.declared.Mark.{Mark}
use Rattle.sc_syntax.specs.declared.Mark.TheVariants as m
use Rattle.sc_syntax.specs.declared.Word.{Word}
use Rattle.sc_syntax.specs.declared.Word.TheVariants as w
use Rattle.sc_syntax.specs.declared.Name.{Name}
use Rattle.sc_syntax.specs.declared.NumSort.{NumSort}
use Rattle.sc_syntax.specs.declared.NumSort.TheVariants as number
use Rattle.sc_syntax.specs.declared.UnOp.{UnOp}
use Rattle.sc_syntax.specs.declared.UnOp.TheVariants as unary
use Rattle.sc_syntax.specs.declared.BinOp.{BinOp}
use Rattle.sc_syntax.specs.declared.BinOp.TheVariants as binary
use Rattle.sc_syntax.specs.declared.WordOp.{WordOp}
use Rattle.sc_syntax.specs.declared.WordOp.TheVariants as wordop
use Rattle.sc_syntax.specs.declared.SetOp.{SetOp}
use Rattle.sc_syntax.specs.declared.SetOp.TheVariants as set
use Rattle.sc_syntax.specs.declared.Expr.{Expr}
use Rattle.sc_syntax.specs.declared.WordExpr.{WordExpr}
use Rattle.sc_syntax.specs.declared.Stmt.{Stmt}
use Rattle.sc_syntax.specs.declared.Decl.{Decl}
use Rattle.sc_syntax.specs.declared.Init.{Init}
use Rattle.sc_syntax.specs.declared.Operand.{Operand}
use Rattle.sc_syntax.specs.declared.Param.{Param}
use Rattle.sc_syntax.specs.declared.Part.{Part}
use Rattle.sc_syntax.specs.declared.Width.{Width}
use Rattle.sc_syntax.specs.declared.WordParam.{WordParam}
use Rattle.sc_syntax.specs.declared.Bind.{Bind}
use Rattle.sc_parse.specs.declared.expr.Level.{Level}
use Rattle.sc_parse.specs.declared.expr.Level.TheVariants as level
use Rattle.sc_parse.specs.declared.word.WordLevel.{WordLevel}
use Rattle.sc_parse.specs.declared.word.WordLevel.TheVariants as wlevel
use Rattle.sc_parse.specs.Pieces.{Piece}

-- A part of a phrase: a token, or what a symbol stands for.
pub data Tree : Type 0 where
  token : Piece → Tree
  name : Name → Tree
  width : Width → Tree
  wire : Class → Place → Tree
  num : NumSort → Place → Tree
  expr : Expr → Tree
  decl : Decl → Tree
  init : Init → Tree
  stmt : Stmt → Tree
  meas : GateName → Operand → Tree
  param : Param → Tree
  part : Part → Tree
  word_expr : WordExpr → Tree
  word_param : WordParam → Tree
  bind : Bind → Tree

-- the parts that are no tokens
abbrev pub kept : List Tree → List Tree
kept [] = []
kept (token p ∷ vs) = kept vs
kept (v ∷ vs) = v ∷ kept vs

-- the parts of a list
abbrev pub each : {X : Type 0} → (X → Tree) → List X → List Tree
each wrap [] = []
each wrap (x ∷ xs) = wrap x ∷ each wrap xs

-- the part of something that may be absent
abbrev pub if_there : {X : Type 0} → (X → Tree) → Option X → List Tree
if_there wrap None = []
if_there wrap (Some x) = wrap x ∷ []

-- the name that a token is
abbrev pub name_of : Piece → Name
name_of p = record { text = p.text; place = p.token.place }

-- the class of wires that a word declares
abbrev pub class_of : Word → Option Class
class_of w.Qbit = Some class.Q
class_of w.Cbit = Some class.C
class_of _ = None

-- the kind of number that a word declares
abbrev pub number_of : Word → Option NumSort
number_of w.Int = Some number.Int
number_of w.Double = Some number.Double
number_of w.Float = Some number.Double
number_of _ = None

-- what a mark before an operand means
abbrev pub unary_of : Mark → Option UnOp
unary_of m.Minus = Some unary.Minus
unary_of m.Plus = Some unary.Plus
unary_of m.Bang = Some unary.Not
unary_of _ = None

-- what a mark between two operands means
abbrev pub binary_of : Mark → Option BinOp
binary_of m.OrOr = Some binary.Or
binary_of m.AndAnd = Some binary.And
binary_of m.EqEq = Some binary.Eq
binary_of m.NotEq = Some binary.Ne
binary_of m.Less = Some binary.Lt
binary_of m.LessEq = Some binary.Le
binary_of m.Greater = Some binary.Gt
binary_of m.GreaterEq = Some binary.Ge
binary_of m.ShiftLeft = Some binary.Shl
binary_of m.ShiftRight = Some binary.Shr
binary_of m.Plus = Some binary.Add
binary_of m.Minus = Some binary.Sub
binary_of m.Star = Some binary.Mul
binary_of m.Slash = Some binary.Div
binary_of m.Percent = Some binary.Rem
binary_of _ = None

-- what a mark between two words means
abbrev pub word_binary_of : Mark → Option WordOp
word_binary_of m.Or = Some wordop.Or
word_binary_of m.Caret = Some wordop.Xor
word_binary_of m.And = Some wordop.And
word_binary_of m.EqEq = Some wordop.Eq
word_binary_of m.Less = Some wordop.Lt
word_binary_of m.Plus = Some wordop.Add
word_binary_of m.Minus = Some wordop.Sub
word_binary_of m.Star = Some wordop.Mul
word_binary_of _ = None

-- whether a mark shifts to the left
abbrev pub shift_of : Mark → Option Bool
shift_of m.ShiftLeft = Some true
shift_of m.ShiftRight = Some false
shift_of _ = None

-- how a mark sets a number by a value
abbrev pub set_of : Mark → Option SetOp
set_of m.Eq = Some set.Put
set_of m.PlusEq = Some set.Add
set_of m.MinusEq = Some set.Sub
set_of m.StarEq = Some set.Mul
set_of m.SlashEq = Some set.Div
set_of m.PercentEq = Some set.Rem
set_of _ = None

-- how a mark sets a number without a value
abbrev pub step_of : Mark → Option SetOp
step_of m.PlusPlus = Some set.Up
step_of m.MinusMinus = Some set.Down
step_of _ = None

-- the level of an operator
abbrev pub level_of : BinOp → Level
level_of binary.Or = level.Or
level_of binary.And = level.And
level_of binary.Eq = level.Equal
level_of binary.Ne = level.Equal
level_of binary.Lt = level.Order
level_of binary.Le = level.Order
level_of binary.Gt = level.Order
level_of binary.Ge = level.Order
level_of binary.Shl = level.Shift
level_of binary.Shr = level.Shift
level_of binary.Add = level.Sum
level_of binary.Sub = level.Sum
level_of binary.Mul = level.Product
level_of binary.Div = level.Product
level_of binary.Rem = level.Product

-- the level of an operator on words
abbrev pub word_level_of : WordOp → WordLevel
word_level_of wordop.Or = wlevel.Or
word_level_of wordop.Xor = wlevel.Xor
word_level_of wordop.And = wlevel.And
word_level_of wordop.Eq = wlevel.Equal
word_level_of wordop.Lt = wlevel.Less
word_level_of wordop.Add = wlevel.Sum
word_level_of wordop.Sub = wlevel.Sum
word_level_of wordop.Mul = wlevel.Product
