-- The right sides of the grammar's rules, as data.
use Rattle.std.specs.Prelude.{List, [], ◌∷◌}
use Rattle.sc_syntax.specs.declared.Mark.{Mark}
use Rattle.sc_syntax.specs.declared.Word.{Word}
use Rattle.sc_parse.specs.declared.terminal.Terminal.{Terminal}
use Rattle.sc_parse.specs.declared.terminal.Terminal.TheVariants.{Word as reserved, Mark as marked}

-- the symbols of the grammar
pub data Symbol : Type 0 where
  Module : Symbol
  Param : Symbol
  Wire : Symbol
  Num : Symbol
  Stmt : Symbol
  Decl : Symbol
  Init : Symbol
  Start : Symbol
  Set : Symbol
  Step : Symbol
  Meas : Symbol
  Expr : Symbol
  Or : Symbol
  And : Symbol
  Equal : Symbol
  Order : Symbol
  Shift : Symbol
  Sum : Symbol
  Prod : Symbol
  Unary : Symbol
  Prim : Symbol
  Words : Symbol
  WParam : Symbol
  Bind : Symbol
  WExpr : Symbol
  WOr : Symbol
  WXor : Symbol
  WAnd : Symbol
  WEq : Symbol
  WLess : Symbol
  WShift : Symbol
  WSum : Symbol
  WProd : Symbol
  WUnary : Symbol
  WPrim : Symbol
  Name : Symbol
  MainName : Symbol
  Width : Symbol

-- the right side of a rule
pub data Form : Type 0 where
  -- nothing
  empty : Form
  -- one token that the terminal takes
  one : Terminal → Form
  -- a phrase of this symbol
  sub : Symbol → Form
  -- one, then the other
  ◌⨾◌ : Form → Form → Form
  -- one or the other
  ◌∣◌ : Form → Form → Form
  -- any number of them
  many : Form → Form
  -- its tokens are nested one deeper
  nested : Form → Form
  -- nothing, where the terminal does not take the next token
  unless : Terminal → Form

infixr 5 ◌⨾◌
infixr 4 ◌∣◌
-- a reserved word
abbrev pub word : Word → Form
word w = one (reserved w)

-- a mark
abbrev pub mark : Mark → Form
mark m = one (marked m)

-- a part that may be absent
abbrev pub optional : Form → Form
optional f = f ∣ empty

-- one of these marks
abbrev pub choice : List Mark → Form
choice [] = empty
choice (m ∷ []) = mark m
choice (m ∷ n ∷ ms) = mark m ∣ choice (n ∷ ms)
