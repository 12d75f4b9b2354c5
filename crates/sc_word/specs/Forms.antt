-- The width of a word expression, and which expressions are bare literals.
use Rattle.std.specs.Prelude.{ℕ, unsigned_abs}
use Rattle.sc_syntax.specs.declared.Width.{Width}
use Rattle.sc_syntax.specs.declared.WordOp.{WordOp}
use Rattle.sc_syntax.specs.declared.WordOp.TheVariants as op
use Rattle.sc_syntax.specs.Alike.{PureWord, PureWordLinks, PureWordExpr}
use Rattle.sc_word.specs.declared.operand.Form.{Form}
use Rattle.sc_word.specs.declared.operand.Form.TheVariants.{Bare, Wide}
use Rattle.sc_word.specs.Words.{Words, width_named}

-- a stated width or shift number; it is not negative
abbrev pub amount : Width → ℕ
amount width = unsigned_abs width.value

-- the width of a word; a bare literal has none of its own
abbrev pub own_width : Form → ℕ
own_width (Bare v) = 0
own_width (Wide w) = w

-- the width of two operands: a bare literal takes that of the other
abbrev pub shared : Form → Form → ℕ
shared (Wide w) b = w
shared (Bare v) b = own_width b

-- the width that an operator gives
abbrev pub op_width : WordOp → ℕ → ℕ
op_width op.Eq w = 1
op_width op.Lt w = 1
op_width _ w = w

-- a bare literal is a number, also in parentheses; all else is a word of a width
abbrev mutual
  pub form_node : Words → PureWord → Form
  form_node ws (PureWord.int n) = Bare (unsigned_abs n)
  form_node ws (PureWord.name t) = Wide (width_named ws t)
  form_node ws (PureWord.paren p n) = form_node ws n
  form_node ws (PureWord.not p n) = Wide (own_width (form_node ws n))
  form_node ws (PureWord.chain p n links) = Wide (row_width ws (form_node ws n) links)
  form_node ws (PureWord.shift p n links) = Wide (own_width (form_node ws n))
  form_node ws (PureWord.pick p1 n1 p2 n2 p3 n3) = Wide (shared (form_node ws n2) (form_node ws n3))
  form_node ws (PureWord.ext p n w) = Wide (amount w)
  form_node ws (PureWord.low p n w) = Wide (amount w)

  -- a chain is grouped from the left
  pub row_width : Words → Form → PureWordLinks → ℕ
  row_width ws a PureWordLinks.no_links = own_width a
  row_width ws a (PureWordLinks.link o at p n rest) = row_width ws (Wide (op_width o (shared a (form_node ws n)))) rest

abbrev pub form : Words → PureWordExpr → Form
form ws e = form_node ws e.node
