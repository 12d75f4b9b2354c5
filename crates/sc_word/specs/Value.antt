-- The value of a word expression: a whole number modulo 2^w, by cases on the typed tree.
use Rattle.std.specs.Prelude.{ℕ, zero, suc, ◌+◌, ◌-◌, ◌*◌, ◌/◌, ◌%◌, ◌^◌, ◌<◌, Bool, true, false, nat_eq, nat_lt, bit_and, bit_or, bit_xor, if◌then◌else◌, List, [], ◌∷◌, ◌++◌, slice_index}
use Rattle.sc_syntax.specs.declared.WordOp.{WordOp}
use Rattle.sc_syntax.specs.declared.WordOp.TheVariants as op
use Rattle.sc_syntax.specs.declared.ShiftLink.{ShiftLink}
use Rattle.sc_word.specs.Pure.{PureTyped, PureTypedLinks, PureTypedExpr}
use Rattle.sc_word.specs.Forms.{amount, op_width}
use Rattle.sc_word.specs.Typed.{TypedWords}
use Rattle.sc_word.specs.Fits.{IsTypedFn}

abbrev pub truth : Bool → ℕ
truth true = 1
truth false = 0

-- the value of an operation on words of width w; `<` compares without sign
abbrev pub op_value : WordOp → ℕ → ℕ → ℕ → ℕ
op_value op.Or w a b = bit_or a b
op_value op.Xor w a b = bit_xor a b
op_value op.And w a b = bit_and a b
op_value op.Eq w a b = truth (nat_eq a b)
op_value op.Lt w a b = truth (nat_lt a b)
op_value op.Add w a b = (a + b) % 2 ^ w
op_value op.Sub w a b = (a + 2 ^ w - b) % 2 ^ w
op_value op.Mul w a b = (a * b) % 2 ^ w

-- the value of a word of width w after a shift, which fills with zeros
abbrev pub shift_value : ℕ → ShiftLink → ℕ → ℕ
shift_value w link a = if link.left then (a * 2 ^ amount link.by) % 2 ^ w else a / 2 ^ amount link.by

abbrev pub shifts_value : ℕ → List ShiftLink → ℕ → ℕ
shifts_value w [] a = a
shifts_value w (l ∷ ls) a = shifts_value w ls (shift_value w l a)

abbrev pub picked : ℕ → ℕ → ℕ → ℕ
picked zero a b = b
picked (suc test) a b = a

-- a node of width w, where the words have these values
abbrev mutual
  pub value_node : List ℕ → ℕ → PureTyped → ℕ
  value_node values w (PureTyped.literal v) = v
  value_node values w (PureTyped.word i) = slice_index values i
  value_node values w (PureTyped.not x n) = 2 ^ w - 1 - value_node values x n
  value_node values w (PureTyped.chain x n links) = value_row values x (value_node values x n) links
  value_node values w (PureTyped.shift x n links) = shifts_value w links (value_node values x n)
  value_node values w (PureTyped.pick x n y m z o) = picked (value_node values x n) (value_node values y m) (value_node values z o)
  value_node values w (PureTyped.ext x n) = value_node values x n
  value_node values w (PureTyped.low x n) = value_node values x n % 2 ^ w

  -- a chain is grouped from the left
  pub value_row : List ℕ → ℕ → ℕ → PureTypedLinks → ℕ
  value_row values w a PureTypedLinks.no_links = a
  value_row values w a (PureTypedLinks.link o x n rest) = value_row values (op_width o w) (op_value o w a (value_node values x n)) rest

abbrev pub value : List ℕ → PureTypedExpr → ℕ
value values e = value_node values e.width e.node

-- the bindings in order, and then the returned expression
abbrev pub value_all : List ℕ → List PureTypedExpr → PureTypedExpr → ℕ
value_all values [] e = value values e
value_all values (b ∷ bs) e = value_all (values ++ value values b ∷ []) bs e

-- the value of a function for values of its parameters
abbrev pub fn_value : TypedWords → List ℕ → ℕ
fn_value t inputs = value_all inputs t.binds t.returned

-- values of these widths
abbrev pub AreValues : List ℕ → List ℕ → Type 0
AreValues [] [] = Unit {0}
AreValues (v ∷ values) (w ∷ widths) = (v < 2 ^ w) × AreValues values widths
AreValues _ _ = ⊥

-- the value of a well typed function is a number of its width
pub record ValuesFit : Type 0 where
  pub fits : (t : TypedWords) (inputs : List ℕ) → IsTypedFn t → AreValues inputs t.params → fn_value t inputs < 2 ^ t.returned.width
