-- Typed words without addresses: one tree, wherever its boxes and lists lie in memory.
use Rattle.std.specs.Prelude.{ℕ, List, [], ◌∷◌, map}
use Rattle.sc_syntax.specs.declared.WordOp.{WordOp}
use Rattle.sc_syntax.specs.declared.ShiftLink.{ShiftLink}
use Rattle.sc_syntax.specs.declared.Width.{Width}
use Rattle.sc_syntax.specs.declared.WordParam.{WordParam}
use Rattle.sc_syntax.specs.declared.WordFn.{WordFn}
use Rattle.sc_syntax.specs.Alike.{PureWordExpr, PureBind, pure_word_expr, pure_bind}
use Rattle.sc_word.specs.declared.tree.TypedExpr.{TypedExpr}
use Rattle.sc_word.specs.declared.tree.TypedLink.{TypedLink}
use Rattle.sc_word.specs.declared.tree.TypedNode.{TypedNode, Literal, Word, Not', Chain', Shift', Pick', Ext', Low', Row_of-TypedLink, end_of-TypedLink, more_of-TypedLink}

-- ---- typed expressions; the width of a part stands before the part

mutual
  pub data PureTyped : Type 0 where
    literal : ℕ → PureTyped
    -- a parameter or a binding by its number
    word : ℕ → PureTyped
    not : ℕ → PureTyped → PureTyped
    chain : ℕ → PureTyped → PureTypedLinks → PureTyped
    shift : ℕ → PureTyped → List ShiftLink → PureTyped
    pick : ℕ → PureTyped → ℕ → PureTyped → ℕ → PureTyped → PureTyped
    ext : ℕ → PureTyped → PureTyped
    low : ℕ → PureTyped → PureTyped

  -- the operators of a chain with their right operands
  pub data PureTypedLinks : Type 0 where
    no_links : PureTypedLinks
    link : WordOp → ℕ → PureTyped → PureTypedLinks → PureTypedLinks

pub record PureTypedExpr : Type 0 where
  pub width : ℕ
  pub node : PureTyped

abbrev mutual
  pub pure_typed : TypedNode → PureTyped
  pure_typed (Literal v) = literal v
  pure_typed (Word i) = word i
  pure_typed (Not' b x n) = not x (pure_typed n)
  pure_typed (Chain' b x n shape row) = chain x (pure_typed n) (pure_typed_row row)
  pure_typed (Shift' b x n links) = shift x (pure_typed n) links
  pure_typed (Pick' b x n c y m d z o) = pick x (pure_typed n) y (pure_typed m) z (pure_typed o)
  pure_typed (Ext' b x n) = ext x (pure_typed n)
  pure_typed (Low' b x n) = low x (pure_typed n)

  pub pure_typed_row : {k : _} → Row_of-TypedLink k → PureTypedLinks
  pure_typed_row end_of-TypedLink = no_links
  pure_typed_row (more_of-TypedLink o x n rest) = link o x (pure_typed n) (pure_typed_row rest)

abbrev pub pure_typed_expr : TypedExpr → PureTypedExpr
pure_typed_expr e = record { width = e.width; node = pure_typed e.node }

-- the links of a typed chain as a list
abbrev pub pure_typed_links : List TypedLink → PureTypedLinks
pure_typed_links [] = no_links
pure_typed_links (l ∷ ls) = link l.op l.right.width (pure_typed l.right.node) (pure_typed_links ls)

-- ---- what is typed

-- a classical function without addresses. Its own name is no part of it: that belongs to the names of the whole source
pub record PureWordFn : Type 0 where
  pub params : List WordParam
  pub width : Width
  pub binds : List PureBind
  pub result : PureWordExpr

abbrev pub pure_word_fn : WordFn → PureWordFn
pure_word_fn f = record { params = f.params; width = f.width; binds = map pure_bind f.binds; result = pure_word_expr f.result }
