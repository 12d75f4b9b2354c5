-- The kind of an expression: `int` or `double`, for a map of names to kinds. It is that of the tree without its
-- addresses, so that alike expressions have one kind.
use Rattle.std.specs.Prelude.{ℕ, ◌≡◌, List, Option, Some, None}
pub use Rattle.sc_base.specs.Options.{◌>>=◌}
use Rattle.sc_syntax.specs.declared.kind.NameKind.{NameKind}
use Rattle.sc_syntax.specs.declared.kind.NameKind.TheVariants.{Number}
use Rattle.sc_syntax.specs.declared.tree.BinOp.{BinOp}
use Rattle.sc_syntax.specs.declared.tree.BinOp.TheVariants as op
use Rattle.sc_syntax.specs.declared.tree.UnOp.{UnOp}
use Rattle.sc_syntax.specs.declared.tree.UnOp.TheVariants as un
use Rattle.sc_syntax.specs.declared.tree.NumSort.{NumSort}
use Rattle.sc_syntax.specs.declared.tree.NumSort.TheVariants as num
use Rattle.sc_syntax.specs.declared.tree.Expr.{Expr}
use Rattle.sc_syntax.specs.declared.tree.Node.{Node, Row_of-Link}
use Rattle.sc_syntax.specs.Alike.{PureNode, PureLinks, no_links, link, pure_node, pure_links}

-- what each known name stands for
abbrev pub Kinds : Type 0
Kinds = List ℕ → Option NameKind

-- a name that stands for a number has a kind, and no other has
abbrev pub number_kind : Option NameKind → Option NumSort
number_kind (Some (Number sort)) = Some sort
number_kind _ = None

-- of two operands, a double makes the other one a double
abbrev pub wider : NumSort → NumSort → NumSort
wider num.Int num.Int = num.Int
wider _ _ = num.Double

-- what is there for two ints alone
abbrev pub both_int : NumSort → NumSort → Option NumSort
both_int num.Int num.Int = Some num.Int
both_int _ _ = None

-- the kind of an operation on operands of these kinds, if it may be done
abbrev pub kind_of_operation : BinOp → NumSort → NumSort → Option NumSort
kind_of_operation op.Add a b = Some (wider a b)
kind_of_operation op.Sub a b = Some (wider a b)
kind_of_operation op.Mul a b = Some (wider a b)
kind_of_operation op.Div a b = Some (wider a b)
kind_of_operation op.Rem a b = both_int a b
kind_of_operation op.Shl a b = both_int a b
kind_of_operation op.Shr a b = both_int a b
kind_of_operation _ a b = Some num.Int

abbrev pub kind_of_unary : UnOp → NumSort → NumSort
kind_of_unary un.Not a = num.Int
kind_of_unary _ a = a

-- a chain groups from the left; the branches of `?:` are operands of each other
abbrev mutual
  pub kind_of : Kinds → PureNode → Option NumSort
  kind_of kinds (PureNode.int n) = Some num.Int
  kind_of kinds (PureNode.decimal d) = Some num.Double
  kind_of kinds (PureNode.name t) = number_kind (kinds t)
  kind_of kinds (PureNode.index t p n) = None
  kind_of kinds (PureNode.paren p n) = kind_of kinds n
  kind_of kinds (PureNode.unary op p n) = kind_of kinds n >>= λ a. Some (kind_of_unary op a)
  kind_of kinds (PureNode.chain p n links) = kind_of kinds n >>= kind_of_links kinds links
  kind_of kinds (PureNode.pick p1 n1 p2 n2 p3 n3) =
      kind_of kinds n1 >>= λ test. kind_of kinds n2 >>= λ a. kind_of kinds n3 >>= λ b. Some (wider a b)

  -- of a chain whose operands so far have a kind
  pub kind_of_links : Kinds → PureLinks → NumSort → Option NumSort
  kind_of_links kinds no_links a = Some a
  kind_of_links kinds (link op at p n rest) a = kind_of kinds n >>= λ b. kind_of_operation op a b >>= kind_of_links kinds rest

-- the same of trees
abbrev pub kind_of_node : Kinds → Node → Option NumSort
kind_of_node kinds n = kind_of kinds (pure_node n)

abbrev pub kind_of_row : {m : _} → Kinds → Row_of-Link m → NumSort → Option NumSort
kind_of_row kinds row a = kind_of_links kinds (pure_links row) a

-- the kind of an expression, if it is well typed as a number
abbrev pub kind_of_expr : Kinds → Expr → Option NumSort
kind_of_expr kinds e = kind_of kinds (pure_node e.node)

-- the expression is well typed as a number
abbrev pub IsNumber : Kinds → Expr → Type 0
IsNumber kinds e = (sort : NumSort) × (kind_of_expr kinds e ≡ Some sort)
