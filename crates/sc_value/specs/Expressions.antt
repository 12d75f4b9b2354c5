-- The value of an expression, or its first fault in the order in which operands are evaluated.
use Rattle.std.specs.Prelude.{ℕ, ◌≡◌, if◌then◌else◌, true, false, pos, List, Option, Some, Result, Ok, IfOk}
use Rattle.std.specs.Option.{option_map, unwrap_or}
use Rattle.sc_base.specs.declared.Place.{Place}
use Rattle.sc_syntax.specs.declared.BinOp.{BinOp}
use Rattle.sc_syntax.specs.declared.BinOp.TheVariants as op
use Rattle.sc_syntax.specs.declared.NumSort.{NumSort}
use Rattle.sc_syntax.specs.declared.NumSort.TheVariants as num
use Rattle.sc_syntax.specs.declared.NameKind.TheVariants.{Number}
use Rattle.sc_syntax.specs.declared.Expr.{Expr}
use Rattle.sc_syntax.specs.Alike.{PureNode, PureLinks, PureExpr, no_links, link, pure_expr}
use Rattle.sc_syntax.specs.NameKind.{Kinds, kind_of, kind_of_expr}
use Rattle.sc_value.specs.declared.Value.{Value}
use Rattle.sc_value.specs.declared.Value.TheVariants as v
use Rattle.sc_value.specs.declared.EvalFault.{EvalFault}
use Rattle.sc_value.specs.Numbers.{◌>>=◌, apply, unary, truth, is_true, beside}

-- the value of each known name
abbrev pub Values : Type 0
Values = List ℕ → Option Value

abbrev pub sort_of : Value → NumSort
sort_of (v.Int n) = num.Int
sort_of (v.Double d) = num.Double

-- the kind of each known name
abbrev pub kinds_of : Values → Kinds
kinds_of values name = option_map (λ value. Number (sort_of value)) (values name)

-- the left operand a, and what evaluating the right operand gives where it is needed
abbrev pub step : BinOp → Place → Value → Result Value EvalFault → Result Value EvalFault
step op.Or at a right = if is_true a then Ok (truth true) else (right >>= λ b. Ok (truth (is_true b)))
step op.And at a right = if is_true a then (right >>= λ b. Ok (truth (is_true b))) else Ok (truth false)
step op at a right = right >>= apply op at a

-- a name that is not known and an indexed name, which no well-typed expression has, count as 0
abbrev mutual
  pub value_of : Values → Place → PureNode → Result Value EvalFault
  value_of values at (PureNode.int n) = Ok (v.Int n)
  value_of values at (PureNode.decimal d) = Ok (v.Double d)
  value_of values at (PureNode.name t) = Ok (unwrap_or (values t) (v.Int (pos 0)))
  value_of values at (PureNode.index t p n) = Ok (v.Int (pos 0))
  value_of values at (PureNode.paren p n) = value_of values p n
  value_of values at (PureNode.unary op p n) = value_of values p n >>= unary op at
  value_of values at (PureNode.chain p n links) = value_of values p n >>= value_of_links values links
  value_of values at (PureNode.pick p1 n1 p2 n2 p3 n3) =
      value_of values p1 n1 >>= λ test.
      if is_true test
      then (value_of values p2 n2 >>= beside (kind_of (kinds_of values) n3) p2)
      else (value_of values p3 n3 >>= beside (kind_of (kinds_of values) n2) p3)

  -- of a chain whose operands so far have a value
  pub value_of_links : Values → PureLinks → Value → Result Value EvalFault
  value_of_links values no_links a = Ok a
  value_of_links values (link op at p n rest) a = step op at a (value_of values p n) >>= value_of_links values rest

-- the value of an expression without addresses, or its first fault
abbrev pub value : Values → PureExpr → Result Value EvalFault
value values e = value_of values e.place e.node

-- the same of an expression, wherever its parts lie in memory
abbrev pub value_of_expr : Values → Expr → Result Value EvalFault
value_of_expr values e = value values (pure_expr e)

-- where the expression is well typed as a number of a kind, its value is of that kind
abbrev pub IsOfItsKind : Kinds → Expr → Result Value EvalFault → Type 0
IsOfItsKind kinds e result = (sort : NumSort) → kind_of_expr kinds e ≡ Some sort → IfOk result (λ value. sort_of value ≡ sort)
