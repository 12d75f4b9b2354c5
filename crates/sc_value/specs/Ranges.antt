-- Values that fit 64 bits.
use Rattle.std.specs.Prelude.{ℕ, ◌≡◌, true, List, Some, IfOk}
use Rattle.sc_syntax.specs.declared.Expr.{Expr}
use Rattle.sc_syntax.specs.Alike.{PureNode, PureLinks, PureExpr, no_links, link, pure_expr}
use Rattle.sc_syntax.specs.Formed.{IsFormedExpr}
use Rattle.sc_syntax.specs.Written.{IsWritten}
use Rattle.sc_value.specs.declared.Value.{Value}
use Rattle.sc_value.specs.declared.Value.TheVariants.{Int, Double}
use Rattle.sc_value.specs.Numbers.{fits}
use Rattle.sc_value.specs.Expressions.{Values, value}

-- an int, or the units of a double, from -2^63 to 2^63 - 1
abbrev pub IsInRange : Value → Type 0
IsInRange (Int n) = fits n ≡ true
IsInRange (Double d) = fits d.0 ≡ true

-- every known name has a value in range
abbrev pub AreInRange : Values → Type 0
AreInRange values = (name : List ℕ) (v : Value) → values name ≡ Some v → IsInRange v

-- each number of the expression is one that may be written
abbrev mutual
  pub HoldsWritten : PureNode → Type 0
  HoldsWritten (PureNode.int n) = IsWritten n
  HoldsWritten (PureNode.decimal d) = IsWritten d.0
  HoldsWritten (PureNode.name t) = Unit {0}
  HoldsWritten (PureNode.index t p n) = HoldsWritten n
  HoldsWritten (PureNode.paren p n) = HoldsWritten n
  HoldsWritten (PureNode.unary op p n) = HoldsWritten n
  HoldsWritten (PureNode.chain p n links) = HoldsWritten n × LinksHoldWritten links
  HoldsWritten (PureNode.pick p1 n1 p2 n2 p3 n3) = HoldsWritten n1 × HoldsWritten n2 × HoldsWritten n3

  pub LinksHoldWritten : PureLinks → Type 0
  LinksHoldWritten no_links = Unit {0}
  LinksHoldWritten (link op at p n rest) = HoldsWritten n × LinksHoldWritten rest

-- formed expressions hold written numbers alone
abbrev pub FormedHoldWritten : Type 0
FormedHoldWritten = (e : Expr) → IsFormedExpr e → HoldsWritten (pure_expr e).node

-- where the names have values in range, so has the expression
abbrev pub ValuesStayInRange : Type 0
ValuesStayInRange = (values : Values) (e : PureExpr) → AreInRange values → HoldsWritten e.node → IfOk (value values e) IsInRange
