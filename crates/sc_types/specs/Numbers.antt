-- The checks of an expression where a number is needed: the operands from left to right, then the operator. They are those of
-- the tree without its addresses, as all checks are, so that alike trees have one fault.
use Rattle.std.specs.Prelude.{Bool, true, false, is_some, Option, Some, None, List, [], ◌∷◌, ◌++◌}
use Rattle.sc_base.specs.declared.Place.{Place}
use Rattle.sc_base.specs.declared.Class.TheVariants.{Q, C}
use Rattle.sc_syntax.specs.declared.NameKind.{NameKind}
use Rattle.sc_syntax.specs.declared.NameKind.TheVariants.{Number, One, Many}
use Rattle.sc_syntax.specs.declared.BinOp.{BinOp}
use Rattle.sc_syntax.specs.declared.NumSort.{NumSort}
use Rattle.sc_syntax.specs.declared.NumSort.TheVariants as num
use Rattle.sc_syntax.specs.Alike.{PureExpr, PureNode, PureLinks}
use Rattle.sc_syntax.specs.NameKind.{Kinds, ◌>>=◌, kind_of, kind_of_operation}
use Rattle.sc_types.specs.declared.fault.TypeFault.TheVariants.{UnknownName, WrongKind, MeasuredUse}
use Rattle.sc_types.specs.Checks.{Check, check}

-- a name stands for a number
abbrev pub is_number : Place → Option NameKind → Check
is_number at None = check false (UnknownName at)
is_number at (Some (Number sort)) = check true (WrongKind at)
is_number at (Some (One C)) = check false (MeasuredUse at)
is_number at (Some (Many C)) = check false (MeasuredUse at)
is_number at (Some (One Q)) = check false (WrongKind at)
is_number at (Some (Many Q)) = check false (WrongKind at)

-- an indexed name is no number
abbrev pub is_indexed : Place → Option NameKind → Check
is_indexed at None = check false (UnknownName at)
is_indexed at (Some (One C)) = check false (MeasuredUse at)
is_indexed at (Some (Many C)) = check false (MeasuredUse at)
is_indexed at (Some _) = check false (WrongKind at)

-- `%`, `<<` and `>>` are for ints alone
abbrev pub may_operate : Place → BinOp → Option NumSort → Option NumSort → Check
may_operate at o a b = check (is_some (a >>= λ x. b >>= kind_of_operation o x)) (WrongKind at)

abbrev mutual
  pub number_node : Kinds → Place → PureNode → List Check
  number_node ks at (PureNode.int n) = []
  number_node ks at (PureNode.decimal d) = []
  number_node ks at (PureNode.name t) = is_number at (ks t) ∷ []
  number_node ks at (PureNode.index t p n) = is_indexed at (ks t) ∷ []
  number_node ks at (PureNode.paren p n) = number_node ks p n
  number_node ks at (PureNode.unary o p n) = number_node ks p n
  number_node ks at (PureNode.chain p n links) = number_node ks p n ++ number_links ks (kind_of ks n) links
  number_node ks at (PureNode.pick p1 n1 p2 n2 p3 n3) = number_node ks p1 n1 ++ (number_node ks p2 n2 ++ number_node ks p3 n3)

  -- a chain is grouped from the left; a is the kind of what stands to the left
  pub number_links : Kinds → Option NumSort → PureLinks → List Check
  number_links ks a PureLinks.no_links = []
  number_links ks a (PureLinks.link o at p n rest) =
      number_node ks p n ++ may_operate at o a (kind_of ks n)
      ∷ number_links ks (a >>= λ x. kind_of ks n >>= kind_of_operation o x) rest

-- a number of either kind: a condition, or where a double is needed
abbrev pub number_checks : Kinds → PureExpr → List Check
number_checks ks e = number_node ks e.place e.node

abbrev pub is_int : Option NumSort → Bool
is_int (Some num.Int) = true
is_int _ = false

-- an int
abbrev pub int_checks : Kinds → PureExpr → List Check
int_checks ks e = number_checks ks e ++ check (is_int (kind_of ks e.node)) (WrongKind e.place) ∷ []
