-- An expression depends on the names that it uses, and on no other.
use Rattle.std.specs.Prelude.{ℕ, ◌≡◌, ◌⊎◌, List, Option, Some}
use Rattle.std.specs.Option.{option_map}
use Rattle.sc_syntax.specs.declared.NameKind.TheVariants.{Number}
use Rattle.sc_syntax.specs.declared.Expr.{Expr}
use Rattle.sc_syntax.specs.declared.NumSort.{NumSort}
use Rattle.sc_syntax.specs.Alike.{PureNode, PureLinks, PureExpr, no_links, link, pure_expr}
use Rattle.sc_syntax.specs.NameKind.{Kinds, kind_of}
use Rattle.sc_value.specs.Expressions.{Values, sort_of, kinds_of, value, value_of_expr}

-- the name stands in the expression
abbrev mutual
  pub Uses : PureNode → List ℕ → Type 0
  Uses (PureNode.int n) name = ⊥
  Uses (PureNode.decimal d) name = ⊥
  Uses (PureNode.name t) name = t ≡ name
  Uses (PureNode.index t p n) name = (t ≡ name) ⊎ Uses n name
  Uses (PureNode.paren p n) name = Uses n name
  Uses (PureNode.unary op p n) name = Uses n name
  Uses (PureNode.chain p n links) name = Uses n name ⊎ UsesInLinks links name
  Uses (PureNode.pick p1 n1 p2 n2 p3 n3) name = Uses n1 name ⊎ (Uses n2 name ⊎ Uses n3 name)

  pub UsesInLinks : PureLinks → List ℕ → Type 0
  UsesInLinks no_links name = ⊥
  UsesInLinks (link op at p n rest) name = Uses n name ⊎ UsesInLinks rest name

-- two maps of names say the same of each name in the expression
abbrev pub AgreeOn : {A : Type 0} → PureNode → (List ℕ → Option A) → (List ℕ → Option A) → Type 0
AgreeOn n f g = (name : List ℕ) → Uses n name → f name ≡ g name

-- maps of names that agree on the names of an expression give it one kind
abbrev pub HasKindOfItsNames : Type 0
HasKindOfItsNames = (f g : Kinds) (n : PureNode) → AgreeOn n f g → kind_of f n ≡ kind_of g n

-- and one value
abbrev pub HasValueOfItsNames : Type 0
HasValueOfItsNames = (f g : Values) (e : PureExpr) → AgreeOn e.node f g → value f e ≡ value g e

-- Every name that stands for a number has a value of that kind. Of other names, as of a wire that hides a number,
-- nothing is said.
abbrev pub AreValuesOf : Kinds → Values → Type 0
AreValuesOf kinds values = (name : List ℕ) (sort : NumSort) → kinds name ≡ Some (Number sort) → option_map sort_of (values name) ≡ Some sort

-- what is well typed as a number uses names of numbers alone
abbrev pub UsesNumbers : Type 0
UsesNumbers = (kinds : Kinds) (n : PureNode) (sort : NumSort) → kind_of kinds n ≡ Some sort
    → (name : List ℕ) → Uses n name → (of : NumSort) × (kinds name ≡ Some (Number of))

-- so it has the same kind for the values of those numbers, whatever else has a value
abbrev pub HasKindOfItsValues : Type 0
HasKindOfItsValues = (kinds : Kinds) (values : Values) (n : PureNode) (sort : NumSort)
    → AreValuesOf kinds values → kind_of kinds n ≡ Some sort → kind_of (kinds_of values) n ≡ Some sort

-- expressions that are alike have one value
abbrev pub HaveOneValue : Type 0
HaveOneValue = (values : Values) (d e : Expr) → pure_expr d ≡ pure_expr e → value_of_expr values d ≡ value_of_expr values e
