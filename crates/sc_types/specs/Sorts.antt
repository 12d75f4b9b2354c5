-- The kind of an expression, or its first fault: what the functions of this crate promise one another.
use Rattle.std.specs.Prelude.{Option, Some, None, List, [], ◌∷◌, Result, Ok, Err}
use Rattle.sc_base.specs.declared.Place.{Place}
use Rattle.sc_base.specs.declared.Class.TheVariants.{Q, C}
use Rattle.sc_syntax.specs.declared.NameKind.{NameKind}
use Rattle.sc_syntax.specs.declared.NameKind.TheVariants as kind
use Rattle.sc_syntax.specs.declared.NumSort.{NumSort}
use Rattle.sc_syntax.specs.declared.NumSort.TheVariants as num
use Rattle.sc_syntax.specs.declared.Link.{Link}
use Rattle.sc_syntax.specs.declared.Expr.{Expr}
use Rattle.sc_syntax.specs.declared.Node.{Node, Int, Decimal, Name, Index', Paren', Unary', Chain', Pick', Row_of-Link, end_of-Link, more_of-Link}
use Rattle.sc_syntax.specs.NameKind.{Kinds, wider, kind_of_operation, kind_of_unary}
use Rattle.sc_types.specs.declared.fault.TypeFault.{TypeFault}
use Rattle.sc_types.specs.declared.fault.TypeFault.TheVariants.{UnknownName, WrongKind, MeasuredUse}

infixl 10 ◌>>=◌
abbrev pub ◌>>=◌ : {A B : Type 0} → Result A TypeFault → (A → Result B TypeFault) → Result B TypeFault
Ok x >>= f = f x
Err e >>= f = Err e

abbrev pub sort_of_name : Place → Option NameKind → Result NumSort TypeFault
sort_of_name at None = Err (UnknownName at)
sort_of_name at (Some (kind.Number s)) = Ok s
sort_of_name at (Some (kind.One C)) = Err (MeasuredUse at)
sort_of_name at (Some (kind.Many C)) = Err (MeasuredUse at)
sort_of_name at (Some (kind.One Q)) = Err (WrongKind at)
sort_of_name at (Some (kind.Many Q)) = Err (WrongKind at)

abbrev pub fault_of_indexed : Place → Option NameKind → TypeFault
fault_of_indexed at None = UnknownName at
fault_of_indexed at (Some (kind.One C)) = MeasuredUse at
fault_of_indexed at (Some (kind.Many C)) = MeasuredUse at
fault_of_indexed at (Some _) = WrongKind at

abbrev pub or_wrong : Place → Option NumSort → Result NumSort TypeFault
or_wrong at None = Err (WrongKind at)
or_wrong at (Some s) = Ok s

abbrev mutual
  pub sort_of_node : Kinds → Place → Node → Result NumSort TypeFault
  sort_of_node ks at (Int n) = Ok num.Int
  sort_of_node ks at (Decimal d) = Ok num.Double
  sort_of_node ks at (Name t) = sort_of_name at (ks t)
  sort_of_node ks at (Index' t b p n) = Err (fault_of_indexed at (ks t))
  sort_of_node ks at (Paren' b p n) = sort_of_node ks p n
  sort_of_node ks at (Unary' o b p n) = sort_of_node ks p n >>= λ a. Ok (kind_of_unary o a)
  sort_of_node ks at (Chain' b p n shape row) = sort_of_node ks p n >>= sort_of_row ks row
  sort_of_node ks at (Pick' b1 p1 n1 b2 p2 n2 b3 p3 n3) =
      sort_of_node ks p1 n1 >>= λ test. sort_of_node ks p2 n2 >>= λ a. sort_of_node ks p3 n3 >>= λ b. Ok (wider a b)

  pub sort_of_row : {m : _} → Kinds → Row_of-Link m → NumSort → Result NumSort TypeFault
  sort_of_row ks end_of-Link a = Ok a
  sort_of_row ks (more_of-Link o at p n rest) a =
      sort_of_node ks p n >>= λ b. or_wrong at (kind_of_operation o a b) >>= sort_of_row ks rest

abbrev pub sort_of : Kinds → Expr → Result NumSort TypeFault
sort_of ks e = sort_of_node ks e.place e.node

-- the same of links as a list
abbrev pub sort_of_links : Kinds → List Link → NumSort → Result NumSort TypeFault
sort_of_links ks [] a = Ok a
sort_of_links ks (l ∷ ls) a = sort_of ks l.right >>= λ b. or_wrong l.place (kind_of_operation l.op a b) >>= sort_of_links ks ls

-- an int
abbrev pub or_not_int : Place → NumSort → Result NumSort TypeFault
or_not_int at num.Int = Ok num.Int
or_not_int at num.Double = Err (WrongKind at)

abbrev pub int_of : Kinds → Expr → Result NumSort TypeFault
int_of ks e = sort_of ks e >>= or_not_int e.place
