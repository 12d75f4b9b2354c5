-- What acceptance gives, over trees without addresses: each expression has its kind, each call fits what it calls, and each
-- name is declared once in its scope.
use Rattle.std.specs.Prelude.{◌≡◌, ℕ, ◌+◌, Bool, true, Option, Some, None, List, [], ◌∷◌, ◌++◌, length}
use Rattle.std.specs.List.{list_any}
use Rattle.sc_base.specs.declared.Class.{Class}
use Rattle.sc_base.specs.declared.Class.TheVariants.{Q, C}
use Rattle.sc_syntax.specs.declared.NameKind.{NameKind}
use Rattle.sc_syntax.specs.declared.NameKind.TheVariants as kind
use Rattle.sc_syntax.specs.declared.NumSort.{NumSort}
use Rattle.sc_syntax.specs.declared.NumSort.TheVariants as num
use Rattle.sc_syntax.specs.declared.BinOp.{BinOp}
use Rattle.sc_syntax.specs.declared.SetOp.{SetOp}
use Rattle.sc_syntax.specs.declared.Name.{Name}
use Rattle.sc_syntax.specs.declared.Callee.{Callee}
use Rattle.sc_syntax.specs.declared.Callee.TheVariants as callee
use Rattle.sc_syntax.specs.Alike.{PureExpr, PureNode, PureNamed, PureAct, PureHeld, PureStmts, wires, numbers, set, measure, call, if_else, while_loop, for_loop, block, empty, absent, held, no_stmts, stmt, in_row, PureSort, PureParam, PurePart, of_module, of_words, pure_source}
use Rattle.sc_syntax.specs.Formed.{IsMeasuring}
use Rattle.sc_syntax.specs.NameKind.{Kinds, kind_of, kind_of_operation}
use Rattle.sc_word.specs.Typed.{TypedWords, TypesPureFn}
use Rattle.sc_types.specs.declared.want.Want.{Want}
use Rattle.sc_types.specs.declared.want.Want.TheVariants.{OneWire, AnInt, ADouble}
use Rattle.sc_types.specs.Declarations.{or_pi}
use Rattle.sc_types.specs.Parameters.{or_int}
use Rattle.sc_types.specs.Scopes.{Known, Stack, known, kind_here, kind_in, kinds_in}
use Rattle.sc_types.specs.Sources.{is_int_named, param_kind}
use Rattle.sc_types.specs.Statements.{goes_into, set_by, wire_kind, named_wants}
use Rattle.sc_types.specs.Typing.{TypedSource}
use Rattle.sc_types.specs.Wires.{suits, suits_indexed, gate_wants}

-- ---- expressions, where names stand for these kinds

-- an int
abbrev pub IsInt : Kinds → PureExpr → Type 0
IsInt ks e = kind_of ks e.node ≡ Some num.Int

-- a number of either kind
abbrev pub IsNumber : Kinds → PureExpr → Type 0
IsNumber ks e = (sort : NumSort) × (kind_of ks e.node ≡ Some sort)

-- this is said of the expression, where there is one
abbrev pub IfThere : (PureExpr → Type 0) → Option PureExpr → Type 0
IfThere P None = Unit {0}
IfThere P (Some e) = P e

-- the name is known, and what it stands for is suited
abbrev pub IsSuited : (NameKind → Bool) → Option NameKind → Type 0
IsSuited suited None = ⊥
IsSuited suited (Some k) = suited k ≡ true

-- a name, or one element of a name by an int
abbrev pub IsWire : Kinds → Want → PureNode → Type 0
IsWire ks want (PureNode.name t) = IsSuited (suits want) (ks t)
IsWire ks want (PureNode.index t p n) = IsSuited (suits_indexed want) (ks t) × (kind_of ks n ≡ Some num.Int)
IsWire ks want _ = ⊥

-- an argument is what is wanted
abbrev pub Fits : Kinds → Want → PureExpr → Type 0
Fits ks AnInt e = IsInt ks e
Fits ks ADouble e = IsNumber ks e
Fits ks want e = IsWire ks want e.node

-- as many arguments as are wanted, and each fits
abbrev pub AllFit : Kinds → List Want → List PureExpr → Type 0
AllFit ks [] [] = Unit {0}
AllFit ks (w ∷ ws) (e ∷ es) = Fits ks w e × AllFit ks ws es
AllFit ks _ _ = ⊥

-- an operand of a measurement is what is wanted
abbrev pub IsOperand : Kinds → Want → PureNamed → Type 0
IsOperand ks want o = by o.value
  where
    by : Option PureExpr → Type 0
    by None = IsSuited (suits want) (ks o.name.text)
    by (Some e) = IsSuited (suits_indexed want) (ks o.name.text) × IsInt ks e

-- what is taken by what a name calls
abbrev pub Taken : Type 0
Taken = List ℕ → Option (List Want)

-- a call fits what it calls
abbrev pub IsCall : Taken → Kinds → Callee → List PureExpr → Type 0
IsCall taken ks (callee.Gate g) args = AllFit ks (gate_wants g (length args)) args
IsCall taken ks (callee.Named t) args = (wants : List Want) × (taken t ≡ Some wants) × AllFit ks wants args

-- ---- statements, where the names of the innermost scope and of those around it are these

-- the name is declared for the first time in its scope
abbrev pub IsNew : List Known → Name → Type 0
IsNew here name = kind_here here name.text ≡ None

abbrev pub with_name : List Known → Name → NameKind → List Known
with_name here name k = here ++ known name.text k ∷ []

abbrev pub with_wires : Class → List Known → List PureNamed → List Known
with_wires c here [] = here
with_wires c here (d ∷ ds) = with_wires c (with_name here d.name (wire_kind c d.value)) ds

-- each size is an int, and each name is new
abbrev pub AreWires : Class → Stack → List Known → List PureNamed → Type 0
AreWires c outer here [] = Unit {0}
AreWires c outer here (d ∷ ds) =
    IfThere (IsInt (kinds_in (here ∷ outer))) d.value × IsNew here d.name × AreWires c outer (with_name here d.name (wire_kind c d.value)) ds

abbrev pub with_numbers : NumSort → List Known → List PureNamed → List Known
with_numbers s here [] = here
with_numbers s here (d ∷ ds) = with_numbers s (with_name here d.name (kind.Number s)) ds

-- an int starts as an int, a double as any number
abbrev pub Starts : Kinds → NumSort → PureExpr → Type 0
Starts ks num.Int e = IsInt ks e
Starts ks num.Double e = IsNumber ks e

abbrev pub AreNumbers : NumSort → Stack → List Known → List PureNamed → Type 0
AreNumbers s outer here [] = Unit {0}
AreNumbers s outer here (d ∷ ds) =
    IfThere (Starts (kinds_in (here ∷ outer)) s) d.value × IsNew here d.name × AreNumbers s outer (with_name here d.name (kind.Number s)) ds

-- the kind of what a name is set to
abbrev pub kind_set : Option BinOp → NumSort → NumSort → Option NumSort
kind_set None x e = Some e
kind_set (Some o) x e = kind_of_operation o x e

-- a value that goes into a name of this kind
pub record GoesInto (ks : Kinds) (x : NumSort) (op : SetOp) (e : PureExpr) : Type 0 where
  pub sort : NumSort
  pub value : kind_of ks e.node ≡ Some sort
  pub made : NumSort
  pub makes : kind_set (set_by op) x sort ≡ Some made
  pub goes : goes_into (Some x) (Some made) ≡ true

-- a declared number is set to what goes into it
pub record IsSet (names : Stack) (name : Name) (op : SetOp) (value : Option PureExpr) : Type 0 where
  pub sort : NumSort
  pub number : kind_in names name.text ≡ Some (kind.Number sort)
  pub fits : IfThere (GoesInto (kinds_in names) sort op) value

-- the names of the innermost scope behind a statement
abbrev pub names_after : List Known → PureAct → List Known
names_after here (wires c ds) = with_wires c here ds
names_after here (numbers s ds) = with_numbers s here ds
names_after here _ = here

abbrev pub names_held : List Known → PureHeld → List Known
names_held here absent = here
names_held here (held p a) = names_after here a

-- what advances a `for` sets a name, and declares none
abbrev pub IsAdvance : PureHeld → Type 0
IsAdvance absent = Unit {0}
IsAdvance (held p (set name op at value)) = Unit {0}
IsAdvance (held p (measure g into from)) = Unit {0}
IsAdvance _ = ⊥

abbrev mutual
  pub IsFine : Taken → Stack → List Known → PureAct → Type 0
  IsFine taken outer here (wires c ds) = AreWires c outer here ds
  IsFine taken outer here (numbers s ds) = AreNumbers s outer here ds
  IsFine taken outer here (set name op at value) = IsSet (here ∷ outer) name op value
  IsFine taken outer here (measure g into from) =
      IsMeasuring g × IsOperand (kinds_in (here ∷ outer)) (OneWire C) into × IsOperand (kinds_in (here ∷ outer)) (OneWire Q) from
  IsFine taken outer here (call c at args) = IsCall taken (kinds_in (here ∷ outer)) c args
  -- a body has a scope of its own
  IsFine taken outer here (if_else e p a other) = IsNumber (kinds_in (here ∷ outer)) e × IsFine taken (here ∷ outer) [] a × IsFineHeld taken (here ∷ outer) [] other
  IsFine taken outer here (while_loop e p a) = IsNumber (kinds_in (here ∷ outer)) e × IsFine taken (here ∷ outer) [] a
  -- the start declares in the scope of the `for`
  IsFine taken outer here (for_loop start test advance p a) =
      IsFineHeld taken (here ∷ outer) [] start × IfThere (IsNumber (kinds_in (names_held [] start ∷ here ∷ outer))) test
      × IsAdvance advance × IsFineHeld taken (here ∷ outer) (names_held [] start) advance
      × IsFine taken (names_held [] start ∷ here ∷ outer) [] a
  IsFine taken outer here (block ss) = AreFine taken (here ∷ outer) [] ss
  IsFine taken outer here empty = Unit {0}

  pub IsFineHeld : Taken → Stack → List Known → PureHeld → Type 0
  IsFineHeld taken outer here absent = Unit {0}
  IsFineHeld taken outer here (held p a) = IsFine taken outer here a

  pub AreFine : Taken → Stack → List Known → PureStmts → Type 0
  AreFine taken outer here no_stmts = Unit {0}
  AreFine taken outer here (stmt p a rest) = IsFine taken outer here a × AreFine taken outer (names_after here a) rest

-- ---- parameters of a module

-- a length names an earlier parameter, else a later `int` parameter, else `M_PI`
abbrev pub names_of_length : List Known → List PureParam → Kinds
names_of_length here later name = or_pi name (or_int (list_any (is_int_named name) later) (kind_in (here ∷ []) name))

-- a stated length is an int
abbrev pub HasLength : Kinds → PureSort → Type 0
HasLength ks (PureSort.many c e) = IfThere (IsInt ks) e
HasLength ks _ = Unit {0}

-- each name is new
abbrev pub AreParams : List Known → List PureParam → Type 0
AreParams here [] = Unit {0}
AreParams here (p ∷ ps) = HasLength (names_of_length here ps) p.sort × IsNew here p.name × AreParams (with_name here p.name (param_kind p.sort)) ps

abbrev pub with_params : List Known → List PureParam → List Known
with_params here [] = here
with_params here (p ∷ ps) = with_params (with_name here p.name (param_kind p.sort)) ps

-- ---- sources

-- the parameters of a module, and its statements behind them; a classical function has its typed function
abbrev pub IsAcceptedPart : Taken → PurePart → Option TypedWords → Type 0
IsAcceptedPart taken (of_module name params body) None = AreParams [] params × AreFine taken [] (with_params [] params) (in_row body)
IsAcceptedPart taken (of_words name params width binds result) (Some t) =
    TypesPureFn (record { params = params; width = width; binds = binds; result = result }) t
IsAcceptedPart taken _ _ = ⊥

-- part by part
abbrev pub AreAccepted : Taken → List PurePart → List (Option TypedWords) → Type 0
AreAccepted taken [] [] = Unit {0}
AreAccepted taken (p ∷ ps) (w ∷ ws) = IsAcceptedPart taken p w × AreAccepted taken ps ws
AreAccepted taken _ _ = ⊥

-- each part of the source is accepted
abbrev pub IsAccepted : TypedSource → Type 0
IsAccepted t = AreAccepted (named_wants (pure_source t.source)) (pure_source t.source) t.words
