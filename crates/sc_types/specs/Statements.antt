-- The checks of statements, in the order of the walk, and the declarations that they make.
use Rattle.std.specs.Prelude.{ℕ, suc, ◌+◌, Bool, true, false, nat_eq, if◌then◌else◌, Option, Some, None, option_map, List, [], ◌∷◌, ◌++◌, length, map, find, replicate}
use Rattle.sc_base.specs.Texts.{same}
use Rattle.sc_base.specs.declared.Place.{Place}
use Rattle.sc_base.specs.declared.Class.{Class}
use Rattle.sc_base.specs.declared.Class.TheVariants.{Q, C}
use Rattle.sc_syntax.specs.declared.NameKind.{NameKind}
use Rattle.sc_syntax.specs.declared.NameKind.TheVariants as kind
use Rattle.sc_syntax.specs.declared.NumSort.{NumSort}
use Rattle.sc_syntax.specs.declared.NumSort.TheVariants as num
use Rattle.sc_syntax.specs.declared.BinOp.{BinOp}
use Rattle.sc_syntax.specs.declared.BinOp.TheVariants as op
use Rattle.sc_syntax.specs.declared.SetOp.{SetOp}
use Rattle.sc_syntax.specs.declared.SetOp.TheVariants as mark
use Rattle.sc_syntax.specs.declared.Name.{Name}
use Rattle.sc_syntax.specs.declared.Callee.{Callee}
use Rattle.sc_syntax.specs.declared.Callee.TheVariants.{Gate, Named}
use Rattle.sc_syntax.specs.Alike.{PureExpr, PureNamed, PureAct, PureHeld, PureStmts, wires, numbers, set, measure, call, if_else, while_loop, for_loop, block, empty, absent, held, no_stmts, stmt, PureSort, PurePart, of_module, of_words}
use Rattle.sc_syntax.specs.NameKind.{Kinds, ◌>>=◌, kind_of, kind_of_operation}
use Rattle.sc_types.specs.declared.fault.TypeFault.TheVariants.{UnknownName, WrongKind, WrongCount}
use Rattle.sc_types.specs.Checks.{Check, check}
use Rattle.sc_types.specs.Declarations.{Declaration, ScopePath, kinds, with_pi, declared_kind, is_pi, is_new}
use Rattle.sc_types.specs.Numbers.{number_checks, int_checks, may_operate}
use Rattle.sc_types.specs.declared.want.Want.{Want}
use Rattle.sc_types.specs.declared.want.Want.TheVariants.{OneWire, ManyWires, Word, AnInt, ADouble}
use Rattle.sc_types.specs.Wires.{operand_checks, arguments_checks, gate_wants}

-- checks in order, and the declarations made on the way
pub record Walk : Type 0 where
  pub checks : List Check
  pub declares : List Declaration

abbrev pub only : List Check → Walk
only checks = record { checks = checks; declares = [] }

-- one after the other: the second knows what the first declares
abbrev pub in_turn : List Declaration → Walk → (List Declaration → Walk) → Walk
in_turn before a b =
    let rest : Walk = b (before ++ a.declares) in
    record { checks = a.checks ++ rest.checks; declares = a.declares ++ rest.declares }

-- ---- declarations: the size or start, and then the name, which is known from there on

abbrev pub optional : (PureExpr → List Check) → Option PureExpr → List Check
optional checks None = []
optional checks (Some e) = checks e

abbrev pub wire_kind : Class → Option PureExpr → NameKind
wire_kind c None = kind.One c
wire_kind c (Some e) = kind.Many c

abbrev pub walk_decl : List Declaration → ScopePath → Class → PureNamed → Walk
walk_decl before scope c d = record {
  checks = optional (int_checks (kinds before scope)) d.value ++ is_new before scope d.name ∷ [];
  declares = record { name = d.name.text; kind = wire_kind c d.value; scope = scope } ∷ [];
}

-- the start of an `int` is an int, that of a double any number
abbrev pub start_checks : Kinds → NumSort → PureExpr → List Check
start_checks ks num.Int e = int_checks ks e
start_checks ks num.Double e = number_checks ks e

abbrev pub walk_init : List Declaration → ScopePath → NumSort → PureNamed → Walk
walk_init before scope s d = record {
  checks = optional (start_checks (kinds before scope) s) d.value ++ is_new before scope d.name ∷ [];
  declares = record { name = d.name.text; kind = kind.Number s; scope = scope } ∷ [];
}

abbrev pub walk_decls : List Declaration → ScopePath → Class → List PureNamed → Walk
walk_decls before scope c [] = only []
walk_decls before scope c (d ∷ ds) = in_turn before (walk_decl before scope c d) (λ known. walk_decls known scope c ds)

abbrev pub walk_inits : List Declaration → ScopePath → NumSort → List PureNamed → Walk
walk_inits before scope s [] = only []
walk_inits before scope s (d ∷ ds) = in_turn before (walk_init before scope s d) (λ known. walk_inits known scope s ds)

-- ---- a `Set`: the name and that it may be set, then the expression, then that the kinds fit

-- a wire is not set by a number, and `M_PI` is not set where no scope declares it
abbrev pub may_set : Place → Bool → Option NameKind → Check
may_set at pi None = if pi then check false (WrongKind at) else check false (UnknownName at)
may_set at pi (Some (kind.Number s)) = check true (WrongKind at)
may_set at pi (Some _) = check false (WrongKind at)

abbrev pub number_of : Option NameKind → Option NumSort
number_of (Some (kind.Number s)) = Some s
number_of _ = None

-- no double goes into an int
abbrev pub goes_into : Option NumSort → Option NumSort → Bool
goes_into (Some num.Int) (Some num.Double) = false
goes_into _ _ = true

-- `x op= e` is `x = x op e`, where the operator stands at the mark
abbrev pub set_by : SetOp → Option BinOp
set_by mark.Add = Some op.Add
set_by mark.Sub = Some op.Sub
set_by mark.Mul = Some op.Mul
set_by mark.Div = Some op.Div
set_by mark.Rem = Some op.Rem
set_by _ = None

abbrev pub fit_checks : Place → Place → Option NumSort → Option BinOp → Option NumSort → List Check
fit_checks name at x None e = check (goes_into x e) (WrongKind name) ∷ []
fit_checks name at x (Some o) e =
    may_operate at o x e ∷ check (goes_into x (x >>= λ a. e >>= kind_of_operation o a)) (WrongKind name) ∷ []

abbrev pub set_checks : Kinds → Name → SetOp → Place → Option PureExpr → List Check
set_checks declared name o at value =
    may_set name.place (is_pi name.text) (declared name.text)
    ∷ optional (λ e. number_checks (with_pi declared) e
    ++ fit_checks name.place at (number_of (declared name.text)) (set_by o) (kind_of (with_pi declared) e.node)) value

-- the left side with its index, and then the measured operand
abbrev pub measure_checks : Kinds → PureNamed → PureNamed → List Check
measure_checks ks into from = operand_checks ks (OneWire C) into ++ operand_checks ks (OneWire Q) from

-- ---- a call: the name, then the number of arguments, then the arguments from left to right

abbrev pub part_name : PurePart → List ℕ
part_name (of_module name params body) = name.text
part_name (of_words name params width binds result) = name.text

-- a called name means the first definition of that name in the source
abbrev pub definition : List PurePart → List ℕ → Option PurePart
definition parts name = find (λ p. same name (part_name p)) parts

abbrev pub param_want : PureSort → Want
param_want (PureSort.one c) = OneWire c
param_want (PureSort.many c e) = ManyWires c
param_want PureSort.int = AnInt
param_want PureSort.double = ADouble

-- a classical function takes its words, and then its output
abbrev pub part_wants : PurePart → List Want
part_wants (of_module name params body) = map (λ p. param_want p.sort) params
part_wants (of_words name params width binds result) = replicate (length params + 1) Word

abbrev pub applied : Kinds → Place → List Want → List PureExpr → List Check
applied ks at wants args = check (nat_eq (length args) (length wants)) (WrongCount at) ∷ arguments_checks ks wants args

-- what a called name takes
abbrev pub named_wants : List PurePart → List ℕ → Option (List Want)
named_wants parts name = option_map part_wants (definition parts name)

abbrev pub called : Kinds → Place → Option (List Want) → List PureExpr → List Check
called ks at None args = check false (UnknownName at) ∷ []
called ks at (Some wants) args = applied ks at wants args

abbrev pub call_checks : List PurePart → Kinds → Callee → Place → List PureExpr → List Check
call_checks parts ks (Gate g) at args = applied ks at (gate_wants g (length args)) args
call_checks parts ks (Named t) at args = called ks at (named_wants parts t) args

-- ---- statements; `scope` is the scope that they stand in, and `own` a scope for the statement's own parts

abbrev mutual
  pub walk_act : List PurePart → List Declaration → ScopePath → ScopePath → PureAct → Walk
  walk_act parts before scope own (wires c ds) = walk_decls before scope c ds
  walk_act parts before scope own (numbers s ds) = walk_inits before scope s ds
  walk_act parts before scope own (set name o at value) = only (set_checks (declared_kind before scope) name o at value)
  walk_act parts before scope own (measure g into from) = only (measure_checks (kinds before scope) into from)
  walk_act parts before scope own (call c at args) = only (call_checks parts (kinds before scope) c at args)
  -- a body has a scope of its own, also where it is one declaration
  walk_act parts before scope own (if_else e p act other) =
      in_turn before (only (number_checks (kinds before scope) e)) (λ known.
      in_turn known (walk_act parts known (own ++ 0 ∷ []) (own ++ 0 ∷ 0 ∷ []) act) (λ known.
      walk_held parts known (own ++ 1 ∷ []) (own ++ 1 ∷ 0 ∷ []) other))
  walk_act parts before scope own (while_loop e p act) =
      in_turn before (only (number_checks (kinds before scope) e)) (λ known. walk_act parts known (own ++ 0 ∷ []) (own ++ 0 ∷ 0 ∷ []) act)
  -- the start declares in the scope of the `for`; the advance stands before the body
  walk_act parts before scope own (for_loop start test advance p act) =
      in_turn before (walk_held parts before own (own ++ 0 ∷ []) start) (λ known.
      in_turn known (only (optional (number_checks (kinds known own)) test)) (λ known.
      in_turn known (walk_held parts known own (own ++ 1 ∷ []) advance) (λ known.
      walk_act parts known (own ++ 2 ∷ []) (own ++ 2 ∷ 0 ∷ []) act)))
  walk_act parts before scope own (block ss) = walk_row parts before own 0 ss
  walk_act parts before scope own empty = only []

  pub walk_held : List PurePart → List Declaration → ScopePath → ScopePath → PureHeld → Walk
  walk_held parts before scope own absent = only []
  walk_held parts before scope own (held p act) = walk_act parts before scope own act

  -- statements from the i-th on
  pub walk_row : List PurePart → List Declaration → ScopePath → ℕ → PureStmts → Walk
  walk_row parts before scope i no_stmts = only []
  walk_row parts before scope i (stmt place act rest) =
      in_turn before (walk_act parts before scope (scope ++ i ∷ []) act) (λ known. walk_row parts known scope (suc i) rest)
