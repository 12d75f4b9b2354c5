-- Where the walk over the open scopes finds no fault, each statement is as acceptance says.
use Rattle.std.proofs.Common.{◌≡◌, Bool, true, false, cond, List, [], ◌∷◌, ◌++◌, length, Option, Some, None, Result, Ok, Err, refl, sym, ap, ◌∙◌, eqb-true}
use Rattle.std.specs.Prelude.{nat_eq, is_some, map, option_map}
use Rattle.std.specs.List.{All}
use Rattle.std.proofs.lemmas.List.Elements.{All-head, All-tail}
use Rattle.sc_base.specs.declared.Class.{Class}
use Rattle.sc_base.specs.declared.Class.TheVariants.{Q, C}
use Rattle.sc_base.specs.declared.Place.{Place}
use Rattle.sc_syntax.specs.declared.NameKind.{NameKind}
use Rattle.sc_syntax.specs.declared.NameKind.TheVariants as kind
use Rattle.sc_syntax.specs.declared.NumSort.{NumSort}
use Rattle.sc_syntax.specs.declared.NumSort.TheVariants as num
use Rattle.sc_syntax.specs.declared.BinOp.{BinOp}
use Rattle.sc_syntax.specs.declared.SetOp.{SetOp}
use Rattle.sc_syntax.specs.declared.Name.{Name}
use Rattle.sc_syntax.specs.declared.Expr.{Expr}
use Rattle.sc_syntax.specs.declared.Decl.{Decl}
use Rattle.sc_syntax.specs.declared.Init.{Init}
use Rattle.sc_syntax.specs.declared.Operand.{Operand}
use Rattle.sc_syntax.specs.declared.Set.{Set as SetOf}
use Rattle.sc_syntax.specs.declared.Measure.{Measure as MeasureOf}
use Rattle.sc_syntax.specs.declared.Callee.{Callee}
use Rattle.sc_syntax.specs.declared.Callee.TheVariants as callee
use Rattle.sc_syntax.specs.declared.Node as node
use Rattle.sc_syntax.specs.declared.Node.{Node, Index', Paren', Unary', Chain', Pick'}
use Rattle.sc_syntax.specs.declared.Act as act
use Rattle.sc_syntax.specs.declared.Act.{Act, If', While', For', Block', Held-Act-If-2, None', Some', Row_of-Stmt, end_of-Stmt, more_of-Stmt}
use Rattle.sc_syntax.specs.declared.Stmt.{Stmt}
use Rattle.sc_syntax.specs.Alike.{PureExpr, PurePart, PureAct, PureHeld, set, measure, absent, held, pure_node, pure_expr, pure_decl, pure_init, pure_operand, pure_act, pure_held, pure_row, pure_stmt, in_row}
use Rattle.sc_syntax.specs.Formed.{IsSettingOption, IsFormedAct, IsFormedActOption, AreFormedStmts, IsFormedStmt}
use Rattle.sc_syntax.specs.NameKind.{Kinds, kind_of, kind_of_expr, kind_of_operation}
use Rattle.sc_types.specs.declared.fault.TypeFault.{TypeFault}
use Rattle.sc_types.specs.declared.fault.TypeFault.TheVariants.{WrongKind, WrongCount, Redefined}
use Rattle.sc_types.specs.declared.want.Want.{Want}
use Rattle.sc_types.specs.declared.want.Want.TheVariants.{OneWire, ManyWires, Word, AnInt, ADouble}
use Rattle.sc_types.specs.Checks.{Check, check, first_fault}
use Rattle.sc_types.specs.Declarations.{is_pi}
use Rattle.sc_types.specs.Numbers.{number_checks, is_int, int_checks}
use Rattle.sc_types.specs.Scopes.{Known, Stack, known, kind_here, kind_in, kinds_in, declared, over, left}
use Rattle.sc_types.specs.Sorts.{◌>>=◌, sort_of}
use Rattle.sc_types.specs.Statements.{optional, wire_kind, start_checks, may_set, number_of, goes_into, set_by, fit_checks, set_checks, measure_checks, applied, named_wants, called, call_checks}
use Rattle.sc_types.specs.Walking.{unless, wire_on, wires_on, init_on, inits_on, inside, act_on, held_on, else_on, row_on, stmts_on}
use Rattle.sc_types.specs.Wires.{is_wire, suits, suits_indexed, wire_node, argument_checks, operand_checks, arguments_checks, gate_wants}
use Rattle.sc_types.specs.Accepted.{IsInt, IsNumber, IfThere, IsSuited, IsWire, Fits, AllFit, IsOperand, Taken, IsCall, IsNew, with_name, with_wires, AreWires, with_numbers, Starts, AreNumbers, kind_set, GoesInto, IsSet, names_after, names_held, IsAdvance, IsFine, IsFineHeld, AreFine}
use Rattle.sc_types.proofs.NamedParts.{fine_first, fine_second, one_passes}
use Rattle.sc_types.proofs.Telling.{Tells, tells_node}

-- ---- expressions

number_by : (ks : Kinds) (e : Expr) (r : Result NumSort TypeFault) → Tells r (number_checks ks (pure_expr e)) (kind_of_expr ks e) → first_fault (number_checks ks (pure_expr e)) ≡ None → IsNumber ks (pure_expr e)
number_by ks e (Ok s) told fine = (s, told.1)
number_by ks e (Err f) told fine = absurd (let impossible : Some f ≡ None = sym told ∙ fine in cc)

-- an expression whose checks pass is a number
pub number_fine : (ks : Kinds) (e : Expr) → first_fault (number_checks ks (pure_expr e)) ≡ None → IsNumber ks (pure_expr e)
number_fine ks e fine = number_by ks e (sort_of ks e) (tells_node ks e.place e.node) fine

int_kind : (k : Option NumSort) → is_int k ≡ true → k ≡ Some num.Int
int_kind (Some num.Int) e = refl
int_kind (Some num.Double) e = cc
int_kind None e = cc

-- and an int
pub int_fine : (ks : Kinds) (e : Expr) → first_fault (int_checks ks (pure_expr e)) ≡ None → IsInt ks (pure_expr e)
int_fine ks e fine =
    int_kind (kind_of_expr ks e)
    (one_passes (is_int (kind_of_expr ks e)) (WrongKind e.place) (fine_second (number_checks ks (pure_expr e)) (check (is_int (kind_of_expr ks e)) (WrongKind e.place) ∷ []) fine))

-- ---- arguments

suited_fine : (suited : NameKind → Bool) (at : Place) (k : Option NameKind) → first_fault (is_wire suited at k ∷ []) ≡ None → IsSuited suited k
suited_fine suited at None fine = cc
suited_fine suited at (Some k) fine = one_passes (suited k) (WrongKind at) fine

wire_fine : (ks : Kinds) (want : Want) (at : Place) (n : Node) → first_fault (wire_node ks want at (pure_node n)) ≡ None → IsWire ks want (pure_node n)
wire_fine ks want at (node.Name t) fine = suited_fine (suits want) at (ks t) fine
wire_fine ks want at (Index' t b p n) fine =
    let i : Expr = record { place = p; node = n } in (
      suited_fine (suits_indexed want) at (ks t) (fine_first (is_wire (suits_indexed want) at (ks t) ∷ []) (int_checks ks (pure_expr i)) fine),
      int_fine ks i (fine_second (is_wire (suits_indexed want) at (ks t) ∷ []) (int_checks ks (pure_expr i)) fine),
    )
wire_fine ks want at (node.Int n) fine = cc
wire_fine ks want at (node.Decimal d) fine = cc
wire_fine ks want at (Paren' b p n) fine = cc
wire_fine ks want at (Unary' o b p n) fine = cc
wire_fine ks want at (Chain' b p n shape row) fine = cc
wire_fine ks want at (Pick' b1 p1 n1 b2 p2 n2 b3 p3 n3) fine = cc

argument_fine : (ks : Kinds) (want : Want) (e : Expr) → first_fault (argument_checks ks want (pure_expr e)) ≡ None → Fits ks want (pure_expr e)
argument_fine ks AnInt e fine = int_fine ks e fine
argument_fine ks ADouble e fine = number_fine ks e fine
argument_fine ks (OneWire c) e fine = wire_fine ks (OneWire c) e.place e.node fine
argument_fine ks (ManyWires c) e fine = wire_fine ks (ManyWires c) e.place e.node fine
argument_fine ks Word e fine = wire_fine ks Word e.place e.node fine

-- as many arguments as are wanted
pub arguments_fine : (ks : Kinds) (ws : List Want) (es : List Expr) → length (map pure_expr es) ≡ length ws → first_fault (arguments_checks ks ws (map pure_expr es)) ≡ None → AllFit ks ws (map pure_expr es)
arguments_fine ks [] [] same fine = tt
arguments_fine ks [] (e ∷ es) same fine = absurd cc
arguments_fine ks (w ∷ ws) [] same fine = absurd cc
arguments_fine ks (w ∷ ws) (e ∷ es) same fine =
    let rest : length (map pure_expr es) ≡ length ws = cc in (
      argument_fine ks w e (fine_first (argument_checks ks w (pure_expr e)) (arguments_checks ks ws (map pure_expr es)) fine),
      arguments_fine ks ws es rest (fine_second (argument_checks ks w (pure_expr e)) (arguments_checks ks ws (map pure_expr es)) fine),
    )

-- ---- declarations

-- what comes after checks that pass
pub behind : (x : Option TypeFault) (r : Result Stack TypeFault) (after : Stack) → unless x r ≡ Ok after → (x ≡ None) × (r ≡ Ok after)
behind None r after e = (refl, e)
behind (Some f) r after e = absurd cc

-- what comes after a walk
pub between : (r : Result Stack TypeFault) (next : Stack → Result Stack TypeFault) (after : Stack) → (r >>= next) ≡ Ok after → (mid : Stack) × (r ≡ Ok mid) × (next mid ≡ Ok after)
between (Ok mid) next after e = (mid, refl, e)
between (Err f) next after e = absurd cc

-- a name that was declared was new
pub name_fine : (outer : Stack) (here : List Known) (name : Name) (k : NameKind) (after : Stack) → declared (here ∷ outer) name k ≡ Ok after
    → IsNew here name × (after ≡ with_name here name k ∷ outer)
name_fine outer here name k after e = by (kind_here here name.text) refl e
  where
    by : (o : Option NameKind) → kind_here here name.text ≡ o
        → over outer (cond (is_some o) (Err (Redefined name.place)) (Ok (here ++ known name.text k ∷ []))) ≡ Ok after
        → IsNew here name × (after ≡ with_name here name k ∷ outer)
    by None is e = (is, cc)
    by (Some x) is e = absurd cc

-- what is said of an expression whose checks pass, where there is one
pub there_fine : (checks : PureExpr → List Check) (P : PureExpr → Type 0) → ((e : Expr) → first_fault (checks (pure_expr e)) ≡ None → P (pure_expr e))
    → (o : Option Expr) → first_fault (optional checks (option_map pure_expr o)) ≡ None → IfThere P (option_map pure_expr o)
there_fine checks P one None fine = tt
there_fine checks P one (Some e) fine = one e fine

start_fine : (ks : Kinds) (s : NumSort) (e : Expr) → first_fault (start_checks ks s (pure_expr e)) ≡ None → Starts ks s (pure_expr e)
start_fine ks num.Int e fine = int_fine ks e fine
start_fine ks num.Double e fine = number_fine ks e fine

pub wires_fine : (c : Class) (outer : Stack) (here : List Known) (ds : List Decl) (after : Stack) → wires_on c (here ∷ outer) ds ≡ Ok after
    → AreWires c outer here (map pure_decl ds) × (after ≡ with_wires c here (map pure_decl ds) ∷ outer)
wires_fine c outer here [] after e = (tt, cc)
wires_fine c outer here (d ∷ ds) after e =
    let ks : Kinds = kinds_in (here ∷ outer) in
    let one = between (wire_on c (here ∷ outer) d) (λ s. wires_on c s ds) after e in
    let k : NameKind = wire_kind c (option_map pure_expr d.size) in
    let passed = behind (first_fault (optional (int_checks ks) (option_map pure_expr d.size))) (declared (here ∷ outer) d.name k) one.0 one.1 in
    let new = name_fine outer here d.name k one.0 passed.1 in
    let rest = wires_fine c outer (with_name here d.name k) ds after (ap (λ (s : Stack). wires_on c s ds) (sym new.1) ∙ one.2) in
    ((there_fine (int_checks ks) (IsInt ks) (int_fine ks) d.size passed.0, new.0, rest.0), rest.1)

pub inits_fine : (s : NumSort) (outer : Stack) (here : List Known) (ds : List Init) (after : Stack) → inits_on s (here ∷ outer) ds ≡ Ok after
    → AreNumbers s outer here (map pure_init ds) × (after ≡ with_numbers s here (map pure_init ds) ∷ outer)
inits_fine s outer here [] after e = (tt, cc)
inits_fine s outer here (d ∷ ds) after e =
    let ks : Kinds = kinds_in (here ∷ outer) in
    let one = between (init_on s (here ∷ outer) d) (λ t. inits_on s t ds) after e in
    let passed = behind (first_fault (optional (start_checks ks s) (option_map pure_expr d.start))) (declared (here ∷ outer) d.name (kind.Number s)) one.0 one.1 in
    let new = name_fine outer here d.name (kind.Number s) one.0 passed.1 in
    let rest = inits_fine s outer (with_name here d.name (kind.Number s)) ds after (ap (λ (t : Stack). inits_on s t ds) (sym new.1) ∙ one.2) in
    ((there_fine (start_checks ks s) (Starts ks s) (start_fine ks s) d.start passed.0, new.0, rest.0), rest.1)

-- ---- numbers that are set

may_fine : (at : Place) (pi : Bool) (k : Option NameKind) → first_fault (may_set at pi k ∷ []) ≡ None → (sort : NumSort) × (k ≡ Some (kind.Number sort))
may_fine at true None fine = cc
may_fine at false None fine = cc
may_fine at pi (Some (kind.Number s)) fine = (s, refl)
may_fine at pi (Some (kind.One c)) fine = cc
may_fine at pi (Some (kind.Many c)) fine = cc

-- the kind that an operator makes, and that it goes into the name
makes_fine : (at mark : Place) (x : NumSort) (o : Option BinOp) (v : NumSort) → first_fault (fit_checks at mark (Some x) o (Some v)) ≡ None
    → (made : NumSort) × (kind_set o x v ≡ Some made) × (goes_into (Some x) (Some made) ≡ true)
makes_fine at mark x None v fine = (v, refl, one_passes (goes_into (Some x) (Some v)) (WrongKind at) fine)
makes_fine at mark x (Some o) v fine = by (kind_of_operation o x v) refl fine
  where
    by : (r : Option NumSort) → kind_of_operation o x v ≡ r
        → first_fault (check (is_some r) (WrongKind mark) ∷ check (goes_into (Some x) r) (WrongKind at) ∷ []) ≡ None
        → (made : NumSort) × (kind_of_operation o x v ≡ Some made) × (goes_into (Some x) (Some made) ≡ true)
    by None is fine = cc
    by (Some r) is fine = (r, is, one_passes (goes_into (Some x) (Some r)) (WrongKind at) fine)

goes_fine : (ks : Kinds) (at mark : Place) (x : NumSort) (op : SetOp) (e : Expr)
    → first_fault (number_checks ks (pure_expr e) ++ fit_checks at mark (Some x) (set_by op) (kind_of_expr ks e)) ≡ None → GoesInto ks x op (pure_expr e)
goes_fine ks at mark x op e fine =
    let number = number_fine ks e (fine_first (number_checks ks (pure_expr e)) (fit_checks at mark (Some x) (set_by op) (kind_of_expr ks e)) fine) in
    let fits = fine_second (number_checks ks (pure_expr e)) (fit_checks at mark (Some x) (set_by op) (kind_of_expr ks e)) fine in
    let makes = makes_fine at mark x (set_by op) number.0 (ap (λ (k : Option NumSort). first_fault (fit_checks at mark (Some x) (set_by op) k)) (sym number.1) ∙ fits) in
    record { sort = number.0; value = number.1; made = makes.0; makes = makes.1; goes = makes.2 }

pub set_fine : (names : Stack) (s : SetOf) → first_fault (set_checks (kind_in names) s.name s.op s.place (option_map pure_expr s.value)) ≡ None → IsSet names s.name s.op (option_map pure_expr s.value)
set_fine names s fine =
    let ks : Kinds = kinds_in names in
    let checks_of : Option NumSort → PureExpr → List Check = λ k e. number_checks ks e ++ fit_checks s.name.place s.place k (set_by s.op) (kind_of ks e.node) in
    let first : List Check = may_set s.name.place (is_pi s.name.text) (kind_in names s.name.text) ∷ [] in
    let rest : List Check = optional (checks_of (number_of (kind_in names s.name.text))) (option_map pure_expr s.value) in
    let named = may_fine s.name.place (is_pi s.name.text) (kind_in names s.name.text) (fine_first first rest fine) in
    record {
      sort = named.0;
      number = named.1;
      fits = there_fine (checks_of (Some named.0)) (GoesInto ks named.0 s.op) (goes_fine ks s.name.place s.place named.0 s.op) s.value
          (ap (λ (k : Option NameKind). first_fault (optional (checks_of (number_of k)) (option_map pure_expr s.value))) (sym named.1) ∙ fine_second first rest fine);
    }

-- ---- measurements and calls

operand_fine : (ks : Kinds) (want : Want) (o : Operand) → first_fault (operand_checks ks want (pure_operand o)) ≡ None → IsOperand ks want (pure_operand o)
operand_fine ks want o fine = by o.index fine
  where
    by : (i : Option Expr) → first_fault (operand_checks ks want (pure_operand (record { name = o.name; index = i }))) ≡ None → IsOperand ks want (pure_operand (record { name = o.name; index = i }))
    by None fine = suited_fine (suits want) o.name.place (ks o.name.text) fine
    by (Some e) fine = (
      suited_fine (suits_indexed want) o.name.place (ks o.name.text) (fine_first (is_wire (suits_indexed want) o.name.place (ks o.name.text) ∷ []) (int_checks ks (pure_expr e)) fine),
      int_fine ks e (fine_second (is_wire (suits_indexed want) o.name.place (ks o.name.text) ∷ []) (int_checks ks (pure_expr e)) fine),
    )

pub measure_fine : (ks : Kinds) (m : MeasureOf) → first_fault (measure_checks ks (pure_operand m.into) (pure_operand m.from)) ≡ None → IsOperand ks (OneWire C) (pure_operand m.into) × IsOperand ks (OneWire Q) (pure_operand m.from)
measure_fine ks m fine = (
  operand_fine ks (OneWire C) m.into (fine_first (operand_checks ks (OneWire C) (pure_operand m.into)) (operand_checks ks (OneWire Q) (pure_operand m.from)) fine),
  operand_fine ks (OneWire Q) m.from (fine_second (operand_checks ks (OneWire C) (pure_operand m.into)) (operand_checks ks (OneWire Q) (pure_operand m.from)) fine),
)

applied_fine : (ks : Kinds) (at : Place) (ws : List Want) (es : List Expr) → first_fault (applied ks at ws (map pure_expr es)) ≡ None → AllFit ks ws (map pure_expr es)
applied_fine ks at ws es fine =
    let args : List PureExpr = map pure_expr es in
    let count : List Check = check (nat_eq (length args) (length ws)) (WrongCount at) ∷ [] in
    arguments_fine ks ws es (eqb-true (length args) (length ws) (one_passes (nat_eq (length args) (length ws)) (WrongCount at) (fine_first count (arguments_checks ks ws args) fine)))
    (fine_second count (arguments_checks ks ws args) fine)

pub call_fine : (parts : List PurePart) (ks : Kinds) (c : Callee) (at : Place) (es : List Expr) → first_fault (call_checks parts ks c at (map pure_expr es)) ≡ None
    → IsCall (named_wants parts) ks c (map pure_expr es)
call_fine parts ks (callee.Gate g) at es fine = applied_fine ks at (gate_wants g (length (map pure_expr es))) es fine
call_fine parts ks (callee.Named t) at es fine = by (named_wants parts t) refl fine
  where
    by : (o : Option (List Want)) → named_wants parts t ≡ o → first_fault (called ks at o (map pure_expr es)) ≡ None
        → (wants : List Want) × (named_wants parts t ≡ Some wants) × AllFit ks wants (map pure_expr es)
    by None is fine = cc
    by (Some ws) is fine = (ws, is, applied_fine ks at ws es fine)

-- ---- statements

-- a statement without a fault is as acceptance says, and what is known behind it is what it declares
pub record Gives (taken : Taken) (outer : Stack) (here : List Known) (x : PureAct) (after : Stack) : Type 0 where
  pub fine : IsFine taken outer here x
  pub is : after ≡ names_after here x ∷ outer

abbrev ok_of : Stack → Result Stack TypeFault
ok_of stack = Ok stack

same_after : {a b : Stack} → ok_of a ≡ ok_of b → b ≡ a
same_after {a} {b} e = cc

-- what is walked in a scope of its own
within : (walk : Stack → Result Stack TypeFault) (stack after : Stack) → inside walk stack ≡ Ok after → (mid : Stack) × (walk ([] ∷ stack) ≡ Ok mid) × (after ≡ left mid)
within walk stack after e =
    let one = between (walk ([] ∷ stack)) (λ mid. Ok (left mid)) after e in
    (one.0, one.1, same_after one.2)

-- the scopes around stay
record RunsOn (outer : Stack) (after : Stack) : Type 0 where
  last : List Known
  is : after ≡ last ∷ outer

-- a body
enclosed : (parts : List PurePart) (outer : Stack) (here : List Known) (a : Act) (after : Stack)
    → ((mid : Stack) → act_on parts ([] ∷ here ∷ outer) a ≡ Ok mid → Gives (named_wants parts) (here ∷ outer) [] (pure_act a) mid)
    → inside (λ inner. act_on parts inner a) (here ∷ outer) ≡ Ok after → IsFine (named_wants parts) (here ∷ outer) [] (pure_act a) × (after ≡ here ∷ outer)
enclosed parts outer here a after gives e =
    let own = within (λ inner. act_on parts inner a) (here ∷ outer) after e in
    let h = gives own.0 own.1 in
    (h.fine, own.2 ∙ ap left h.is)

-- an advance declares nothing
advance_fine : (o : Held-Act-If-2) → IsSettingOption o → IsAdvance (pure_held o)
advance_fine None' h = tt
advance_fine (Some' b p (act.Set s)) h = tt
advance_fine (Some' b p (act.Measure m)) h = tt
advance_fine (Some' b p _) h = absurd h

advance_keeps : (here : List Known) (x : PureHeld) → IsAdvance x → names_held here x ≡ here
advance_keeps here absent h = refl
advance_keeps here (held p (set name op at value)) h = refl
advance_keeps here (held p (measure g into from)) h = refl
advance_keeps here (held p _) h = absurd h

mutual
  pub act_fine : (parts : List PurePart) (outer : Stack) (here : List Known) (a : Act) (after : Stack) → IsFormedAct a → act_on parts (here ∷ outer) a ≡ Ok after
      → Gives (named_wants parts) outer here (pure_act a) after
  act_fine parts outer here (act.Wires c ds) after formed e = let h = wires_fine c outer here ds after e in record { fine = h.0; is = h.1 }
  act_fine parts outer here (act.Numbers s ds) after formed e = let h = inits_fine s outer here ds after e in record { fine = h.0; is = h.1 }
  act_fine parts outer here (act.Set s) after formed e =
      let h = behind (first_fault (set_checks (kind_in (here ∷ outer)) s.name s.op s.place (option_map pure_expr s.value))) (Ok (here ∷ outer)) after e in record { fine = set_fine (here ∷ outer) s h.0; is = same_after h.1 }
  act_fine parts outer here (act.Measure m) after formed e =
      let h = behind (first_fault (measure_checks (kinds_in (here ∷ outer)) (pure_operand m.into) (pure_operand m.from))) (Ok (here ∷ outer)) after e in
      let both = measure_fine (kinds_in (here ∷ outer)) m h.0 in
      record { fine = (formed.0, both.0, both.1); is = same_after h.1 }
  act_fine parts outer here (act.Call c) after formed e =
      let h = behind (first_fault (call_checks parts (kinds_in (here ∷ outer)) c.callee c.place (map pure_expr c.args))) (Ok (here ∷ outer)) after e in
      record { fine = call_fine parts (kinds_in (here ∷ outer)) c.callee c.place c.args h.0; is = same_after h.1 }
  act_fine parts outer here (If' c b p a other) after formed e =
      let ks : Kinds = kinds_in (here ∷ outer) in
      let h = behind (first_fault (number_checks ks (pure_expr c))) (inside (λ inner. act_on parts inner a) (here ∷ outer) >>= λ mid. else_on parts mid other) after e in
      let one = between (inside (λ inner. act_on parts inner a) (here ∷ outer)) (λ mid. else_on parts mid other) after h.1 in
      let body = enclosed parts outer here a one.0 (λ mid h. act_fine parts (here ∷ outer) [] a mid formed.1 h) one.1 in
      let rest = else_fine parts outer here other after formed.2 (ap (λ (s : Stack). else_on parts s other) (sym body.1) ∙ one.2) in
      record { fine = (number_fine ks c h.0, body.0, rest.0); is = rest.1 }
  act_fine parts outer here (While' c b p a) after formed e =
      let ks : Kinds = kinds_in (here ∷ outer) in
      let h = behind (first_fault (number_checks ks (pure_expr c))) (inside (λ inner. act_on parts inner a) (here ∷ outer)) after e in
      let body = enclosed parts outer here a after (λ mid k. act_fine parts (here ∷ outer) [] a mid formed.1 k) h.1 in
      record { fine = (number_fine ks c h.0, body.0); is = body.1 }
  act_fine parts outer here (For' start test advance b p a) after formed e =
      let last : Stack → Result Stack TypeFault = λ s. inside (λ inner. act_on parts inner a) s in
      let tested : Stack → Result Stack TypeFault = λ s. unless (first_fault (optional (number_checks (kinds_in s)) (option_map pure_expr test))) (held_on parts s advance >>= last) in
      let own = within (λ s. held_on parts s start >>= tested) (here ∷ outer) after e in
      let one = between (held_on parts ([] ∷ here ∷ outer) start) tested own.0 own.1 in
      let begun = held_fine parts (here ∷ outer) [] start one.0 formed.1 one.1 in
      let at_test = ap tested (sym begun.1) ∙ one.2 in
      let known_now : List Known = names_held [] (pure_held start) in
      let ks : Kinds = kinds_in (known_now ∷ here ∷ outer) in
      let passed = behind (first_fault (optional (number_checks ks) (option_map pure_expr test))) (held_on parts (known_now ∷ here ∷ outer) advance >>= last) own.0 at_test in
      let two = between (held_on parts (known_now ∷ here ∷ outer) advance) last own.0 passed.1 in
      let goes = held_fine parts (here ∷ outer) known_now advance two.0 formed.4 two.1 in
      let sets = advance_fine advance formed.3 in
      let is : two.0 ≡ known_now ∷ here ∷ outer = goes.1 ∙ ap (λ k. k ∷ here ∷ outer) (advance_keeps known_now (pure_held advance) sets) in
      let body = enclosed parts (here ∷ outer) known_now a own.0 (λ mid k. act_fine parts (known_now ∷ here ∷ outer) [] a mid formed.5 k) (ap last (sym is) ∙ two.2) in
      record {
        fine = (begun.0, there_fine (number_checks ks) (IsNumber ks) (number_fine ks) test passed.0, sets, goes.0, body.0);
        is = own.2 ∙ ap left body.1;
      }
  act_fine parts outer here (Block' shape row) after formed e =
      let own = within (λ inner. row_on parts inner row) (here ∷ outer) after e in
      let all = row_fine parts (here ∷ outer) [] row own.0 formed.1 own.1 in
      record { fine = all.0; is = own.2 ∙ ap left all.1.is }
  act_fine parts outer here act.Empty after formed e = record { fine = tt; is = same_after e }

  else_fine : (parts : List PurePart) (outer : Stack) (here : List Known) (o : Held-Act-If-2) (after : Stack) → IsFormedActOption o → else_on parts (here ∷ outer) o ≡ Ok after
      → IsFineHeld (named_wants parts) (here ∷ outer) [] (pure_held o) × (after ≡ here ∷ outer)
  else_fine parts outer here None' after formed e = (tt, same_after e)
  else_fine parts outer here (Some' b p a) after formed e = enclosed parts outer here a after (λ mid h. act_fine parts (here ∷ outer) [] a mid formed h) e

  -- a start or an advance
  held_fine : (parts : List PurePart) (outer : Stack) (here : List Known) (o : Held-Act-If-2) (after : Stack) → IsFormedActOption o → held_on parts (here ∷ outer) o ≡ Ok after
      → IsFineHeld (named_wants parts) outer here (pure_held o) × (after ≡ names_held here (pure_held o) ∷ outer)
  held_fine parts outer here None' after formed e = (tt, same_after e)
  held_fine parts outer here (Some' b p a) after formed e = let h = act_fine parts outer here a after formed e in (h.fine, h.is)

  row_fine : {m : _} (parts : List PurePart) (outer : Stack) (here : List Known) (row : Row_of-Stmt m) (after : Stack) → AreFormedStmts row → row_on parts (here ∷ outer) row ≡ Ok after
      → AreFine (named_wants parts) outer here (pure_row row) × RunsOn outer after
  row_fine parts outer here end_of-Stmt after formed e = (tt, record { last = here; is = same_after e })
  row_fine parts outer here (more_of-Stmt p a rest) after formed e =
      let one = between (act_on parts (here ∷ outer) a) (λ mid. row_on parts mid rest) after e in
      let h = act_fine parts outer here a one.0 formed.0 one.1 in
      let more = row_fine parts outer (names_after here (pure_act a)) rest after formed.1 (ap (λ (s : Stack). row_on parts s rest) (sym h.is) ∙ one.2) in
      ((h.fine, more.0), more.1)

-- the statements of a body
pub stmts_fine : (parts : List PurePart) (outer : Stack) (here : List Known) (ss : List Stmt) (after : Stack) → All IsFormedStmt ss → stmts_on parts (here ∷ outer) ss ≡ Ok after
    → AreFine (named_wants parts) outer here (in_row (map pure_stmt ss))
stmts_fine parts outer here [] after formed e = tt
stmts_fine parts outer here (s ∷ ss) after formed e =
    let one = between (act_on parts (here ∷ outer) s.act) (λ mid. stmts_on parts mid ss) after e in
    let h = act_fine parts outer here s.act one.0 (All-head IsFormedStmt s ss formed) one.1 in
    (h.fine, stmts_fine parts outer (names_after here (pure_act s.act)) ss after (All-tail IsFormedStmt s ss formed) (ap (λ (t : Stack). stmts_on parts t ss) (sym h.is) ∙ one.2))
