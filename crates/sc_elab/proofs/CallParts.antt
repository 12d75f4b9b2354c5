-- Calls as parts of a body: a gate is applied, or the call of a definition is come to.
use Rattle.std.proofs.Common.{◌≡◌, ℕ, ◌≤◌, List, [], ◌∷◌, Option, Some, None, Err, refl, sym, ap, ◌∙◌, subst}
use Rattle.std.specs.Prelude.{map, IfOk}
use Rattle.sc_base.specs.declared.GateName.{GateName}
use Rattle.sc_gate.specs.Gates.{class_of, AreDistinct}
use Rattle.sc_gate.specs.Numbers.{both, AreThere}
use Rattle.sc_deck.specs.Bodies.{wires_of}
use Rattle.sc_deck.specs.Items.{GateFits}
use Rattle.sc_syntax.specs.declared.Act.{Measure, Call}
use Rattle.sc_syntax.specs.declared.Call.{Call as CallOf}
use Rattle.sc_syntax.specs.declared.Callee.{Callee as Called}
use Rattle.sc_syntax.specs.declared.Callee.TheVariants as called
use Rattle.sc_syntax.specs.declared.Expr.{Expr}
use Rattle.sc_syntax.specs.declared.Measure.{Measure as MeasureOf}
use Rattle.sc_syntax.specs.Alike.{PureAct, pure_expr, pure_operand, pure_act, pure_source}
use Rattle.sc_types.specs.Statements.{named_wants}
use Rattle.sc_types.specs.Accepted.{IsFine, IsAccepted}
use Rattle.sc_types.specs.Typing.{TypedSource}
use Rattle.sc_meaning.specs.declared.choice.Choice.{Choice}
use Rattle.sc_meaning.specs.declared.fault.ElabFault.{ElabFault}
use Rattle.sc_elab.specs.declared.frame.Frame.{Frame}
use Rattle.sc_elab.specs.declared.todo.Todo.{Todo}
use Rattle.sc_elab.specs.declared.todo.Request.{Request}
use Rattle.sc_meaning.specs.Arguments.{wires_of as passed_wires, called_gate, prepared}
use Rattle.sc_elab.specs.Callees.{Requests}
use Rattle.sc_meaning.specs.Definitions.{Definition, Program, definition}
use Rattle.sc_elab.specs.Frames.{view, Runs, IsRefused, Advanced, StopsAt}
use Rattle.sc_elab.specs.Gating.{gate_on_args, call_on}
use Rattle.sc_meaning.specs.Outcomes.{Outcome, Done}
use Rattle.sc_meaning.specs.Programs.{program_of}
use Rattle.sc_meaning.specs.Run.{Callee, measured, call_named}
use Rattle.sc_meaning.specs.States.{State}
use Rattle.sc_elab.specs.Typings.{IsTypedAct, IsTypedCall}
use Rattle.sc_elab.proofs.Beginning.{stops_at, asked_named, refused_named}
use Rattle.sc_elab.proofs.EnteringTyped.{Entering, entered_typed}
use Rattle.sc_elab.proofs.GateTyping.{called_typed, measured_typed}
use Rattle.sc_elab.proofs.Going.{runs_none, runs_from, refused_from}
use Rattle.sc_elab.proofs.PendingLaws.{advanced_runs, advanced_call}

-- a call of these arguments
abbrev pub calling : Program → Called → List Expr → Callee → State → Outcome State
calling program callee args call s = call_on program call callee (map pure_expr args) s

gate_is : (program : Program) (call : Callee) (callee : Called) (g : GateName) (args xs : List Expr) (s : State) → callee ≡ called.Gate g → xs ≡ args
    → calling program callee args call s ≡ gate_on_args g (map pure_expr xs) s
gate_is program call callee g args xs s is same = λ i. call_on program call (is i) (map pure_expr (sym same i)) s

pub gate_advanced : (program : Program) (choice : Choice) (callee : Called) (g : GateName) (args xs : List Expr) (f h : Frame) (todo : List Todo) → callee ≡ called.Gate g → xs ≡ args
    → Runs choice (gate_on_args g (map pure_expr xs) (view f)) f h → Advanced program choice (calling program callee args) f todo None h todo
gate_advanced program choice callee g args xs f h todo is same runs =
    advanced_runs program choice (calling program callee args) f h todo
    (λ call. runs_from choice (calling program callee args call (view f)) (gate_on_args g (map pure_expr xs) (view f)) f h (gate_is program call callee g args xs (view f) is same) runs)

pub gate_stops : (program : Program) (choice : Choice) (callee : Called) (g : GateName) (args xs : List Expr) (f : Frame) (fault : ElabFault) → callee ≡ called.Gate g → xs ≡ args
    → IsRefused choice (gate_on_args g (map pure_expr xs) (view f)) f fault → StopsAt choice (calling program callee args) f fault
gate_stops program choice callee g args xs f fault is same refused call =
    refused_from choice (calling program callee args call (view f)) (gate_on_args g (map pure_expr xs) (view f)) f fault (gate_is program call callee g args xs (view f) is same) refused

named_is : (program : Program) (call : Callee) (callee : Called) (t : List ℕ) (d : Option Definition) (args xs : List Expr) (s : State) → callee ≡ called.Named t → xs ≡ args → definition program t ≡ d
    → calling program callee args call s ≡ call_named call t d (map pure_expr xs) s
named_is program call callee t d args xs s is same the =
    (λ i. call_on program call (is i) (map pure_expr (sym same i)) s)
    ∙ ap (λ (e : Option Definition). call_named call t e (map pure_expr xs) s) the

-- a name without a definition does nothing
pub nothing_advanced : (program : Program) (choice : Choice) (callee : Called) (t : List ℕ) (args : List Expr) (f : Frame) (todo : List Todo) → callee ≡ called.Named t → definition program t ≡ None
    → Advanced program choice (calling program callee args) f todo None f todo
nothing_advanced program choice callee t args f todo is the =
    advanced_runs program choice (calling program callee args) f f todo
    (λ call. runs_from choice (calling program callee args call (view f)) (Done [] (view f)) f f (named_is program call callee t None args args (view f) is refl the) (runs_none choice (view f) f f refl refl))

pub named_advanced : (program : Program) (choice : Choice) (callee : Called) (t : List ℕ) (d : Definition) (args xs : List Expr) (f : Frame) (todo : List Todo) (r : Request)
    → callee ≡ called.Named t → xs ≡ args → definition program t ≡ Some d → Requests (prepared (view f) d (map pure_expr xs)) t r
    → Advanced program choice (calling program callee args) f todo (Some r) f todo
named_advanced program choice callee t d args xs f todo r is same the requests =
    advanced_call program choice (calling program callee args) f f todo r refl
    (λ call. named_is program call callee t (Some d) args xs (view f) is same the ∙ asked_named call t d (map pure_expr xs) (view f) r requests)

pub named_stops : (program : Program) (choice : Choice) (callee : Called) (t : List ℕ) (d : Definition) (args xs : List Expr) (f : Frame) (fault : ElabFault)
    → callee ≡ called.Named t → xs ≡ args → definition program t ≡ Some d → prepared (view f) d (map pure_expr xs) ≡ Err fault
    → StopsAt choice (calling program callee args) f fault
named_stops program choice callee t d args xs f fault is same the refused =
    stops_at choice (calling program callee args) f fault
    (λ call. named_is program call callee t (Some d) args xs (view f) is same the ∙ refused_named call t d (map pure_expr xs) (view f) fault refused)

-- ---- what the checks say of a call

-- the gate of a call fits
pub gate_fits : (t : TypedSource) (f : Frame) (c : CallOf) (g : GateName) (xs : List Expr) → c.callee ≡ called.Gate g → xs ≡ c.args → IsTypedAct t f (pure_act (Call c)) []
    → IfOk (called_gate (view f) g (map pure_expr xs)) (GateFits (wires_of f.body))
gate_fits t f c g xs is same h =
    called_typed (view f) (h.here ∷ h.outer) g (map pure_expr xs) h.typed
    (let fine : IsFine (named_wants (pure_source t.source)) h.outer h.here (PureAct.call (called.Gate g) c.place (map pure_expr xs)) =
    subst (IsFine (named_wants (pure_source t.source)) h.outer h.here) (λ i. PureAct.call (is i) c.place (map pure_expr (sym same i))) h.fine in
    fine)

-- and that of a measurement
pub measure_fits : (t : TypedSource) (f : Frame) (m : MeasureOf) (todo : List Todo) → IsTypedAct t f (pure_act (Measure m)) todo
    → IfOk (measured (view f) m.gate (pure_operand m.into) (pure_operand m.from)) (GateFits (wires_of f.body))
measure_fits t f m todo h = measured_typed (view f) (h.here ∷ h.outer) m.gate (pure_operand m.into) (pure_operand m.from) h.typed h.fine.0 h.fine.1 h.fine.2

-- the callee of a definition's call takes it
pub named_typed : (t : TypedSource) (f : Frame) (c : CallOf) (name : List ℕ) (d : Definition) (xs : List Expr) (r : Request) → IsAccepted t → both (wires_of f.body) ≤ 65536
    → c.callee ≡ called.Named name → xs ≡ c.args → definition (program_of t) name ≡ Some d → IsTypedAct t f (pure_act (Call c)) []
    → Requests (prepared (view f) d (map pure_expr xs)) name r → IsTypedCall t f r
named_typed t f c name d xs r accepted narrow is same the h q =
    let taken = named_wants (pure_source t.source) in
    let fine : IsFine taken h.outer h.here (PureAct.call (called.Named name) c.place (map pure_expr xs)) =
    subst (IsFine taken h.outer h.here) (λ i. PureAct.call (is i) c.place (map pure_expr (sym same i))) h.fine in
    let e : Entering t (wires_of f.body) r.key (passed_wires q.passed) =
    entered_typed t (view f) (h.here ∷ h.outer) name d (map pure_expr xs) q.passed r.key accepted h.typed narrow the fine q.is
    (subst AreDistinct q.wires q.distinct) q.key in
    record {
      entering = e.entering;
      classes = ap (map class_of) q.wires ∙ e.classes;
      distinct = q.distinct;
      there = subst (AreThere (wires_of f.body)) (sym q.wires) e.there;
    }
