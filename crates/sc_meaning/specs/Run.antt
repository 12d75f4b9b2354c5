-- The plain run: each call is run anew, and wires are numbered over the whole run.
use Rattle.std.specs.Prelude.{ℕ, zero, suc, ◌+◌, ℤ, pos, Bool, true, false, nat_le, Option, Some, None, Result, Ok, List, [], ◌∷◌, ◌++◌, map, length, if◌then◌else◌}
use Rattle.sc_base.specs.declared.Place.{Place}
use Rattle.sc_base.specs.declared.Class.{Class}
use Rattle.sc_base.specs.declared.Class.TheVariants.{Q}
use Rattle.sc_base.specs.declared.GateName.{GateName}
use Rattle.sc_gate.specs.declared.gate.Wire.{Wire}
use Rattle.sc_gate.specs.declared.gate.Gate.{Gate}
use Rattle.sc_syntax.specs.declared.Name.{Name}
use Rattle.sc_syntax.specs.declared.NumSort.{NumSort}
use Rattle.sc_syntax.specs.declared.SetOp.{SetOp}
use Rattle.sc_syntax.specs.declared.Callee.TheVariants as called
use Rattle.sc_syntax.specs.Alike.{PureExpr, PureNamed, PureParam, PureAct, PureHeld, PureStmts}
use Rattle.sc_value.specs.Numbers.{is_true}
use Rattle.sc_value.specs.Scopes.{Scopes}
use Rattle.sc_deck.specs.declared.Arg.{Arg}
use Rattle.sc_deck.specs.declared.Key.{Key}
use Rattle.sc_gate.specs.Numbers.{Numbers, with_more, no_wires}
use Rattle.sc_gate.specs.Renaming.{rename_gate}
use Rattle.sc_deck.specs.Events.{Event, Enter, Fresh, Apply, Return}
use Rattle.sc_deck.specs.Keys.{main_key}
use Rattle.sc_deck.specs.Unfolding.{wires_from, placed}
use Rattle.sc_meaning.specs.declared.fault.ElabFault.{ElabFault}
use Rattle.sc_meaning.specs.declared.fault.ElabFault.TheVariants.{BadSize, TooWide, TooLong, TooDeep}
use Rattle.sc_meaning.specs.Definitions.{Function, Definition, of_module, of_function, Program, definition}
use Rattle.sc_meaning.specs.Outcomes.{Outcome, Done, Stopped, then_do, given, leaving}
use Rattle.sc_meaning.specs.States.{State, with_number, with_new_value, with_fresh, inside}
use Rattle.sc_meaning.specs.Values.{◌>>=◌, number, whole_number, start_value, new_value, old_value, operand}
use Rattle.sc_meaning.specs.Arguments.{Passed, args_of, wires_of, prepared, kind_of, gate_on, called_gate, callee_numbers, wire_params}

-- what a call does: its key, its wires and the next fresh wires, with the next ones afterwards
abbrev pub Callee : Type 0
Callee = Key → List Wire → Numbers → Outcome Numbers

-- ---- steps

abbrev pub step_of : ℕ → Place → (State → Outcome State) → State → Outcome State
step_of zero at go s = Stopped [] (TooLong at)
step_of (suc n) at go s = go (record s { steps = n })

-- one step of the body, and then the rest
abbrev pub step : Place → (State → Outcome State) → State → Outcome State
step at go s = step_of s.steps at go s

-- ---- declarations

-- n wires under a name
abbrev pub make_wires : Class → Name → ℤ → State → Outcome State
make_wires c name (pos (suc n)) s =
    if nat_le (s.width + suc n) 65536
    then Done (Fresh c (suc n) ∷ []) (with_fresh c name.text (suc n) s)
    else Stopped [] (TooWide name.place)
make_wires c name _ s = Stopped [] (BadSize name.place)

abbrev pub size_of : Scopes → Option PureExpr → Result ℤ ElabFault
size_of scopes None = Ok (pos 1)
size_of scopes (Some e) = whole_number scopes e

-- declared wires, one name after another
abbrev pub declare_wires : Class → List PureNamed → State → Outcome State
declare_wires c [] s = Done [] s
declare_wires c (d ∷ ds) s = then_do (given (size_of s.numbers d.value) (λ n. make_wires c d.name n s)) (declare_wires c ds)

-- declared numbers, one name after another
abbrev pub declare_numbers : NumSort → List PureNamed → State → Outcome State
declare_numbers sort [] s = Done [] s
declare_numbers sort (d ∷ ds) s = given (start_value s.numbers sort d.value) (λ x. declare_numbers sort ds (with_number d.name.text x s))

-- ---- settings, gates and calls

abbrev pub set_number : Name → SetOp → Place → Option PureExpr → State → Outcome State
set_number name o mark e s =
    given (new_value s.numbers (old_value s.numbers name.text) o mark e) (λ x. Done [] (with_new_value name.text x s))

abbrev pub apply : State → Gate → Outcome State
apply s gate = Done (Apply gate ∷ []) s

-- a measurement into a classical bit, whose operand comes first
abbrev pub measured : State → GateName → PureNamed → PureNamed → Result Gate ElabFault
measured s g into from =
    operand s into.name.text into.name.place into.value >>= λ c.
    operand s from.name.text from.name.place from.value >>= λ q.
    kind_of g None >>= λ k. Ok (gate_on k (q ++ c))

-- back in the caller, whose next wires are those after the call
abbrev pub back_in : State → Numbers → State
back_in s next = record s { next = next }

abbrev pub enter_with : Callee → List ℕ → State → List Passed → Outcome State
enter_with callee name s ps = leaving (back_in s) (callee (record { name = name; args = args_of ps }) (wires_of ps) s.next)

-- a call of a module or of a classical function
abbrev pub call_named : Callee → List ℕ → Option Definition → List PureExpr → State → Outcome State
call_named callee name None args s = Done [] s
call_named callee name (Some d) args s = given (prepared s d args) (enter_with callee name s)

-- ---- conditions and loops

abbrev pub by_truth : Bool → (State → Outcome State) → (State → Outcome State) → State → Outcome State
by_truth true first second s = first s
by_truth false first second s = second s

-- the first where the condition holds, and else the second
abbrev pub choose : PureExpr → (State → Outcome State) → (State → Outcome State) → State → Outcome State
choose e first second s = given (number s.numbers e) (λ x. by_truth (is_true x) first second s)

abbrev pub finish : State → Outcome State
finish s = Done [] s

-- A loop: what a round does, which may go on with the rounds after it. Each round takes a step at least, so with this many
-- steps left there are at most as many rounds.
abbrev pub rounds : ℕ → Place → ((State → Outcome State) → State → Outcome State) → State → Outcome State
rounds zero at round s = Stopped [] (TooLong at)
rounds (suc n) at round s = round (rounds n at round) s

-- a round that begins with a test, which is a step at the loop
abbrev pub tested : Place → PureExpr → (State → Outcome State) → (State → Outcome State) → State → Outcome State
tested at e body again s = step at (choose e (λ s. then_do (body s) again) finish) s

-- a round without a test
abbrev pub untested : (State → Outcome State) → (State → Outcome State) → State → Outcome State
untested body again s = then_do (body s) again

-- the loop at a place, with a body at another
abbrev pub loop : Place → Option PureExpr → Place → (State → Outcome State) → State → Outcome State
loop at (Some e) p body s = rounds s.steps at (tested at e body) s
loop at None p body s = rounds s.steps p (untested body) s

-- ---- statements

-- What an act at a place does, where calls do what callee says. Each statement is a step; a body has a scope of its own.
abbrev mutual
  pub act : Program → Callee → Place → PureAct → State → Outcome State
  act program call at (PureAct.wires c ds) s = declare_wires c ds s
  act program call at (PureAct.numbers sort ds) s = declare_numbers sort ds s
  act program call at (PureAct.set name o mark e) s = set_number name o mark e s
  act program call at (PureAct.measure g into from) s = given (measured s g into from) (apply s)
  act program call at (PureAct.call (called.Gate g) place args) s = given (called_gate s g args) (apply s)
  act program call at (PureAct.call (called.Named t) place args) s = call_named call t (definition program t) args s
  act program call at (PureAct.if_else e p a other) s =
      choose e (inside (step p (act program call p a))) (otherwise program call other) s
  act program call at (PureAct.while_loop e p a) s = loop at (Some e) p (inside (step p (act program call p a))) s
  act program call at (PureAct.for_loop start test advance p a) s =
      inside (λ s. then_do (maybe program call start s)
      (loop at test p (λ s. then_do (inside (step p (act program call p a)) s) (maybe program call advance)))) s
  act program call at (PureAct.block row) s = inside (acts program call row) s
  act program call at PureAct.empty s = Done [] s

  -- the start or the advance of a loop, where there is one
  pub maybe : Program → Callee → PureHeld → State → Outcome State
  maybe program call PureHeld.absent s = Done [] s
  maybe program call (PureHeld.held p a) s = step p (act program call p a) s

  pub otherwise : Program → Callee → PureHeld → State → Outcome State
  otherwise program call PureHeld.absent s = Done [] s
  otherwise program call (PureHeld.held p a) s = inside (step p (act program call p a)) s

  -- statements one after another
  pub acts : Program → Callee → PureStmts → State → Outcome State
  acts program call PureStmts.no_stmts s = Done [] s
  acts program call (PureStmts.stmt p a rest) s = then_do (step p (act program call p a) s) (acts program call rest)

-- ---- bodies

-- the state in which the body of a module starts
abbrev pub start_state : List PureParam → List Arg → List Wire → Numbers → State
start_state params args wires next = record {
  numbers = callee_numbers params args;
  wires = wire_params params args wires ([] ∷ []);
  next = next;
  steps = 1048576;
  width = length wires;
}

abbrev pub fresh_scratch : ℕ → List Event
fresh_scratch zero = []
fresh_scratch (suc n) = Fresh Q (suc n) ∷ []

-- the gates of a classical function, with its scratch after its operands
abbrev pub function_body : Name → Function → List Wire → Numbers → Outcome Numbers
function_body name f wires next =
    let places : List Wire = wires ++ wires_from Q next.qubits f.scratch in
    if nat_le (length places) 65536
    then Done (fresh_scratch f.scratch ++ map (λ g. Apply (rename_gate (placed places) g)) f.gates) (with_more Q f.scratch next)
    else Stopped [] (TooWide name.place)

abbrev pub body : Program → Callee → Option Definition → List Arg → List Wire → Numbers → Outcome Numbers
body program call None args wires next = Done [] next
body program call (Some (of_module name params stmts)) args wires next =
    leaving (λ s. s.next) (acts program call stmts (start_state params args wires next))
body program call (Some (of_function name f)) args wires next = function_body name f wires next

-- the events of a body between the entering and the return
abbrev pub entered : Key → List Wire → Outcome Numbers → Outcome Numbers
entered key wires (Done events next) = Done (Enter key wires ∷ (events ++ Return key ∷ [])) next
entered key wires (Stopped events fault) = Stopped (Enter key wires ∷ events) fault

-- a call, where at most this many bodies may be open within one another from here on
unfoldable pub enter : Program → ℕ → Callee
enter program zero key wires next = Stopped [] TooDeep
enter program (suc n) key wires next =
    entered key wires (body program (enter program n) (definition program key.name) key.args wires next)

-- the run of a program: main without arguments, and at most 256 bodies open within one another
abbrev pub run_program : Program → Outcome Numbers
run_program program = enter program 256 main_key [] no_wires
