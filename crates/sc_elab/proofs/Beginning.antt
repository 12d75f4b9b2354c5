-- How a statement begins: what it comes to, and what is put on the list.
use Rattle.std.proofs.Common.{◌≡◌, ℕ, suc, ◌+◌, ◌<◌, ◌≤◌, true, false, List, [], ◌∷◌, ◌++◌, length, Option, Some, None, Result, Ok, Err, get_or, refl, sym, ap, ◌∙◌, arith, length-append}
use Rattle.std.specs.Prelude.{option_map, map}
use Rattle.std.specs.Borrow.{Bor}
use Rattle.std.specs.List.{between}
use Rattle.std.proofs.lemmas.Slice.{first_rest}
use Rattle.std.specs.Option.{option_copied}
use Rattle.std.specs.declared.alloc.Global.{Global}
use Rattle.std.specs.declared.boxed.Box.{Box}
use Rattle.std.specs.declared.vec.Vec.{Vec}
use Rattle.sc_base.specs.declared.Class.{Class}
use Rattle.sc_base.specs.declared.Place.{Place}
use Rattle.sc_syntax.specs.declared.Call.{Call as CallOf}
use Rattle.sc_syntax.specs.declared.Callee.{Callee as Called}
use Rattle.sc_syntax.specs.declared.Callee.TheVariants as called
use Rattle.sc_syntax.specs.declared.Decl.{Decl}
use Rattle.sc_syntax.specs.declared.Expr.{Expr}
use Rattle.sc_syntax.specs.declared.Init.{Init}
use Rattle.sc_syntax.specs.declared.Measure.{Measure as MeasureOf}
use Rattle.sc_syntax.specs.declared.NumSort.{NumSort}
use Rattle.sc_syntax.specs.declared.Set.{Set as SetOf}
use Rattle.sc_syntax.specs.declared.Stmt.{Stmt}
use Rattle.sc_syntax.specs.declared.Act.{Act, Wires, Numbers, Set, Measure, Call, If, While, For, Block, Empty}
use Rattle.sc_syntax.specs.Alike.{PureExpr, PureAct, pure_expr, pure_decl, pure_init, pure_act, pure_stmt_list}
use Rattle.sc_syntax.proofs.PureRows.{pure_block}
use Rattle.sc_meaning.specs.declared.choice.Choice.{Choice}
use Rattle.sc_meaning.specs.declared.fault.ElabFault.{ElabFault}
use Rattle.sc_elab.specs.declared.frame.Frame.{Frame}
use Rattle.sc_elab.specs.declared.todo.Todo.{Todo}
use Rattle.sc_elab.specs.declared.todo.Todo.TheVariants.{Do, Loop, Rest, Leave}
use Rattle.sc_elab.specs.declared.todo.Rounds.{Rounds}
use Rattle.sc_elab.specs.declared.todo.Request.{Request}
use Rattle.sc_meaning.specs.Arguments.{Passed, prepared}
use Rattle.sc_elab.specs.Callees.{Requests}
use Rattle.sc_meaning.specs.Definitions.{Definition, Program}
use Rattle.sc_elab.specs.Beginnings.{Begun}
use Rattle.sc_elab.specs.Folding.{written}
use Rattle.sc_elab.specs.Frames.{view, made, Advanced, StopsAt}
use Rattle.sc_elab.specs.Gating.{measure_on, call_on}
use Rattle.sc_meaning.specs.Local.{ran}
use Rattle.sc_meaning.specs.Outcomes.{Outcome, Done, Stopped, then_do, given, leaving}
use Rattle.sc_elab.specs.Pending.{held_by, round_of, looped, if_on, for_on, block_on, doing, pending, asked, leaves, to_do, after_round}
use Rattle.sc_meaning.specs.Run.{Callee, declare_wires, declare_numbers, set_number, step, act, acts, maybe, otherwise, choose, finish, loop, back_in, enter_with, call_named}
use Rattle.sc_meaning.specs.States.{State, with_scope, without_scope, inside}
use Rattle.sc_elab.specs.Stepping.{Steps, holds}
use Rattle.sc_elab.proofs.Going.{refused_from, refused_at}
use Rattle.sc_elab.proofs.LoopParts.{stepped, unstepped, chosen_is, unchosen, round_with, round_without, alone_is}
use Rattle.sc_elab.proofs.Loops.{tested_once, untested_once, begins_round, falls_round}
use Rattle.sc_elab.proofs.PendingLaws.{pending_more, pending_last, inside_parts}
use Rattle.sc_meaning.proofs.Ran.{after_none, ran_stop, then_then, then_none, leaving_is}

-- ---- scopes and parts

pub leaves_both : (todo ts : List Todo) → leaves (todo ++ ts) ≡ leaves todo + leaves ts
leaves_both [] ts = omega arith
leaves_both (Do p ∷ todo) ts = leaves_both todo ts
leaves_both (Loop r ∷ todo) ts = leaves_both todo ts
leaves_both (Rest xs ∷ todo) ts = leaves_both todo ts
leaves_both (Leave ∷ todo) ts = let e : leaves (todo ++ ts) ≡ leaves todo + leaves ts = leaves_both todo ts in omega arith

pub leaves_more : (todo todo' ts : List Todo) → todo' ≡ todo ++ ts → leaves todo' ≡ leaves todo + leaves ts
leaves_more todo todo' ts is = ap leaves is ∙ leaves_both todo ts

pub length_more : (todo todo' ts : List Todo) → todo' ≡ todo ++ ts → length todo' ≡ length todo + length ts
length_more todo todo' ts is = ap length is ∙ length-append todo ts

-- nothing is put on the list
pub begun_still : (f g : Frame) (todo : List Todo) → g.steps ≡ f.steps → length g.numbers ≡ length f.numbers → Begun f todo g todo
begun_still f g todo steps scopes = record { steps = steps; few = omega arith; scopes = omega arith }

-- parts are put there
pub begun_parts : (f : Frame) (todo todo' ts : List Todo) → todo' ≡ todo ++ ts → leaves ts ≡ 0 → length ts ≤ 3 → Begun f todo f todo'
begun_parts f todo todo' ts is none few =
    let l : length todo' ≡ length todo + length ts = length_more todo todo' ts is in
    let s : leaves todo' ≡ leaves todo + leaves ts = leaves_more todo todo' ts is in
    record { steps = refl; few = omega arith; scopes = omega arith }

-- a scope is entered
pub begun_inside : (f g : Frame) (todo todo' ts : List Todo) → view g ≡ with_scope (view f) → todo' ≡ todo ++ Leave ∷ ts → leaves ts ≡ 0 → length ts ≤ 2 → Begun f todo g todo'
begun_inside f g todo todo' ts v is none few =
    let n : length g.numbers ≡ suc (length f.numbers) = ap (λ (s : State). length s.numbers) v in
    let l : length todo' ≡ length todo + length (Leave ∷ ts) = length_more todo todo' (Leave ∷ ts) is in
    let s : leaves todo' ≡ leaves todo + leaves (Leave ∷ ts) = leaves_more todo todo' (Leave ∷ ts) is in
    record { steps = ap (λ (s : State). s.steps) v; few = omega arith; scopes = omega arith }

pub few_to_do : (stmt : Option (Bor Stmt)) → (length (to_do stmt) ≤ 1) × (leaves (to_do stmt) ≡ 0)
few_to_do None = (omega arith, refl)
few_to_do (Some p) = (omega arith, refl)

-- ---- a first part, and others that are put on the list

-- a part goes first, and the others are put on the list before it
pub advanced_first : (program : Program) (choice : Choice) (part part' : Callee → State → Outcome State) (f f' g : Frame) (todo ts both todo' : List Todo) (r : Option Request)
    → f'.body.items ≡ f.body.items → both ≡ todo ++ ts
    → ((call : Callee) → part call (view f) ≡ then_do (part' call (view f')) (pending program call ts finish))
    → Advanced program choice part' f' both r g todo' → Advanced program choice part f todo r g todo'
advanced_first program choice part part' f f' g todo ts both todo' r items more is h call go ws rest deck keys few =
    (λ i. ran choice (made ws (written (sym items i)) rest deck keys) (then_do (is call i) (pending program call todo go)))
    ∙ ap (ran choice (made ws (written f'.body.items) rest deck keys)) (then_then (part' call (view f')) (pending program call ts finish) (pending program call todo go))
    ∙ (λ i. ran choice (made ws (written f'.body.items) rest deck keys) (then_do (part' call (view f')) (λ a. sym (pending_more program call todo ts go a) i)))
    ∙ (λ i. ran choice (made ws (written f'.body.items) rest deck keys) (then_do (part' call (view f')) (pending program call (sym more i) go)))
    ∙ h call go ws rest deck keys few

-- the first part is refused
pub stops_first : (choice : Choice) (part part' rest : Callee → State → Outcome State) (f f' : Frame) (fault : ElabFault)
    → f'.body.items ≡ f.body.items → ((call : Callee) → part call (view f) ≡ then_do (part' call (view f')) (rest call))
    → StopsAt choice part' f' fault → StopsAt choice part f fault
stops_first choice part part' others f f' fault items is h call ws rest deck keys few =
    (λ i. ran choice (made ws (written (sym items i)) rest deck keys) (is call i))
    ∙ ran_stop choice (made ws (written f'.body.items) rest deck keys) (part' call (view f')) fault (others call) (h call ws rest deck keys few)

-- the same of a part that is another
pub stops_from : (choice : Choice) (part part' : Callee → State → Outcome State) (f f' : Frame) (fault : ElabFault)
    → f'.body.items ≡ f.body.items → ((call : Callee) → part call (view f) ≡ part' call (view f'))
    → StopsAt choice part' f' fault → StopsAt choice part f fault
stops_from choice part part' f f' fault items is h call ws rest deck keys few =
    (λ i. ran choice (made ws (written (sym items i)) rest deck keys) (is call i)) ∙ h call ws rest deck keys few

-- a part that is a fault
pub stops_at : (choice : Choice) (part : Callee → State → Outcome State) (f : Frame) (fault : ElabFault)
    → ((call : Callee) → part call (view f) ≡ Stopped [] fault) → StopsAt choice part f fault
stops_at choice part f fault is call = refused_from choice (part call (view f)) (Stopped [] fault) f fault (is call) (refused_at choice fault f)

-- ---- calls

pub asked_named : (call : Callee) (name : List ℕ) (d : Definition) (args : List PureExpr) (s : State) (r : Request)
    → Requests (prepared s d args) name r → call_named call name (Some d) args s ≡ asked call r s
asked_named call name d args s r q =
    ap (λ (x : Result (List Passed) ElabFault). given x (enter_with call name s)) q.is
    ∙ (λ i. leaving (back_in s) (call (sym q.key i) (sym q.wires i) s.next))

pub refused_named : (call : Callee) (name : List ℕ) (d : Definition) (args : List PureExpr) (s : State) (fault : ElabFault)
    → prepared s d args ≡ Err fault → call_named call name (Some d) args s ≡ Stopped [] fault
refused_named call name d args s fault is = ap (λ (x : Result (List Passed) ElabFault). given x (enter_with call name s)) is

-- ---- statements of the tree

pub act_wires : (program : Program) (call : Callee) (at : Place) (task : Act) (c : Class) (ds xs : List Decl) (s : State) → task ≡ Wires c ds → xs ≡ ds
    → act program call at (pure_act task) s ≡ declare_wires c (map pure_decl xs) s
act_wires program call at task c ds xs s is same = (λ i. act program call at (pure_act (is i)) s) ∙ (λ i. declare_wires c (map pure_decl (sym same i)) s)

pub act_numbers : (program : Program) (call : Callee) (at : Place) (task : Act) (sort : NumSort) (ds xs : List Init) (s : State) → task ≡ Numbers sort ds → xs ≡ ds
    → act program call at (pure_act task) s ≡ declare_numbers sort (map pure_init xs) s
act_numbers program call at task sort ds xs s is same = (λ i. act program call at (pure_act (is i)) s) ∙ (λ i. declare_numbers sort (map pure_init (sym same i)) s)

pub act_set : (program : Program) (call : Callee) (at : Place) (task : Act) (t : SetOf) (s : State) → task ≡ Set t
    → act program call at (pure_act task) s ≡ set_number t.name t.op t.place (option_map pure_expr t.value) s
act_set program call at task t s is = λ i. act program call at (pure_act (is i)) s

pub act_measure : (program : Program) (call : Callee) (at : Place) (task : Act) (m : MeasureOf) (s : State) → task ≡ Measure m → act program call at (pure_act task) s ≡ measure_on m s
act_measure program call at task m s is = λ i. act program call at (pure_act (is i)) s

pub act_empty : (program : Program) (call : Callee) (at : Place) (task : Act) (s : State) → task ≡ Empty → act program call at (pure_act task) s ≡ Done [] s
act_empty program call at task s is = λ i. act program call at (pure_act (is i)) s

pub act_call : (program : Program) (call : Callee) (at place : Place) (callee : Called) (args : List PureExpr) (s : State)
    → act program call at (PureAct.call callee place args) s ≡ call_on program call callee args s
act_call program call at place (called.Gate g) args s = refl
act_call program call at place (called.Named t) args s = refl

pub act_called : (program : Program) (call : Callee) (at : Place) (task : Act) (c : CallOf) (s : State) → task ≡ Call c
    → act program call at (pure_act task) s ≡ call_on program call c.callee (map pure_expr c.args) s
act_called program call at task c s is = (λ i. act program call at (pure_act (is i)) s) ∙ act_call program call at c.place c.callee (map pure_expr c.args) s

if_is : (program : Program) (call : Callee) (at : Place) (e : Expr) (b : Box Stmt Global) (other : Option (Box Stmt Global)) (s : State)
    → act program call at (pure_act (If e b other)) s ≡ if_on program call e b.value (option_map (λ held. held.value) other) s
if_is program call at e b None s = refl
if_is program call at e b (Some o) s = refl

pub act_if : (program : Program) (call : Callee) (at : Place) (task : Act) (e : Expr) (b : Box Stmt Global) (held : Option (Box Stmt Global)) (body : Stmt) (other : Option Stmt) (s : State)
    → task ≡ If e b held → body ≡ b.value → other ≡ option_map (λ held. held.value) held → act program call at (pure_act task) s ≡ if_on program call e body other s
act_if program call at task e b held body other s is body_is other_is =
    (λ i. act program call at (pure_act (is i)) s)
    ∙ if_is program call at e b held s
    ∙ (λ i. if_on program call e (sym body_is i) (sym other_is i) s)

pub act_while : (program : Program) (call : Callee) (at : Place) (task : Act) (e : Expr) (b : Box Stmt Global) (r : Rounds) (s : State)
    → task ≡ While e b → r.at ≡ at → option_copied r.test ≡ Some e → r.body.now ≡ b.value → option_copied r.advance ≡ None
    → act program call at (pure_act task) s ≡ looped program call r s
act_while program call at task e b r s is at_is test_is body_is advance_is =
    (λ i. act program call at (pure_act (is i)) s)
    ∙ alone_is program call at (Some (pure_expr e)) b.value s
    ∙ (λ i. loop (sym at_is i) (option_map pure_expr (sym test_is i)) (sym body_is i).place (round_of program call (sym body_is i) (held_by (sym advance_is i))) s)

for_is : (program : Program) (call : Callee) (at : Place) (start : Option (Box Stmt Global)) (test : Option Expr) (advance : Option (Box Stmt Global)) (b : Box Stmt Global) (s : State)
    → act program call at (pure_act (For start test advance b)) s
    ≡ inside (λ v. then_do (maybe program call (held_by (option_map (λ held. held.value) start)) v)
    (loop at (option_map pure_expr test) b.value.place (round_of program call b.value (held_by (option_map (λ held. held.value) advance))))) s
for_is program call at None test None b s = refl
for_is program call at None test (Some a) b s = refl
for_is program call at (Some o) test None b s = refl
for_is program call at (Some o) test (Some a) b s = refl

pub act_for : (program : Program) (call : Callee) (at : Place) (task : Act) (start : Option (Box Stmt Global)) (test : Option Expr) (advance : Option (Box Stmt Global)) (b : Box Stmt Global)
    (first : Option Stmt) (r : Rounds) (s : State)
    → task ≡ For start test advance b → first ≡ option_map (λ held. held.value) start → r.at ≡ at → option_copied r.test ≡ test → r.body.now ≡ b.value
    → option_copied r.advance ≡ option_map (λ held. held.value) advance
    → act program call at (pure_act task) s ≡ for_on program call first r s
act_for program call at task start test advance b first r s is first_is at_is test_is body_is advance_is =
    (λ i. act program call at (pure_act (is i)) s)
    ∙ for_is program call at start test advance b s
    ∙ (λ i. inside (λ v. then_do (maybe program call (held_by (sym first_is i)) v)
    (loop (sym at_is i) (option_map pure_expr (sym test_is i)) (sym body_is i).place (round_of program call (sym body_is i) (held_by (sym advance_is i))))) s)

pub act_block : (program : Program) (call : Callee) (at : Place) (task : Act) (stmts : Vec Stmt Global) (xs : List Stmt) (s : State)
    → task ≡ Block stmts → xs ≡ stmts.items → act program call at (pure_act task) s ≡ block_on program call xs s
act_block program call at task stmts xs s is xs_is =
    (λ i. act program call at (pure_act (is i)) s)
    ∙ ap (λ (a : PureAct). act program call at a s) (pure_block stmts)
    ∙ (λ i. block_on program call (sym xs_is i) s)

-- ---- conditions

pub if_holds : (program : Program) (call : Callee) (e : Expr) (body : Bor Stmt) (other : Option Stmt) (f g : Frame) → holds f.numbers (pure_expr e) ≡ Ok true → view g ≡ with_scope (view f)
    → if_on program call e body.now other (view f) ≡ pending program call (Leave ∷ Do body ∷ []) finish (view g)
if_holds program call e body other f g h v =
    chosen_is (pure_expr e) true (inside (step body.now.place (act program call body.now.place (pure_act body.now.act)))) (otherwise program call (held_by other)) (view f) h
    ∙ inside_parts program call (Do body) (view f) (view g) (step body.now.place (act program call body.now.place (pure_act body.now.act))) v (λ s. refl)

pub if_other : (program : Program) (call : Callee) (e : Expr) (body : Stmt) (other : Bor Stmt) (f g : Frame) → holds f.numbers (pure_expr e) ≡ Ok false → view g ≡ with_scope (view f)
    → if_on program call e body (Some other.now) (view f) ≡ pending program call (Leave ∷ Do other ∷ []) finish (view g)
if_other program call e body other f g h v =
    chosen_is (pure_expr e) false (inside (step body.place (act program call body.place (pure_act body.act)))) (otherwise program call (held_by (Some other.now))) (view f) h
    ∙ inside_parts program call (Do other) (view f) (view g) (step other.now.place (act program call other.now.place (pure_act other.now.act))) v (λ s. refl)

pub if_none : (program : Program) (call : Callee) (e : Expr) (body : Stmt) (f : Frame) → holds f.numbers (pure_expr e) ≡ Ok false
    → if_on program call e body None (view f) ≡ Done [] (view f)
if_none program call e body f h =
    chosen_is (pure_expr e) false (inside (step body.place (act program call body.place (pure_act body.act)))) (otherwise program call (held_by None)) (view f) h

pub if_fault : (program : Program) (call : Callee) (e : Expr) (body : Stmt) (other : Option Stmt) (f : Frame) (fault : ElabFault) → holds f.numbers (pure_expr e) ≡ Err fault
    → if_on program call e body other (view f) ≡ Stopped [] fault
if_fault program call e body other f fault h =
    unchosen (pure_expr e) fault (inside (step body.place (act program call body.place (pure_act body.act)))) (otherwise program call (held_by other)) (view f) h

-- ---- loops

inside_two : (program : Program) (call : Callee) (t u : Todo) (s v : State) → v ≡ with_scope s
    → inside (λ x. then_do (doing program call t x) (doing program call u)) s ≡ pending program call (Leave ∷ u ∷ t ∷ []) finish v
inside_two program call t u s v e =
    leaving_is without_scope (then_do (doing program call t (with_scope s)) (doing program call u))
    ∙ then_then (doing program call t (with_scope s)) (doing program call u) (λ w. Done [] (without_scope w))
    ∙ ap (λ (x : State). then_do (doing program call t x) (λ y. then_do (doing program call u y) (λ w. Done [] (without_scope w)))) (sym e)

-- the start of a loop, and its rounds
pub for_parts : (program : Program) (call : Callee) (start : Option (Bor Stmt)) (r : Rounds) (f g : Frame) → view g ≡ with_scope (view f)
    → for_on program call (option_copied start) r (view f) ≡ pending program call (Leave ∷ Loop r ∷ to_do start) finish (view g)
for_parts program call None r f g v =
    ap (leaving without_scope) (after_none (looped program call r (with_scope (view f))))
    ∙ inside_parts program call (Loop r) (view f) (view g) (looped program call r) v (λ s. refl)
for_parts program call (Some p) r f g v = inside_two program call (Do p) (Loop r) (view f) (view g) v

round_by : (program : Program) (call : Callee) (b : Bor Stmt) (advance : Option (Bor Stmt)) (t : Todo) (s : State)
    → then_do (round_of program call b.now (held_by (option_copied advance)) s) (doing program call t)
    ≡ then_do (doing program call (Do b) (with_scope s)) (pending program call (t ∷ (to_do advance ++ Leave ∷ [])) finish)
round_by program call b None t s = round_without program call b.now (doing program call t) s
round_by program call b (Some a) t s = round_with program call b.now a.now (doing program call t) s

-- a loop whose test holds
pub looped_holds : (program : Program) (call : Callee) (r : Rounds) (test : Bor Expr) (f g h : Frame) (u : Unit {0}) → r.test ≡ Some test
    → Steps f r.at (Ok u) g → holds g.numbers (pure_expr test.now) ≡ Ok true → view h ≡ with_scope (view g)
    → looped program call r (view f) ≡ pending program call (after_round r ++ Do r.body ∷ []) finish (view h)
looped_holds program call r test f g h u is stepped_is true_is v =
    let e : PureExpr = pure_expr test.now in
    let round : State → Outcome State = round_of program call r.body.now (held_by (option_copied r.advance)) in
    let again : Option (Bor Expr) → State → Outcome State = λ t. loop r.at (option_map pure_expr (option_copied t)) r.body.now.place round in
    ap (λ (t : Option (Bor Expr)). again t (view f)) is
    ∙ tested_once r.at e r.body.now.place round (falls_round program call r.body.now.place (pure_act r.body.now.act) (held_by (option_copied r.advance))) (view f)
    ∙ (λ i. step r.at (choose e (λ s. then_do (round s) (again (sym is i))) finish) (view f))
    ∙ stepped f g r.at u (choose e (λ s. then_do (round s) (looped program call r)) finish) stepped_is
    ∙ chosen_is e true (λ s. then_do (round s) (looped program call r)) finish (view g) true_is
    ∙ round_by program call r.body r.advance (Loop r) (view g)
    ∙ ap (λ (s : State). then_do (doing program call (Do r.body) s) (pending program call (after_round r) finish)) (sym v)
    ∙ sym (pending_last program call (after_round r) (Do r.body) finish (view h))

-- one whose test does not
pub looped_ends : (program : Program) (call : Callee) (r : Rounds) (test : Bor Expr) (f g : Frame) (u : Unit {0}) → r.test ≡ Some test
    → Steps f r.at (Ok u) g → holds g.numbers (pure_expr test.now) ≡ Ok false → looped program call r (view f) ≡ Done [] (view g)
looped_ends program call r test f g u is stepped_is false_is =
    let e : PureExpr = pure_expr test.now in
    let round : State → Outcome State = round_of program call r.body.now (held_by (option_copied r.advance)) in
    let again : Option (Bor Expr) → State → Outcome State = λ t. loop r.at (option_map pure_expr (option_copied t)) r.body.now.place round in
    ap (λ (t : Option (Bor Expr)). again t (view f)) is
    ∙ tested_once r.at e r.body.now.place round (falls_round program call r.body.now.place (pure_act r.body.now.act) (held_by (option_copied r.advance))) (view f)
    ∙ stepped f g r.at u (choose e (λ s. then_do (round s) (again (Some test))) finish) stepped_is
    ∙ chosen_is e false (λ s. then_do (round s) (again (Some test))) finish (view g) false_is

-- one whose test has a fault
pub looped_fault : (program : Program) (call : Callee) (r : Rounds) (test : Bor Expr) (f g : Frame) (u : Unit {0}) (fault : ElabFault) → r.test ≡ Some test
    → Steps f r.at (Ok u) g → holds g.numbers (pure_expr test.now) ≡ Err fault → looped program call r (view f) ≡ Stopped [] fault
looped_fault program call r test f g u fault is stepped_is fault_is =
    let e : PureExpr = pure_expr test.now in
    let round : State → Outcome State = round_of program call r.body.now (held_by (option_copied r.advance)) in
    let again : Option (Bor Expr) → State → Outcome State = λ t. loop r.at (option_map pure_expr (option_copied t)) r.body.now.place round in
    ap (λ (t : Option (Bor Expr)). again t (view f)) is
    ∙ tested_once r.at e r.body.now.place round (falls_round program call r.body.now.place (pure_act r.body.now.act) (held_by (option_copied r.advance))) (view f)
    ∙ stepped f g r.at u (choose e (λ s. then_do (round s) (again (Some test))) finish) stepped_is
    ∙ unchosen e fault (λ s. then_do (round s) (again (Some test))) finish (view g) fault_is

-- one whose test has no step left
pub looped_long : (program : Program) (call : Callee) (r : Rounds) (test : Bor Expr) (f g : Frame) (fault : ElabFault) → r.test ≡ Some test
    → Steps f r.at (Err fault) g → looped program call r (view f) ≡ Stopped [] fault
looped_long program call r test f g fault is unstepped_is =
    let e : PureExpr = pure_expr test.now in
    let round : State → Outcome State = round_of program call r.body.now (held_by (option_copied r.advance)) in
    let again : Option (Bor Expr) → State → Outcome State = λ t. loop r.at (option_map pure_expr (option_copied t)) r.body.now.place round in
    ap (λ (t : Option (Bor Expr)). again t (view f)) is
    ∙ tested_once r.at e r.body.now.place round (falls_round program call r.body.now.place (pure_act r.body.now.act) (held_by (option_copied r.advance))) (view f)
    ∙ unstepped f g r.at fault (choose e (λ s. then_do (round s) (again (Some test))) finish) unstepped_is

-- a loop without a test
pub looped_body : (program : Program) (call : Callee) (r : Rounds) (f g : Frame) → r.test ≡ None → view g ≡ with_scope (view f)
    → looped program call r (view f) ≡ then_do (doing program call (Do r.body) (view g)) (pending program call (after_round r) finish)
looped_body program call r f g is v =
    let round : State → Outcome State = round_of program call r.body.now (held_by (option_copied r.advance)) in
    let again : Option (Bor Expr) → State → Outcome State = λ t. loop r.at (option_map pure_expr (option_copied t)) r.body.now.place round in
    ap (λ (t : Option (Bor Expr)). again t (view f)) is
    ∙ untested_once r.at r.body.now.place round (begins_round program call r.body.now.place (pure_act r.body.now.act) (held_by (option_copied r.advance))) (view f)
    ∙ (λ i. then_do (round (view f)) (again (sym is i)))
    ∙ round_by program call r.body r.advance (Loop r) (view f)
    ∙ ap (λ (s : State). then_do (doing program call (Do r.body) s) (pending program call (after_round r) finish)) (sym v)

-- ---- statements one after another

pub first_is : (xs : List Stmt) (x : Stmt) → 0 < length xs → x ≡ get_or xs 0 x → xs ≡ x ∷ between 1 (length xs) xs
first_is xs x some is = first_rest xs x some ∙ ap (λ (y : Stmt). y ∷ between 1 (length xs) xs) (sym is)

pub acts_first : (program : Program) (call : Callee) (xs : List Stmt) (first : Bor Stmt) (rest : Bor (List Stmt)) (s : State) → xs ≡ first.now ∷ rest.now
    → acts program call (pure_stmt_list xs) s ≡ then_do (doing program call (Do first) s) (pending program call (Rest rest ∷ []) finish)
acts_first program call xs first rest s is =
    ap (λ (ys : List Stmt). acts program call (pure_stmt_list ys) s) is
    ∙ (λ i. then_do (doing program call (Do first) s) (λ u. sym (then_none (acts program call (pure_stmt_list rest.now) u)) i))
