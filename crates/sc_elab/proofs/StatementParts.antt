-- Statements as parts of a body: what they come to, what is put on the list for them, and how many steps and scopes are left.
use Rattle.std.proofs.Common.{◌≡◌, ℕ, zero, suc, ◌+◌, ◌-◌, ◌*◌, ◌^◌, ◌<◌, ◌≤◌, Bool, true, false, List, [], ◌∷◌, ◌++◌, length, Option, Some, None, Result, Ok, Err, refl, sym, ap, ◌∙◌, arith, append_assoc, length-drop}
use Rattle.std.specs.Prelude.{OnOk}
use Rattle.std.specs.Borrow.{Bor}
use Rattle.std.specs.Option.{option_copied}
use Rattle.std.specs.declared.alloc.Global.{Global}
use Rattle.std.specs.declared.boxed.Box.{Box}
use Rattle.sc_base.specs.declared.Place.{Place}
use Rattle.sc_syntax.specs.declared.Act.{Act, While}
use Rattle.sc_syntax.specs.declared.Expr.{Expr}
use Rattle.sc_syntax.specs.declared.Stmt.{Stmt}
use Rattle.sc_syntax.specs.Alike.{pure_expr, pure_act, pure_stmt_list}
use Rattle.sc_deck.specs.Bodies.{Contents}
use Rattle.sc_deck.specs.Turns.{last_turns}
use Rattle.sc_value.specs.Scopes.{Scopes}
use Rattle.sc_meaning.specs.declared.choice.Choice.{Choice}
use Rattle.sc_meaning.specs.declared.fault.ElabFault.{ElabFault}
use Rattle.sc_meaning.specs.declared.fault.ElabFault.TheVariants.{TooLong}
use Rattle.sc_elab.specs.declared.frame.Frame.{Frame}
use Rattle.sc_elab.specs.declared.todo.Todo.{Todo}
use Rattle.sc_elab.specs.declared.todo.Todo.TheVariants.{Do, Loop, Rest, Leave}
use Rattle.sc_elab.specs.declared.todo.Rounds.{Rounds}
use Rattle.sc_elab.specs.declared.todo.Request.{Request}
use Rattle.sc_elab.specs.Beginnings.{Begun}
use Rattle.sc_meaning.specs.Definitions.{Program}
use Rattle.sc_elab.specs.Folding.{HasRoom}
use Rattle.sc_elab.specs.Frames.{view, Runs, IsRefused, Advanced, StopsAt}
use Rattle.sc_meaning.specs.Outcomes.{Outcome, Done}
use Rattle.sc_elab.specs.Pending.{looped, if_on, for_on, block_on, doing, pending, leaves, to_do, after_round}
use Rattle.sc_meaning.specs.Run.{Callee, act, acts, finish}
use Rattle.sc_meaning.specs.States.{State, with_scope, without_scope}
use Rattle.sc_elab.specs.Stepping.{StepsFrom, Steps, holds}
use Rattle.sc_elab.proofs.Beginning.{leaves_both, leaves_more, length_more, few_to_do, begun_still, begun_parts, begun_inside, advanced_first, stops_first, stops_from, stops_at, if_holds, if_other, if_none, if_fault, for_parts, looped_holds, looped_ends, looped_fault, looped_long, looped_body, acts_first, act_while}
use Rattle.sc_elab.proofs.Going.{runs_none, runs_from, refused_from}
use Rattle.sc_elab.proofs.LoopParts.{stepped, unstepped, stepped_body}
use Rattle.sc_elab.proofs.PendingLaws.{advanced_runs, advanced_parts, advanced_from, inside_parts, one_part}

-- parts on parts
pub more_parts : (todo mid todo' ts us : List Todo) → mid ≡ todo ++ ts → todo' ≡ mid ++ us → todo' ≡ todo ++ (ts ++ us)
more_parts todo mid todo' ts us is more = more ∙ ap (λ (l : List Todo). l ++ us) is ∙ append_assoc todo ts us

-- a part that does nothing
pub advanced_none : (program : Program) (choice : Choice) (part : Callee → State → Outcome State) (f g : Frame) (todo : List Todo) → g.body ≡ f.body
    → ((call : Callee) → part call (view f) ≡ Done [] (view g)) → Advanced program choice part f todo None g todo
advanced_none program choice part f g todo body is =
    advanced_runs program choice part f g todo
    (λ call. runs_from choice (part call (view f)) (Done [] (view g)) f g (is call) (runs_none choice (view g) f g (ap (λ (c : Contents). c.items) body) refl))

-- what the code has found a condition to be
pub truth_is : (r : Result Bool ElabFault) (b c : Bool) → Ok b ≡ r → b ≡ c → r ≡ Ok c
truth_is r b c is same = sym is ∙ (λ i. Ok (same i))

pub always : {T E : Type 0} (r : Result T E) (P : Type 0) → P → OnOk r P
always (Ok a) P p = p
always (Err e) P p = tt

-- an act that is done without a call
pub act_done : (program : Program) (choice : Choice) (at : Place) (task : Act) (o : Outcome State) (f g : Frame) (todo : List Todo) → ((call : Callee) → act program call at (pure_act task) (view f) ≡ o)
    → Runs choice o f g → Advanced program choice (λ call. act program call at (pure_act task)) f todo None g todo
act_done program choice at task o f g todo is runs =
    advanced_runs program choice (λ call. act program call at (pure_act task)) f g todo (λ call. runs_from choice (act program call at (pure_act task) (view f)) o f g (is call) runs)

pub act_refused : (program : Program) (choice : Choice) (at : Place) (task : Act) (o : Outcome State) (f : Frame) (fault : ElabFault) → ((call : Callee) → act program call at (pure_act task) (view f) ≡ o)
    → IsRefused choice o f fault → StopsAt choice (λ call. act program call at (pure_act task)) f fault
act_refused program choice at task o f fault is refused call = refused_from choice (act program call at (pure_act task) (view f)) o f fault (is call) refused

-- only the body has become another
pub begun_others : (f g : Frame) (todo : List Todo) → g ≡ record f { body = g.body } → Begun f todo g todo
begun_others f g todo same = begun_still f g todo (ap (λ (h : Frame). h.steps) same) (ap (λ (h : Frame). length h.numbers) same)

-- ---- an `if`

pub if_advanced : (program : Program) (choice : Choice) (e : Expr) (body : Bor Stmt) (other : Option Stmt) (f g : Frame) (todo todo' : List Todo)
    → holds f.numbers (pure_expr e) ≡ Ok true → view g ≡ with_scope (view f) → g.body ≡ f.body → todo' ≡ todo ++ Leave ∷ Do body ∷ []
    → Advanced program choice (λ call. if_on program call e body.now other) f todo None g todo'
if_advanced program choice e body other f g todo todo' h v b more =
    advanced_parts program choice (λ call. if_on program call e body.now other) f g todo (Leave ∷ Do body ∷ []) todo' (ap (λ (c : Contents). c.items) b) more
    (λ call. if_holds program call e body other f g h v)

pub else_advanced : (program : Program) (choice : Choice) (e : Expr) (body : Stmt) (other : Option (Bor Stmt)) (o : Bor Stmt) (f g : Frame) (todo todo' : List Todo) → other ≡ Some o
    → holds f.numbers (pure_expr e) ≡ Ok false → view g ≡ with_scope (view f) → g.body ≡ f.body → todo' ≡ todo ++ Leave ∷ Do o ∷ []
    → Advanced program choice (λ call. if_on program call e body (option_copied other)) f todo None g todo'
else_advanced program choice e body other o f g todo todo' is h v b more =
    advanced_parts program choice (λ call. if_on program call e body (option_copied other)) f g todo (Leave ∷ Do o ∷ []) todo' (ap (λ (c : Contents). c.items) b) more
    (λ call. (λ i. if_on program call e body (option_copied (is i)) (view f)) ∙ if_other program call e body o f g h v)

pub no_else_advanced : (program : Program) (choice : Choice) (e : Expr) (body : Stmt) (other : Option (Bor Stmt)) (f : Frame) (todo : List Todo) → other ≡ None
    → holds f.numbers (pure_expr e) ≡ Ok false → Advanced program choice (λ call. if_on program call e body (option_copied other)) f todo None f todo
no_else_advanced program choice e body other f todo is h =
    advanced_none program choice (λ call. if_on program call e body (option_copied other)) f f todo refl
    (λ call. (λ i. if_on program call e body (option_copied (is i)) (view f)) ∙ if_none program call e body f h)

pub if_stops : (program : Program) (choice : Choice) (e : Expr) (body : Stmt) (other : Option Stmt) (f : Frame) (fault : ElabFault) → holds f.numbers (pure_expr e) ≡ Err fault
    → StopsAt choice (λ call. if_on program call e body other) f fault
if_stops program choice e body other f fault h = stops_at choice (λ call. if_on program call e body other) f fault (λ call. if_fault program call e body other f fault h)

pub if_begun : (part : Todo) (f g : Frame) (todo todo' : List Todo) → leaves (part ∷ []) ≡ 0 → view g ≡ with_scope (view f) → todo' ≡ todo ++ Leave ∷ part ∷ [] → Begun f todo g todo'
if_begun part f g todo todo' none v more = begun_inside f g todo todo' (part ∷ []) v more none (omega arith)

-- ---- a `for` and a block

pub for_advanced : (program : Program) (choice : Choice) (start : Option (Bor Stmt)) (r : Rounds) (f g : Frame) (todo t1 t2 todo' : List Todo)
    → view g ≡ with_scope (view f) → g.body ≡ f.body → t1 ≡ todo ++ Leave ∷ [] → t2 ≡ t1 ++ Loop r ∷ [] → todo' ≡ t2 ++ to_do start
    → Advanced program choice (λ call. for_on program call (option_copied start) r) f todo None g todo'
for_advanced program choice start r f g todo t1 t2 todo' v b one two three =
    advanced_parts program choice (λ call. for_on program call (option_copied start) r) f g todo (Leave ∷ Loop r ∷ to_do start) todo' (ap (λ (c : Contents). c.items) b)
    (more_parts todo t2 todo' (Leave ∷ Loop r ∷ []) (to_do start) (more_parts todo t1 t2 (Leave ∷ []) (Loop r ∷ []) one two) three)
    (λ call. for_parts program call start r f g v)

pub for_begun : (start : Option (Bor Stmt)) (r : Rounds) (f g : Frame) (todo t1 t2 todo' : List Todo)
    → view g ≡ with_scope (view f) → t1 ≡ todo ++ Leave ∷ [] → t2 ≡ t1 ++ Loop r ∷ [] → todo' ≡ t2 ++ to_do start
    → Begun f todo g todo'
for_begun start r f g todo t1 t2 todo' v one two three =
    let few : (length (to_do start) ≤ 1) × (leaves (to_do start) ≡ 0) = few_to_do start in
    let l : length (to_do start) ≤ 1 = few.0 in
    begun_inside f g todo todo' (Loop r ∷ to_do start) v
    (more_parts todo t2 todo' (Leave ∷ Loop r ∷ []) (to_do start) (more_parts todo t1 t2 (Leave ∷ []) (Loop r ∷ []) one two) three)
    few.1 (omega arith)

pub block_advanced : (program : Program) (choice : Choice) (xs : Bor (List Stmt)) (f g : Frame) (todo mid todo' : List Todo)
    → view g ≡ with_scope (view f) → g.body ≡ f.body → mid ≡ todo ++ Leave ∷ [] → todo' ≡ mid ++ Rest xs ∷ []
    → Advanced program choice (λ call. block_on program call xs.now) f todo None g todo'
block_advanced program choice xs f g todo mid todo' v b one two =
    advanced_parts program choice (λ call. block_on program call xs.now) f g todo (Leave ∷ Rest xs ∷ []) todo' (ap (λ (c : Contents). c.items) b)
    (more_parts todo mid todo' (Leave ∷ []) (Rest xs ∷ []) one two)
    (λ call. inside_parts program call (Rest xs) (view f) (view g) (acts program call (pure_stmt_list xs.now)) v (λ s. refl))

pub block_begun : (xs : Bor (List Stmt)) (f g : Frame) (todo mid todo' : List Todo) → view g ≡ with_scope (view f) → mid ≡ todo ++ Leave ∷ [] → todo' ≡ mid ++ Rest xs ∷ [] → Begun f todo g todo'
block_begun xs f g todo mid todo' v one two =
    begun_inside f g todo todo' (Rest xs ∷ []) v (more_parts todo mid todo' (Leave ∷ []) (Rest xs ∷ []) one two) refl (omega arith)

pub while_advanced : (program : Program) (choice : Choice) (at : Place) (task : Act) (e : Expr) (b : Box Stmt Global) (r : Rounds) (f : Frame) (todo todo' : List Todo)
    → task ≡ While e b → r.at ≡ at → option_copied r.test ≡ Some e → r.body.now ≡ b.value → option_copied r.advance ≡ None → todo' ≡ todo ++ Loop r ∷ []
    → Advanced program choice (λ call. act program call at (pure_act task)) f todo None f todo'
while_advanced program choice at task e b r f todo todo' is at_is test_is body_is advance_is more =
    advanced_parts program choice (λ call. act program call at (pure_act task)) f f todo (Loop r ∷ []) todo' refl more
    (λ call. act_while program call at task e b r (view f) is at_is test_is body_is advance_is ∙ one_part program call (Loop r) (view f))

pub while_begun : (r : Rounds) (f : Frame) (todo todo' : List Todo) → todo' ≡ todo ++ Loop r ∷ [] → Begun f todo f todo'
while_begun r f todo todo' more = begun_parts f todo todo' (Loop r ∷ []) more refl (omega arith)

-- ---- a statement with its step

down_from : (n : ℕ) (f g : Frame) (at : Place) (u : Unit {0}) → StepsFrom n f at (Ok u) g → n ≡ f.steps → (f.steps ≡ suc g.steps) × (g.numbers ≡ f.numbers)
down_from zero f g at u p e = absurd (let impossible : Ok u ≡ Err (TooLong at) = p.0 in cc)
down_from (suc n) f g at u p e = (sym e ∙ ap (λ (h : Frame). suc h.steps) (sym p.1), ap (λ (h : Frame). h.numbers) p.1)

-- one step less is left
pub step_down : (f g : Frame) (at : Place) (u : Unit {0}) → Steps f at (Ok u) g → (f.steps ≡ suc g.steps) × (g.numbers ≡ f.numbers)
step_down f g at u p = down_from f.steps f g at u p refl

pub stmt_advanced : (program : Program) (choice : Choice) (p : Bor Stmt) (f g h : Frame) (u : Unit {0}) (todo todo' : List Todo) (r : Option Request) → Steps f p.now.place (Ok u) g
    → Advanced program choice (λ call. act program call p.now.place (pure_act p.now.act)) g todo r h todo' → Advanced program choice (λ call. doing program call (Do p)) f todo r h todo'
stmt_advanced program choice p f g h u todo todo' r steps advanced =
    advanced_from program choice (λ call. doing program call (Do p)) (λ call. act program call p.now.place (pure_act p.now.act)) f g h todo todo' r
    (ap (λ (c : Contents). c.items) (stepped_body f g p.now.place u steps)) (λ call. stepped f g p.now.place u (act program call p.now.place (pure_act p.now.act)) steps) advanced

pub stmt_stops : (program : Program) (choice : Choice) (p : Bor Stmt) (f g : Frame) (u : Unit {0}) (fault : ElabFault) → Steps f p.now.place (Ok u) g
    → StopsAt choice (λ call. act program call p.now.place (pure_act p.now.act)) g fault → StopsAt choice (λ call. doing program call (Do p)) f fault
stmt_stops program choice p f g u fault steps stops =
    stops_from choice (λ call. doing program call (Do p)) (λ call. act program call p.now.place (pure_act p.now.act)) f g fault
    (ap (λ (c : Contents). c.items) (stepped_body f g p.now.place u steps)) (λ call. stepped f g p.now.place u (act program call p.now.place (pure_act p.now.act)) steps) stops

pub stmt_long : (program : Program) (choice : Choice) (p : Bor Stmt) (f g : Frame) (fault : ElabFault) → Steps f p.now.place (Err fault) g
    → StopsAt choice (λ call. doing program call (Do p)) f fault
stmt_long program choice p f g fault steps =
    stops_at choice (λ call. doing program call (Do p)) f fault (λ call. unstepped f g p.now.place fault (act program call p.now.place (pure_act p.now.act)) steps)

-- the steps and the scopes that are left
pub stmt_scopes : (f g h : Frame) (at : Place) (u : Unit {0}) (todo todo' : List Todo) → Steps f at (Ok u) g → Begun g todo h todo'
    → leaves todo' + length f.numbers ≡ leaves todo + length h.numbers
stmt_scopes f g h at u todo todo' steps b =
    sym (ap (λ (n : Scopes). leaves todo' + length n) (step_down f g at u steps).1) ∙ b.scopes

pub stmt_falls : (f g h : Frame) (at : Place) (u : Unit {0}) (todo todo' : List Todo) → Steps f at (Ok u) g → Begun g todo h todo'
    → 6 * h.steps + length todo' + 3 ≤ 6 * f.steps + length todo
stmt_falls f g h at u todo todo' steps b =
    let down : f.steps ≡ suc g.steps = (step_down f g at u steps).0 in
    let same : h.steps ≡ g.steps = b.steps in
    let few : length todo' ≤ length todo + 3 = b.few in
    omega arith

-- a step makes room for the gates that stand for one
pub step_room : (f g : Frame) (at : Place) (u : Unit {0}) → Steps f at (Ok u) g → HasRoom f → last_turns g.body.items + 64 < 2 ^ 64
step_room f g at u steps room =
    let down : f.steps ≡ suc g.steps = (step_down f g at u steps).0 in
    let same : last_turns g.body.items ≡ last_turns f.body.items = ap (λ (b : Contents). last_turns b.items) (stepped_body f g at u steps) in
    omega arith

-- ---- statements one after another

pub rest_advanced : (program : Program) (choice : Choice) (xs : Bor (List Stmt)) (first : Bor Stmt) (rest : Bor (List Stmt)) (f g : Frame) (todo mid todo' : List Todo) (r : Option Request)
    → xs.now ≡ first.now ∷ rest.now → mid ≡ todo ++ Rest rest ∷ []
    → Advanced program choice (λ call. doing program call (Do first)) f mid r g todo' → Advanced program choice (λ call. doing program call (Rest xs)) f todo r g todo'
rest_advanced program choice xs first rest f g todo mid todo' r is more advanced =
    advanced_first program choice (λ call. doing program call (Rest xs)) (λ call. doing program call (Do first)) f f g todo (Rest rest ∷ []) mid todo' r refl more
    (λ call. acts_first program call xs.now first rest (view f) is) advanced

pub rest_stops : (program : Program) (choice : Choice) (xs : Bor (List Stmt)) (first : Bor Stmt) (rest : Bor (List Stmt)) (f : Frame) (fault : ElabFault) → xs.now ≡ first.now ∷ rest.now
    → StopsAt choice (λ call. doing program call (Do first)) f fault → StopsAt choice (λ call. doing program call (Rest xs)) f fault
rest_stops program choice xs first rest f fault is stops =
    stops_first choice (λ call. doing program call (Rest xs)) (λ call. doing program call (Do first)) (λ call. pending program call (Rest rest ∷ []) finish) f f fault refl
    (λ call. acts_first program call xs.now first rest (view f) is) stops

pub rest_scopes : (f g : Frame) (rest : Bor (List Stmt)) (todo mid todo' : List Todo) → mid ≡ todo ++ Rest rest ∷ [] → leaves todo' + length f.numbers ≡ leaves mid + length g.numbers
    → leaves todo' + length f.numbers ≡ leaves todo + length g.numbers
rest_scopes f g rest todo mid todo' more h =
    let l : leaves mid ≡ leaves todo + leaves (Rest rest ∷ []) = leaves_more todo mid (Rest rest ∷ []) more in
    omega arith

pub rest_falls : (f g : Frame) (rest : Bor (List Stmt)) (todo mid todo' : List Todo) → mid ≡ todo ++ Rest rest ∷ [] → 6 * g.steps + length todo' + 3 ≤ 6 * f.steps + length mid
    → 6 * g.steps + length todo' ≤ 6 * f.steps + length todo
rest_falls f g rest todo mid todo' more h =
    let l : length mid ≡ length todo + length (Rest rest ∷ []) = length_more todo mid (Rest rest ∷ []) more in
    omega arith

-- ---- the rounds of a loop

few_round : (r : Rounds) → (length (after_round r) ≤ 3) × (leaves (after_round r) ≡ 1)
few_round r = by r.advance
  where
    by : (advance : Option (Bor Stmt)) → (length (Loop r ∷ (to_do advance ++ Leave ∷ [])) ≤ 3) × (leaves (Loop r ∷ (to_do advance ++ Leave ∷ [])) ≡ 1)
    by None = (omega arith, refl)
    by (Some p) = (omega arith, refl)

pub round_advanced : (program : Program) (choice : Choice) (r : Rounds) (test : Bor Expr) (f g h : Frame) (u : Unit {0}) (todo mid todo' : List Todo) → r.test ≡ Some test → Steps f r.at (Ok u) g
    → holds g.numbers (pure_expr test.now) ≡ Ok true → view h ≡ with_scope (view g) → h.body ≡ g.body → mid ≡ todo ++ after_round r → todo' ≡ mid ++ Do r.body ∷ []
    → Advanced program choice (λ call. looped program call r) f todo None h todo'
round_advanced program choice r test f g h u todo mid todo' is steps true_is v b one two =
    advanced_parts program choice (λ call. looped program call r) f h todo (after_round r ++ Do r.body ∷ []) todo' (ap (λ (c : Contents). c.items) (b ∙ stepped_body f g r.at u steps))
    (more_parts todo mid todo' (after_round r) (Do r.body ∷ []) one two)
    (λ call. looped_holds program call r test f g h u is steps true_is v)

pub round_ends : (program : Program) (choice : Choice) (r : Rounds) (test : Bor Expr) (f g : Frame) (u : Unit {0}) (todo : List Todo) → r.test ≡ Some test → Steps f r.at (Ok u) g
    → holds g.numbers (pure_expr test.now) ≡ Ok false → Advanced program choice (λ call. looped program call r) f todo None g todo
round_ends program choice r test f g u todo is steps false_is =
    advanced_none program choice (λ call. looped program call r) f g todo (stepped_body f g r.at u steps) (λ call. looped_ends program call r test f g u is steps false_is)

pub round_fault : (program : Program) (choice : Choice) (r : Rounds) (test : Bor Expr) (f g : Frame) (u : Unit {0}) (fault : ElabFault) → r.test ≡ Some test → Steps f r.at (Ok u) g
    → holds g.numbers (pure_expr test.now) ≡ Err fault → StopsAt choice (λ call. looped program call r) f fault
round_fault program choice r test f g u fault is steps fault_is =
    stops_at choice (λ call. looped program call r) f fault (λ call. looped_fault program call r test f g u fault is steps fault_is)

pub round_long : (program : Program) (choice : Choice) (r : Rounds) (test : Bor Expr) (f g : Frame) (fault : ElabFault) → r.test ≡ Some test → Steps f r.at (Err fault) g
    → StopsAt choice (λ call. looped program call r) f fault
round_long program choice r test f g fault is steps =
    stops_at choice (λ call. looped program call r) f fault (λ call. looped_long program call r test f g fault is steps)

pub round_scopes : (r : Rounds) (f g h : Frame) (u : Unit {0}) (todo mid todo' : List Todo) → Steps f r.at (Ok u) g → view h ≡ with_scope (view g) → mid ≡ todo ++ after_round r → todo' ≡ mid ++ Do r.body ∷ []
    → leaves todo' + length f.numbers ≡ leaves todo + length h.numbers
round_scopes r f g h u todo mid todo' steps v one two =
    let same : length g.numbers ≡ length f.numbers = ap length (step_down f g r.at u steps).1 in
    let n : length h.numbers ≡ suc (length g.numbers) = ap (λ (s : State). length s.numbers) v in
    let few : leaves (after_round r) ≡ 1 = (few_round r).1 in
    let a : leaves mid ≡ leaves todo + leaves (after_round r) = leaves_more todo mid (after_round r) one in
    let b : leaves todo' ≡ leaves mid + leaves (Do r.body ∷ []) = leaves_more mid todo' (Do r.body ∷ []) two in
    omega arith

pub round_falls : (r : Rounds) (f g h : Frame) (u : Unit {0}) (todo mid todo' : List Todo) → Steps f r.at (Ok u) g → view h ≡ with_scope (view g) → mid ≡ todo ++ after_round r → todo' ≡ mid ++ Do r.body ∷ []
    → 6 * h.steps + length todo' ≤ 6 * f.steps + length todo
round_falls r f g h u todo mid todo' steps v one two =
    let down : f.steps ≡ suc g.steps = (step_down f g r.at u steps).0 in
    let same : h.steps ≡ g.steps = ap (λ (s : State). s.steps) v in
    let few : length (after_round r) ≤ 3 = (few_round r).0 in
    let a : length mid ≡ length todo + length (after_round r) = length_more todo mid (after_round r) one in
    let b : length todo' ≡ length mid + length (Do r.body ∷ []) = length_more mid todo' (Do r.body ∷ []) two in
    omega arith

pub ends_scopes : (r : Rounds) (f g : Frame) (u : Unit {0}) (todo : List Todo) → Steps f r.at (Ok u) g → leaves todo + length f.numbers ≡ leaves todo + length g.numbers
ends_scopes r f g u todo steps = ap (λ (n : Scopes). leaves todo + length n) (sym (step_down f g r.at u steps).1)

pub ends_falls : (r : Rounds) (f g : Frame) (u : Unit {0}) (todo : List Todo) → Steps f r.at (Ok u) g → 6 * g.steps + length todo ≤ 6 * f.steps + length todo
ends_falls r f g u todo steps =
    let down : f.steps ≡ suc g.steps = (step_down f g r.at u steps).0 in
    omega arith

-- ---- the rounds of a loop without a test

pub body_advanced : (program : Program) (choice : Choice) (r : Rounds) (f g h : Frame) (todo mid todo' : List Todo) (q : Option Request) → r.test ≡ None → view g ≡ with_scope (view f) → g.body ≡ f.body
    → mid ≡ todo ++ after_round r → Advanced program choice (λ call. doing program call (Do r.body)) g mid q h todo' → Advanced program choice (λ call. looped program call r) f todo q h todo'
body_advanced program choice r f g h todo mid todo' q is v b more advanced =
    advanced_first program choice (λ call. looped program call r) (λ call. doing program call (Do r.body)) f g h todo (after_round r) mid todo' q (ap (λ (c : Contents). c.items) b) more
    (λ call. looped_body program call r f g is v) advanced

pub body_stops : (program : Program) (choice : Choice) (r : Rounds) (f g : Frame) (fault : ElabFault) → r.test ≡ None → view g ≡ with_scope (view f) → g.body ≡ f.body
    → StopsAt choice (λ call. doing program call (Do r.body)) g fault → StopsAt choice (λ call. looped program call r) f fault
body_stops program choice r f g fault is v b stops =
    stops_first choice (λ call. looped program call r) (λ call. doing program call (Do r.body)) (λ call. pending program call (after_round r) finish) f g fault (ap (λ (c : Contents). c.items) b)
    (λ call. looped_body program call r f g is v) stops

pub body_scopes : (r : Rounds) (f g h : Frame) (todo mid todo' : List Todo) → view g ≡ with_scope (view f) → mid ≡ todo ++ after_round r → leaves todo' + length g.numbers ≡ leaves mid + length h.numbers
    → leaves todo' + length f.numbers ≡ leaves todo + length h.numbers
body_scopes r f g h todo mid todo' v more scopes =
    let n : length g.numbers ≡ suc (length f.numbers) = ap (λ (s : State). length s.numbers) v in
    let few : leaves (after_round r) ≡ 1 = (few_round r).1 in
    let a : leaves mid ≡ leaves todo + leaves (after_round r) = leaves_more todo mid (after_round r) more in
    omega arith

pub body_falls : (r : Rounds) (f g h : Frame) (todo mid todo' : List Todo) → view g ≡ with_scope (view f) → mid ≡ todo ++ after_round r → 6 * h.steps + length todo' + 3 ≤ 6 * g.steps + length mid
    → 6 * h.steps + length todo' ≤ 6 * f.steps + length todo
body_falls r f g h todo mid todo' v more falls =
    let same : g.steps ≡ f.steps = ap (λ (s : State). s.steps) v in
    let few : length (after_round r) ≤ 3 = (few_round r).0 in
    let a : length mid ≡ length todo + length (after_round r) = length_more todo mid (after_round r) more in
    omega arith

-- in another scope there is as much room
pub scope_room : (f g : Frame) → view g ≡ with_scope (view f) → g.body ≡ f.body → HasRoom f → HasRoom g
scope_room f g v body room =
    let steps : g.steps ≡ f.steps = ap (λ (s : State). s.steps) v in
    let same : last_turns g.body.items ≡ last_turns f.body.items = ap (λ (b : Contents). last_turns b.items) body in
    omega arith

-- ---- the end of a scope

pub leave_advanced : (program : Program) (choice : Choice) (f g : Frame) (todo : List Todo) → view g ≡ without_scope (view f) → g.body ≡ f.body
    → Advanced program choice (λ call. doing program call Leave) f todo None g todo
leave_advanced program choice f g todo v b = advanced_none program choice (λ call. doing program call Leave) f g todo b (λ call. ap (λ (s : State). Done [] s) (sym v))

-- ---- the whole list of a round

pub round_todo : (r : Rounds) (todo t1 t2 todo' : List Todo) → t1 ≡ todo ++ Loop r ∷ [] → t2 ≡ t1 ++ to_do r.advance → todo' ≡ t2 ++ Leave ∷ [] → todo' ≡ todo ++ after_round r
round_todo r todo t1 t2 todo' one two three =
    more_parts todo t2 todo' (Loop r ∷ to_do r.advance) (Leave ∷ []) (more_parts todo t1 t2 (Loop r ∷ []) (to_do r.advance) one two) three

-- ---- the list as it goes on

pub nested_on : (f g : Frame) (todo' old : List Todo) (next : Todo) → leaves (old ++ next ∷ []) < length f.numbers → leaves (next ∷ []) ≡ 0
    → leaves todo' + length f.numbers ≡ leaves old + length g.numbers → leaves todo' < length g.numbers
nested_on f g todo' old next nested none scopes =
    let l : leaves (old ++ next ∷ []) ≡ leaves old + leaves (next ∷ []) = leaves_both old (next ∷ []) in
    omega arith

pub scope_last : (old : List Todo) (n : ℕ) → leaves (old ++ Leave ∷ []) < n → 1 < n
scope_last old n nested =
    let l : leaves (old ++ Leave ∷ []) ≡ leaves old + leaves (Leave ∷ []) = leaves_both old (Leave ∷ []) in
    omega arith

pub nested_off : (f g : Frame) (old : List Todo) → leaves (old ++ Leave ∷ []) < length f.numbers → view g ≡ without_scope (view f) → leaves old < length g.numbers
nested_off f g old nested v =
    let l : leaves (old ++ Leave ∷ []) ≡ leaves old + leaves (Leave ∷ []) = leaves_both old (Leave ∷ []) in
    let n : length g.numbers ≡ length f.numbers - 1 = ap (λ (s : State). length s.numbers) v ∙ length-drop 1 f.numbers in
    omega arith
