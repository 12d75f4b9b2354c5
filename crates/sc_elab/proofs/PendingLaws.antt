-- A list of what is still to do, part by part.
use Rattle.std.proofs.Common.{◌≡◌, List, [], ◌∷◌, ◌++◌, Option, Some, None, refl, sym, ap, ◌∙◌}
use Rattle.sc_meaning.specs.declared.choice.Choice.{Choice}
use Rattle.sc_elab.specs.declared.frame.Frame.{Frame}
use Rattle.sc_elab.specs.declared.todo.Todo.{Todo}
use Rattle.sc_elab.specs.declared.todo.Todo.TheVariants.{Leave}
use Rattle.sc_elab.specs.declared.todo.Request.{Request}
use Rattle.sc_meaning.specs.Definitions.{Program}
use Rattle.sc_elab.specs.Folding.{written}
use Rattle.sc_elab.specs.Frames.{view, made, Runs, Advanced}
use Rattle.sc_meaning.specs.Local.{ran}
use Rattle.sc_meaning.specs.Outcomes.{Outcome, Done, then_do, leaving}
use Rattle.sc_elab.specs.Pending.{doing, pending, asked}
use Rattle.sc_meaning.specs.Run.{Callee, finish}
use Rattle.sc_meaning.specs.States.{State, with_scope, without_scope, inside}
use Rattle.sc_meaning.proofs.Ran.{after_none, ran_next, then_then, then_none, leaving_is}

-- ---- the list

pending_both : (program : Program) (call : Callee) (todo ts : List Todo) (go : State → Outcome State) → pending program call (todo ++ ts) go ≡ pending program call ts (pending program call todo go)
pending_both program call [] ts go = refl
pending_both program call (u ∷ todo) ts go = pending_both program call todo ts (λ s. then_do (doing program call u s) go)

pending_go : (program : Program) (call : Callee) (ts : List Todo) (go : State → Outcome State) (s : State) → pending program call ts go s ≡ then_do (pending program call ts finish s) go
pending_go program call [] go s = sym (after_none (go s))
pending_go program call (t ∷ ts) go s =
    pending_go program call ts (λ u. then_do (doing program call t u) go) s
    ∙ (λ i. then_do (pending program call ts finish s) (λ u. sym (ap (λ (o : Outcome State). then_do o go) (then_none (doing program call t u))) i))
    ∙ sym (then_then (pending program call ts finish s) (λ u. then_do (doing program call t u) finish) go)
    ∙ ap (λ (o : Outcome State). then_do o go) (sym (pending_go program call ts (λ u. then_do (doing program call t u) finish) s))

-- more parts go before the others
pub pending_more : (program : Program) (call : Callee) (todo ts : List Todo) (go : State → Outcome State) (s : State)
    → pending program call (todo ++ ts) go s ≡ then_do (pending program call ts finish s) (pending program call todo go)
pending_more program call todo ts go s =
    ap (λ (h : State → Outcome State). h s) (pending_both program call todo ts go) ∙ pending_go program call ts (pending program call todo go) s

-- the last part goes first
pub pending_last : (program : Program) (call : Callee) (todo : List Todo) (t : Todo) (go : State → Outcome State) (s : State)
    → pending program call (todo ++ t ∷ []) go s ≡ then_do (doing program call t s) (pending program call todo go)
pending_last program call todo t go s = ap (λ (h : State → Outcome State). h s) (pending_both program call todo (t ∷ []) go)

-- ---- parts that are done as far as they go

-- a part that is done without calls
pub advanced_runs : (program : Program) (choice : Choice) (part : Callee → State → Outcome State) (f g : Frame) (todo : List Todo)
    → ((call : Callee) → Runs choice (part call (view f)) f g) → Advanced program choice part f todo None g todo
advanced_runs program choice part f g todo runs call go ws rest deck keys few =
    ran_next choice (made ws (written f.body.items) rest deck keys) (made ws (written g.body.items) rest deck keys) (part call (view f)) (view g) (pending program call todo go)
    (runs call ws rest deck keys few)

-- a part that is put on the list as other parts
pub advanced_parts : (program : Program) (choice : Choice) (part : Callee → State → Outcome State) (f g : Frame) (todo ts todo' : List Todo)
    → g.body.items ≡ f.body.items → todo' ≡ todo ++ ts
    → ((call : Callee) → part call (view f) ≡ pending program call ts finish (view g)) → Advanced program choice part f todo None g todo'
advanced_parts program choice part f g todo ts todo' items more is call go ws rest deck keys few =
    (λ i. ran choice (made ws (written (sym items i)) rest deck keys) (then_do (is call i) (pending program call todo go)))
    ∙ ap (ran choice (made ws (written g.body.items) rest deck keys)) (sym (pending_more program call todo ts go (view g)))
    ∙ (λ i. ran choice (made ws (written g.body.items) rest deck keys) (pending program call (sym more i) go (view g)))

-- a part that comes to a call
pub advanced_call : (program : Program) (choice : Choice) (part : Callee → State → Outcome State) (f g : Frame) (todo : List Todo) (r : Request)
    → g.body.items ≡ f.body.items → ((call : Callee) → part call (view f) ≡ asked call r (view g)) → Advanced program choice part f todo (Some r) g todo
advanced_call program choice part f g todo r items is call go ws rest deck keys few =
    λ i. ran choice (made ws (written (sym items i)) rest deck keys) (then_do (is call i) (pending program call todo go))

-- the same of a part that is another
pub advanced_from : (program : Program) (choice : Choice) (part part' : Callee → State → Outcome State) (f f' g : Frame) (todo todo' : List Todo) (r : Option Request)
    → f'.body.items ≡ f.body.items → ((call : Callee) → part call (view f) ≡ part' call (view f'))
    → Advanced program choice part' f' todo r g todo' → Advanced program choice part f todo r g todo'
advanced_from program choice part part' f f' g todo todo' r items is h call go ws rest deck keys few =
    (λ i. ran choice (made ws (written (sym items i)) rest deck keys) (then_do (is call i) (pending program call todo go)))
    ∙ h call go ws rest deck keys few

-- ---- statements in a scope of their own

pub inside_parts : (program : Program) (call : Callee) (t : Todo) (s u : State) (go : State → Outcome State)
    → u ≡ with_scope s → ((v : State) → go v ≡ doing program call t v) → inside go s ≡ pending program call (Leave ∷ t ∷ []) finish u
inside_parts program call t s u go e is =
    ap (leaving without_scope) (is (with_scope s))
    ∙ leaving_is without_scope (doing program call t (with_scope s))
    ∙ ap (λ (v : State). then_do (doing program call t v) (λ w. Done [] (without_scope w))) (sym e)

-- a loop alone
pub one_part : (program : Program) (call : Callee) (t : Todo) (s : State) → doing program call t s ≡ pending program call (t ∷ []) finish s
one_part program call t s = sym (then_none (doing program call t s))
