-- Steps, conditions and rounds, as the code takes them.
use Rattle.std.proofs.Common.{◌≡◌, ℕ, zero, suc, Bool, [], Option, Some, None, Result, Ok, Err, sym, ap, ◌∙◌}
use Rattle.sc_base.specs.declared.Place.{Place}
use Rattle.sc_syntax.specs.declared.Stmt.{Stmt}
use Rattle.sc_syntax.specs.Alike.{PureExpr, pure_act}
use Rattle.sc_value.specs.declared.Value.{Value}
use Rattle.sc_value.specs.Numbers.{is_true}
use Rattle.sc_meaning.specs.declared.fault.ElabFault.{ElabFault}
use Rattle.sc_meaning.specs.declared.fault.ElabFault.TheVariants.{TooLong}
use Rattle.sc_elab.specs.declared.frame.Frame.{Frame}
use Rattle.sc_meaning.specs.Definitions.{Program}
use Rattle.sc_elab.specs.Frames.{view}
use Rattle.sc_meaning.specs.Outcomes.{Outcome, Done, Stopped, then_do, given, leaving}
use Rattle.sc_elab.specs.Pending.{held_by, round_of}
use Rattle.sc_meaning.specs.Run.{Callee, step_of, step, by_truth, choose, finish, act, loop}
use Rattle.sc_meaning.specs.States.{State, with_scope, without_scope, inside}
use Rattle.sc_elab.specs.Stepping.{StepsFrom, Steps, holds}
use Rattle.sc_meaning.specs.Values.{◌>>=◌, number}
use Rattle.sc_meaning.proofs.Ran.{then_then, then_none, leaving_is}

stepped_from : (n : ℕ) (f g : Frame) (at : Place) (u : Unit {0}) (go : State → Outcome State) → StepsFrom n f at (Ok u) g → step_of n at go (view f) ≡ go (view g)
stepped_from zero f g at u go p = absurd (let impossible : Ok u ≡ Err (TooLong at) = p.0 in cc)
stepped_from (suc n) f g at u go p = ap (λ (h : Frame). go (view h)) (sym p.1)

-- a step was taken
pub stepped : (f g : Frame) (at : Place) (u : Unit {0}) (go : State → Outcome State) → Steps f at (Ok u) g → step at go (view f) ≡ go (view g)
stepped f g at u go p = stepped_from f.steps f g at u go p

unstepped_from : (n : ℕ) (f g : Frame) (at : Place) (fault : ElabFault) (go : State → Outcome State) → StepsFrom n f at (Err fault) g → step_of n at go (view f) ≡ Stopped [] fault
unstepped_from zero f g at fault go p = let e : fault ≡ TooLong at = cc in ap (λ (x : ElabFault). Stopped [] x) (sym e)
unstepped_from (suc n) f g at fault go p = absurd (let impossible : Err fault ≡ Ok tt = p.0 in cc)

-- none was left
pub unstepped : (f g : Frame) (at : Place) (fault : ElabFault) (go : State → Outcome State) → Steps f at (Err fault) g → step at go (view f) ≡ Stopped [] fault
unstepped f g at fault go p = unstepped_from f.steps f g at fault go p

body_from : (n : ℕ) (f g : Frame) (at : Place) (u : Unit {0}) → StepsFrom n f at (Ok u) g → g.body ≡ f.body
body_from zero f g at u p = absurd (let impossible : Ok u ≡ Err (TooLong at) = p.0 in cc)
body_from (suc n) f g at u p = ap (λ (h : Frame). h.body) p.1

pub stepped_body : (f g : Frame) (at : Place) (u : Unit {0}) → Steps f at (Ok u) g → g.body ≡ f.body
stepped_body f g at u p = body_from f.steps f g at u p

chosen_by : (r : Result Value ElabFault) (b : Bool) (first second : State → Outcome State) (s : State) → (r >>= λ x. Ok (is_true x)) ≡ Ok b
    → given r (λ x. by_truth (is_true x) first second s) ≡ by_truth b first second s
chosen_by (Ok x) b first second s h = let e : is_true x ≡ b = cc in ap (λ (c : Bool). by_truth c first second s) e
chosen_by (Err f) b first second s h = absurd cc

-- a condition that has a value
pub chosen_is : (e : PureExpr) (b : Bool) (first second : State → Outcome State) (s : State) → holds s.numbers e ≡ Ok b → choose e first second s ≡ by_truth b first second s
chosen_is e b first second s h = chosen_by (number s.numbers e) b first second s h

unchosen_by : (r : Result Value ElabFault) (fault : ElabFault) (first second : State → Outcome State) (s : State) → (r >>= λ x. Ok (is_true x)) ≡ Err fault
    → given r (λ x. by_truth (is_true x) first second s) ≡ Stopped [] fault
unchosen_by (Ok x) fault first second s h = absurd cc
unchosen_by (Err f) fault first second s h = let e : f ≡ fault = cc in ap (λ (x : ElabFault). Stopped [] x) e

-- and one that has a fault
pub unchosen : (e : PureExpr) (fault : ElabFault) (first second : State → Outcome State) (s : State) → holds s.numbers e ≡ Err fault → choose e first second s ≡ Stopped [] fault
unchosen e fault first second s h = unchosen_by (number s.numbers e) fault first second s h

-- ---- rounds

-- a round and the loop again, of a loop with an advance
pub round_with : (program : Program) (call : Callee) (b : Stmt) (a : Stmt) (again : State → Outcome State) (s : State)
    → then_do (round_of program call b (held_by (Some a)) s) again
    ≡ then_do (step b.place (act program call b.place (pure_act b.act)) (with_scope s)) (λ u. then_do (Done [] (without_scope u)) (λ v. then_do (step a.place (act program call a.place (pure_act a.act)) v) (λ w. then_do (again w) finish)))
round_with program call b a again s =
    let body : Outcome State = step b.place (act program call b.place (pure_act b.act)) (with_scope s) in
    let advance : State → Outcome State = step a.place (act program call a.place (pure_act a.act)) in
    then_then (leaving without_scope body) advance again
    ∙ ap (λ (o : Outcome State). then_do o (λ v. then_do (advance v) again)) (leaving_is without_scope body)
    ∙ then_then body (λ u. Done [] (without_scope u)) (λ v. then_do (advance v) again)
    ∙ (λ i. then_do body (λ u. then_do (Done [] (without_scope u)) (λ v. then_do (advance v) (λ w. sym (then_none (again w)) i))))

-- of one without
pub round_without : (program : Program) (call : Callee) (b : Stmt) (again : State → Outcome State) (s : State)
    → then_do (round_of program call b (held_by None) s) again
    ≡ then_do (step b.place (act program call b.place (pure_act b.act)) (with_scope s)) (λ u. then_do (Done [] (without_scope u)) (λ v. then_do (again v) finish))
round_without program call b again s =
    let body : Outcome State = step b.place (act program call b.place (pure_act b.act)) (with_scope s) in
    ap (λ (o : Outcome State). then_do o again) (then_none (leaving without_scope body))
    ∙ ap (λ (o : Outcome State). then_do o again) (leaving_is without_scope body)
    ∙ then_then body (λ u. Done [] (without_scope u)) again
    ∙ (λ i. then_do body (λ u. then_do (Done [] (without_scope u)) (λ v. sym (then_none (again v)) i)))

-- a loop whose body has no advance
pub alone_is : (program : Program) (call : Callee) (at : Place) (e : Option PureExpr) (b : Stmt) (s : State)
    → loop at e b.place (inside (step b.place (act program call b.place (pure_act b.act)))) s ≡ loop at e b.place (round_of program call b (held_by None)) s
alone_is program call at e b s =
    λ i. loop at e b.place (λ u. sym (then_none (inside (step b.place (act program call b.place (pure_act b.act))) u)) i) s
