-- DEPTH: where fewer bodies may be open, a part of a run is the same, or stops earlier by `TooDeep`.
use Rattle.std.proofs.Common.{◌≡◌, ℕ, zero, suc, ◌<◌, ◌≤◌, List, [], ◌∷◌, ◌++◌, ◌⊎◌, inl, inr, Option, Some, None, refl, sym, ap, ◌∙◌, subst, arith, append_assoc}
use Rattle.std.proofs.lemmas.Bool.{cases_lt}
use Rattle.sc_gate.specs.declared.gate.Wire.{Wire}
use Rattle.sc_gate.specs.Numbers.{Numbers, no_wires}
use Rattle.sc_deck.specs.declared.key.Key.{Key}
use Rattle.sc_deck.specs.declared.key.Arg.{Arg}
use Rattle.sc_deck.specs.Events.{Event, Enter, Return}
use Rattle.sc_deck.specs.Keys.{param_classes, params_of}
use Rattle.sc_deck.specs.Unfolding.{numbered}
use Rattle.sc_meaning.specs.Depth.{CutBy, DepthCuts}
use Rattle.sc_meaning.specs.Definitions.{Definition, of_module, of_function, Program, definition}
use Rattle.sc_meaning.specs.Local.{local_body, local}
use Rattle.sc_meaning.specs.Outcomes.{Outcome, Done, Stopped, after, then_do, leaving, events_of}
use Rattle.sc_meaning.specs.Run.{Callee, back_in, acts, start_state, body, entered, enter}
use Rattle.sc_meaning.specs.States.{State}
use Rattle.sc_meaning.proofs.Walks.{Relates, walk_acts}

pub record Cuts {A : Type 0} (o o' : Outcome A) : Type 0 where
  pub holds : CutBy o o'

abbrev pub CallsCut : Callee → Callee → Type 0
CallsCut call call' = (key : Key) (wires : List Wire) (next : Numbers) → Cuts (call key wires next) (call' key wires next)

pub cuts_same : {A : Type 0} (o : Outcome A) → Cuts o o
cuts_same o = record { holds = inl refl }

cuts_after_by : {A : Type 0} (z : List Event) (o o' : Outcome A) → CutBy o o' → Cuts (after z o) (after z o')
cuts_after_by z o o' (inl e) = record { holds = inl (ap (after z) e) }
cuts_after_by z (Done w a) o' (inr (x, y, e, f)) =
    record { holds = inr (z ++ x, y, ap (after z) e, ap (λ (l : List Event). z ++ l) f ∙ sym (append_assoc z x y)) }
cuts_after_by z (Stopped w a) o' (inr (x, y, e, f)) =
    record { holds = inr (z ++ x, y, ap (after z) e, ap (λ (l : List Event). z ++ l) f ∙ sym (append_assoc z x y)) }

cuts_after : {A : Type 0} (z : List Event) (o o' : Outcome A) → Cuts o o' → Cuts (after z o) (after z o')
cuts_after z o o' c = cuts_after_by z o o' c.holds

pub events_after : {A : Type 0} (z : List Event) (o : Outcome A) → events_of (after z o) ≡ z ++ events_of o
events_after z (Done w a) = refl
events_after z (Stopped w f) = refl

cuts_then_by : {A B : Type 0} (o o' : Outcome A) (go go' : A → Outcome B) → ((a : A) → Cuts (go a) (go' a)) → CutBy o o' → Cuts (then_do o go) (then_do o' go')
cuts_then_by {A} (Done w a) o' go go' h (inl e) = subst (λ (p : Outcome A). Cuts (after w (go a)) (then_do p go')) (sym e) (cuts_after w (go a) (go' a) (h a))
cuts_then_by {A} (Stopped w f) o' go go' h (inl e) = record { holds = inl (ap (λ (p : Outcome A). then_do p go') e) }
cuts_then_by {A} (Done w a) o' go go' h (inr (x, y, e, f)) =
    record {
      holds = inr (
        x,
        y ++ events_of (go a),
        ap (λ (p : Outcome A). then_do p go') e,
        events_after w (go a) ∙ ap (λ (l : List Event). l ++ events_of (go a)) f ∙ append_assoc x y (events_of (go a)),
      );
    }
cuts_then_by {A} (Stopped w g) o' go go' h (inr (x, y, e, f)) = record { holds = inr (x, y, ap (λ (p : Outcome A). then_do p go') e, f) }

pub cuts_then : {A B : Type 0} (o o' : Outcome A) (go go' : A → Outcome B) → Cuts o o' → ((a : A) → Cuts (go a) (go' a)) → Cuts (then_do o go) (then_do o' go')
cuts_then o o' go go' c h = cuts_then_by o o' go go' h c.holds

cuts_leaving_by : {A B : Type 0} (f : A → B) (o o' : Outcome A) → CutBy o o' → Cuts (leaving f o) (leaving f o')
cuts_leaving_by f o o' (inl e) = record { holds = inl (ap (leaving f) e) }
cuts_leaving_by f (Done w a) o' (inr (x, y, e, g)) = record { holds = inr (x, y, ap (leaving f) e, g) }
cuts_leaving_by f (Stopped w a) o' (inr (x, y, e, g)) = record { holds = inr (x, y, ap (leaving f) e, g) }

cuts_leaving : {A B : Type 0} (f : A → B) (o o' : Outcome A) → Cuts o o' → Cuts (leaving f o) (leaving f o')
cuts_leaving f o o' c = cuts_leaving_by f o o' c.holds

cuts_relate : Relates (λ o o'. Cuts o o')
cuts_relate = record { same = cuts_same; next = cuts_then; left = λ f o o' c. cuts_leaving f o o' c }

-- ---- bodies and enterings

pub cuts_body : (program : Program) (call call' : Callee) → CallsCut call call' → (d : Option Definition) (args : List Arg) (wires : List Wire) (next : Numbers)
    → Cuts (body program call d args wires next) (body program call' d args wires next)
cuts_body program call call' h None args wires next = record { holds = inl refl }
cuts_body program call call' h (Some (of_module name params stmts)) args wires next =
    cuts_leaving (λ (s : State). s.next) (acts program call stmts (start_state params args wires next)) (acts program call' stmts (start_state params args wires next))
    (walk_acts (λ o o'. Cuts o o') cuts_relate program call call' (λ key wires next s. cuts_leaving (back_in s) (call key wires next) (call' key wires next) (h key wires next)) stmts (start_state params args wires next))
cuts_body program call call' h (Some (of_function name f)) args wires next = record { holds = inl refl }

cuts_entered_by : (key : Key) (wires : List Wire) (o o' : Outcome Numbers) → CutBy o o' → Cuts (entered key wires o) (entered key wires o')
cuts_entered_by key wires o o' (inl e) = record { holds = inl (ap (entered key wires) e) }
cuts_entered_by key wires (Done w n) o' (inr (x, y, e, f)) =
    record {
      holds = inr (
        Enter key wires ∷ x,
        y ++ Return key ∷ [],
        ap (entered key wires) e,
        ap (λ (l : List Event). Enter key wires ∷ (l ++ Return key ∷ [])) f ∙ ap (λ (l : List Event). Enter key wires ∷ l) (append_assoc x y (Return key ∷ [])),
      );
    }
cuts_entered_by key wires (Stopped w g) o' (inr (x, y, e, f)) =
    record { holds = inr (Enter key wires ∷ x, y, ap (entered key wires) e, ap (λ (l : List Event). Enter key wires ∷ l) f) }

cuts_entered : (key : Key) (wires : List Wire) (o o' : Outcome Numbers) → Cuts o o' → Cuts (entered key wires o) (entered key wires o')
cuts_entered key wires o o' c = cuts_entered_by key wires o o' c.holds

-- THE LAW OF DEPTH: an entering where fewer bodies may be open
pub enter_cuts : (program : Program) (n m : ℕ) → m ≤ n → CallsCut (enter program n) (enter program m)
unfolding enter
enter_cuts program n zero h key wires next = record { holds = inr ([], events_of (enter program n key wires next), refl, refl) }
enter_cuts program zero (suc m) h key wires next = absurd (omega arith)
enter_cuts program (suc n) (suc m) h key wires next =
    let le : m ≤ n = omega arith in
    cuts_entered key wires
    (body program (enter program n) (definition program key.name) key.args wires next) (body program (enter program m) (definition program key.name) key.args wires next)
    (cuts_body program (enter program n) (enter program m) (enter_cuts program n m le) (definition program key.name) key.args wires next)

pub depth_cuts : DepthCuts
depth_cuts program n m le key wires next = (enter_cuts program n m le key wires next).holds

-- the same of the local run
pub local_cuts : (program : Program) (n m : ℕ) → m ≤ n → CallsCut (local program n) (local program m)
unfolding local
local_cuts program n zero h key wires next = record { holds = inr ([], events_of (local program n key wires next), refl, refl) }
local_cuts program zero (suc m) h key wires next = absurd (omega arith)
local_cuts program (suc n) (suc m) h key wires next =
    let le : m ≤ n = omega arith in
    cuts_leaving (λ own. next) (entered key wires (local_body program (local program n) key)) (entered key wires (local_body program (local program m) key))
    (cuts_entered key wires (local_body program (local program n) key) (local_body program (local program m) key)
    (cuts_body program (local program n) (local program m) (local_cuts program n m le) (definition program key.name) key.args (numbered (param_classes key) no_wires) (params_of key)))

-- and of bodies in local numbers
pub local_body_cuts : (program : Program) (n m : ℕ) → m ≤ n → (key : Key) → Cuts (local_body program (local program n) key) (local_body program (local program m) key)
local_body_cuts program n m le key =
    cuts_body program (local program n) (local program m) (local_cuts program n m le) (definition program key.name) key.args (numbered (param_classes key) no_wires) (params_of key)

-- ---- what is done

done_by : {A : Type 0} (o p : Outcome A) (x : List Event) (a : A) → p ≡ Done x a → CutBy o p → o ≡ Done x a
done_by o p x a e (inl q) = sym q ∙ e
done_by o p x a e (inr (z, w, q, f)) = absurd cc

pub done_of : {A : Type 0} (o p : Outcome A) (x : List Event) (a : A) → p ≡ Done x a → Cuts o p → o ≡ Done x a
done_of o p x a e c = done_by o p x a e c.holds

-- a body that is done is done where more bodies may be open
pub done_deeper : (program : Program) (n m : ℕ) → m ≤ n → (key : Key) (x : List Event) (own : Numbers)
    → local_body program (local program m) key ≡ Done x own → local_body program (local program n) key ≡ Done x own
done_deeper program n m le key x own e =
    done_of (local_body program (local program n) key) (local_body program (local program m) key) x own e (local_body_cuts program n m le key)

same_by : (program : Program) (a b : ℕ) (key : Key) (x y : List Event) (s t : Numbers)
    → local_body program (local program a) key ≡ Done x s → local_body program (local program b) key ≡ Done y t → (a < b) ⊎ (b ≤ a) → Done x s ≡ Done y t
same_by program a b key x y s t e f (inl h) = sym (done_deeper program b a (omega arith) key x s e) ∙ f
same_by program a b key x y s t e f (inr h) = sym e ∙ done_deeper program a b h key y t f

-- a body has the same events wherever it is done
pub same_done : (program : Program) (a b : ℕ) (key : Key) (x y : List Event) (s t : Numbers)
    → local_body program (local program a) key ≡ Done x s → local_body program (local program b) key ≡ Done y t → Done x s ≡ Done y t
same_done program a b key x y s t e f = same_by program a b key x y s t e f (cases_lt a b)
