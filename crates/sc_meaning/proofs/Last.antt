-- A key that returns is not entered inside itself, so main is the last instance.
use Rattle.std.proofs.Common.{◌≡◌, ℕ, zero, suc, ◌+◌, ◌<◌, ◌≤◌, Bool, true, false, cond, List, [], ◌∷◌, ◌++◌, length, ◌⊎◌, inl, inr, Option, Some, None, Result, Ok, Err, refl, sym, subst, arith}
use Rattle.std.specs.Prelude.{ℤ, pos, negsuc, nat_le, map}
use Rattle.sc_base.specs.declared.Place.{Place}
use Rattle.sc_base.specs.declared.Class.{Class}
use Rattle.sc_base.specs.declared.Class.TheVariants.{Q}
use Rattle.sc_gate.specs.declared.gate.Wire.{Wire}
use Rattle.sc_gate.specs.declared.gate.Gate.{Gate}
use Rattle.sc_gate.specs.Numbers.{Numbers, with_more, no_wires}
use Rattle.sc_gate.specs.Renaming.{rename_gate}
use Rattle.sc_syntax.specs.declared.Name.{Name}
use Rattle.sc_syntax.specs.declared.NumSort.{NumSort}
use Rattle.sc_syntax.specs.declared.Callee.TheVariants as called
use Rattle.sc_syntax.specs.Alike.{PureExpr, PureNamed, PureAct, PureHeld, PureStmts}
use Rattle.sc_value.specs.Numbers.{is_true}
use Rattle.sc_deck.specs.declared.key.Key.{Key}
use Rattle.sc_deck.specs.declared.key.Arg.{Arg}
use Rattle.sc_deck.specs.Events.{Event, Enter, Fresh, Apply, Return}
use Rattle.sc_deck.specs.Keys.{same_key, param_classes, params_of}
use Rattle.sc_deck.specs.KeyLaws.{same_key_decides}
use Rattle.sc_deck.specs.Unfolding.{numbered, placed}
use Rattle.sc_meaning.specs.declared.choice.Choice.{Choice}
use Rattle.sc_meaning.specs.declared.fault.ElabFault.{ElabFault}
use Rattle.sc_meaning.specs.declared.fault.ElabFault.TheVariants.{TooWide}
use Rattle.sc_meaning.specs.Arguments.{args_of, wires_of, prepared, called_gate}
use Rattle.sc_meaning.specs.ClassicalCalls.{call_wires, function_events}
use Rattle.sc_meaning.specs.Definitions.{Function, Definition, of_module, of_function, Program, definition}
use Rattle.sc_meaning.specs.Instances.{number_in_deck}
use Rattle.sc_meaning.specs.Kept.{Each, Ends}
use Rattle.sc_meaning.specs.Local.{local_body, local, Made, half_items, make_one, make, with_entry}
use Rattle.sc_meaning.specs.Outcomes.{Outcome, Done, Stopped, after, then_do, given, leaving}
use Rattle.sc_meaning.specs.Run.{Callee, step_of, step, make_wires, size_of, declare_wires, declare_numbers, apply, measured, back_in, enter_with, call_named, by_truth, choose, finish, rounds, tested, untested, loop, act, maybe, otherwise, acts, start_state, fresh_scratch, function_body, body, entered}
use Rattle.sc_meaning.specs.States.{State, with_number, with_new_value, with_fresh, with_scope, without_scope, inside}
use Rattle.sc_meaning.specs.Values.{number, start_value, new_value, old_value}
use Rattle.sc_meaning.proofs.Cut.{same_done}
use Rattle.sc_meaning.proofs.Known.{last_entry, still_out}
use Rattle.sc_meaning.proofs.Ran.{make-append}

pub each_append : (P : Key → Type 0) (a b : List Event) → Each P a → Each P b → Each P (a ++ b)
each_append P [] b h k = k
each_append P (Enter key wires ∷ a) b h k = (h.0, each_append P a b h.1 k)
each_append P (Return key ∷ a) b h k = (h.0, each_append P a b h.1 k)
each_append P (Fresh c n ∷ a) b h k = each_append P a b h k
each_append P (Apply g ∷ a) b h k = each_append P a b h k

pub each_weaker : (P R : Key → Type 0) (a : List Event) → ((k : Key) → P k → R k) → Each P a → Each R a
each_weaker P R [] f h = tt
each_weaker P R (Enter key wires ∷ a) f h = (f key h.0, each_weaker P R a f h.1)
each_weaker P R (Return key ∷ a) f h = (f key h.0, each_weaker P R a f h.1)
each_weaker P R (Fresh c n ∷ a) f h = each_weaker P R a f h
each_weaker P R (Apply g ∷ a) f h = each_weaker P R a f h

pub each_mid : (P : Key → Type 0) (a b : List Event) → Each P (a ++ b) → Each P b
each_mid P [] b h = h
each_mid P (Enter key wires ∷ a) b h = each_mid P a b h.1
each_mid P (Return key ∷ a) b h = each_mid P a b h.1
each_mid P (Fresh c n ∷ a) b h = each_mid P a b h
each_mid P (Apply g ∷ a) b h = each_mid P a b h

-- one of them is this key, or none is
abbrev pub AnotherOr : (Key → Type 0) → Key → List Event → Type 0
AnotherOr P key a = Each (λ k. same_key k key ≡ false) a ⊎ ((k : Key) × P k × (same_key k key ≡ true))

or_more : (P : Key → Type 0) (key k : Key) (a : List Event) (b : Bool) → same_key k key ≡ b → P k → AnotherOr P key a
    → ((same_key k key ≡ false) × Each (λ k. same_key k key ≡ false) a) ⊎ ((k : Key) × P k × (same_key k key ≡ true))
or_more P key k a true e q h = inr (k, q, e)
or_more P key k a false e q (inl h) = inl (e, h)
or_more P key k a false e q (inr h) = inr h

each_or : (P : Key → Type 0) (key : Key) (a : List Event) → Each P a → AnotherOr P key a
each_or P key [] h = inl tt
each_or P key (Enter k wires ∷ a) h = or_more P key k a (same_key k key) refl h.0 (each_or P key a h.1)
each_or P key (Return k ∷ a) h = or_more P key k a (same_key k key) refl h.0 (each_or P key a h.1)
each_or P key (Fresh c n ∷ a) h = each_or P key a h
each_or P key (Apply g ∷ a) h = each_or P key a h

-- of a run that is done
abbrev EachOf : {A : Type 0} → (Key → Type 0) → Outcome A → Type 0
EachOf P (Done es a) = Each P es
EachOf P (Stopped es f) = Unit {0}

pub record Out {A : Type 0} (P : Key → Type 0) (o : Outcome A) : Type 0 where
  pub holds : EachOf P o

module _ (P : Key → Type 0) where
  abbrev AllOut : (State → Outcome State) → Type 0
  AllOut go = (s : State) → Out P (go s)

  out_stop : {A : Type 0} (f : ElabFault) → Out {A = A} P (Stopped [] f)
  out_stop f = record { holds = tt }

  out_after : (x : List Event) (o : Outcome State) → Each P x → EachOf P o → EachOf P (after x o)
  out_after x (Done y a) h k = each_append P x y h k
  out_after x (Stopped y f) h k = tt

  out_then_by : (o : Outcome State) (go : State → Outcome State) → EachOf P o → AllOut go → Out P (then_do o go)
  out_then_by (Done x s) go h k = record { holds = out_after x (go s) h (k s).holds }
  out_then_by (Stopped x f) go h k = record { holds = tt }

  out_then : (o : Outcome State) (go : State → Outcome State) → Out P o → AllOut go → Out P (then_do o go)
  out_then o go h k = out_then_by o go h.holds k

  out_given : {A : Type 0} (r : Result A ElabFault) (go : A → Outcome State) → ((a : A) → Out P (go a)) → Out P (given r go)
  out_given (Ok a) go h = h a
  out_given (Err f) go h = record { holds = tt }

  out_step_of : (n : ℕ) (at : Place) (go : State → Outcome State) → AllOut go → AllOut (step_of n at go)
  out_step_of zero at go h s = record { holds = tt }
  out_step_of (suc n) at go h s = h (record s { steps = n })

  out_step : (at : Place) (go : State → Outcome State) → AllOut go → AllOut (step at go)
  out_step at go h s = out_step_of s.steps at go h s

  out_leaving_by : {A B : Type 0} (f : A → B) (o : Outcome A) → EachOf P o → Out P (leaving f o)
  out_leaving_by f (Done x a) h = record { holds = h }
  out_leaving_by f (Stopped x g) h = record { holds = tt }

  out_leaving : {A B : Type 0} (f : A → B) (o : Outcome A) → Out P o → Out P (leaving f o)
  out_leaving f o h = out_leaving_by f o h.holds

  out_inside : (go : State → Outcome State) → AllOut go → AllOut (inside go)
  out_inside go h s = out_leaving without_scope (go (with_scope s)) (h (with_scope s))

  out_truth : (b : Bool) (first second : State → Outcome State) → AllOut first → AllOut second → AllOut (by_truth b first second)
  out_truth true first second h k s = h s
  out_truth false first second h k s = k s

  out_choose : (e : PureExpr) (first second : State → Outcome State) → AllOut first → AllOut second → AllOut (choose e first second)
  out_choose e first second h k s = out_given (number s.numbers e) (λ x. by_truth (is_true x) first second s) (λ x. out_truth (is_true x) first second h k s)

  out_rounds : (n : ℕ) (at : Place) (round : (State → Outcome State) → State → Outcome State) → ((again : State → Outcome State) → AllOut again → AllOut (round again)) → AllOut (rounds n at round)
  out_rounds zero at round h s = record { holds = tt }
  out_rounds (suc n) at round h s = h (rounds n at round) (out_rounds n at round h) s

  out_loop : (at : Place) (e : Option PureExpr) (p : Place) (body : State → Outcome State) → AllOut body → AllOut (loop at e p body)
  out_loop at (Some e) p body h s =
      out_rounds s.steps at (tested at e body)
      (λ again k. out_step at (choose e (λ s. then_do (body s) again) finish)
      (out_choose e (λ s. then_do (body s) again) finish (λ s. out_then (body s) again (h s) k) (λ s. record { holds = tt }))) s
  out_loop at None p body h s = out_rounds s.steps p (untested body) (λ again k s. out_then (body s) again (h s) k) s

  out_width : (b : Bool) (x : List Event) (t : State) (f : ElabFault) → Each P x → Out P (cond b (Done x t) (Stopped [] f))
  out_width true x t f h = record { holds = h }
  out_width false x t f h = record { holds = tt }

  out_make : (c : Class) (name : Name) (z : ℤ) (s : State) → Out P (make_wires c name z s)
  out_make c name (pos zero) s = record { holds = tt }
  out_make c name (pos (suc m)) s = out_width (nat_le (s.width + suc m) 65536) (Fresh c (suc m) ∷ []) (with_fresh c name.text (suc m) s) (TooWide name.place) tt
  out_make c name (negsuc m) s = record { holds = tt }

  out_wires : (c : Class) (ds : List PureNamed) → AllOut (declare_wires c ds)
  out_wires c [] s = record { holds = tt }
  out_wires c (d ∷ ds) s =
      out_then (given (size_of s.numbers d.value) (λ z. make_wires c d.name z s)) (declare_wires c ds)
      (out_given (size_of s.numbers d.value) (λ z. make_wires c d.name z s) (λ z. out_make c d.name z s)) (out_wires c ds)

  out_numbers : (sort : NumSort) (ds : List PureNamed) → AllOut (declare_numbers sort ds)
  out_numbers sort [] s = record { holds = tt }
  out_numbers sort (d ∷ ds) s =
      out_given (start_value s.numbers sort d.value) (λ x. declare_numbers sort ds (with_number d.name.text x s)) (λ x. out_numbers sort ds (with_number d.name.text x s))

  module _ (program : Program) (call : Callee) (h : (key : Key) (wires : List Wire) (next : Numbers) → Out P (call key wires next)) where
    out_call : (name : List ℕ) (d : Option Definition) (args : List PureExpr) → AllOut (call_named call name d args)
    out_call name None args s = record { holds = tt }
    out_call name (Some d) args s =
        out_given (prepared s d args) (enter_with call name s)
        (λ ps. out_leaving (back_in s) (call (record { name = name; args = args_of ps }) (wires_of ps) s.next) (h (record { name = name; args = args_of ps }) (wires_of ps) s.next))

    -- a body in a scope of its own
    out_body_of : (p : Place) (a : PureAct) → AllOut (act program call p a) → AllOut (inside (step p (act program call p a)))
    out_body_of p a h s = out_inside (step p (act program call p a)) (out_step p (act program call p a) h) s

    mutual
      out_act : (at : Place) (a : PureAct) → AllOut (act program call at a)
      out_act at (PureAct.wires c ds) s = out_wires c ds s
      out_act at (PureAct.numbers sort ds) s = out_numbers sort ds s
      out_act at (PureAct.set name o mark e) s =
          out_given (new_value s.numbers (old_value s.numbers name.text) o mark e) (λ x. Done [] (with_new_value name.text x s)) (λ x. record { holds = tt })
      out_act at (PureAct.measure g into from) s = out_given (measured s g into from) (apply s) (λ g. record { holds = tt })
      out_act at (PureAct.call (called.Gate g) place args) s = out_given (called_gate s g args) (apply s) (λ g. record { holds = tt })
      out_act at (PureAct.call (called.Named t) place args) s = out_call t (definition program t) args s
      out_act at (PureAct.if_else e p a other) s =
          out_choose e (inside (step p (act program call p a))) (otherwise program call other) (out_body_of p a (out_act p a)) (out_otherwise other) s
      out_act at (PureAct.while_loop e p a) s = out_loop at (Some e) p (inside (step p (act program call p a))) (out_body_of p a (out_act p a)) s
      out_act at (PureAct.for_loop start test advance p a) s =
          let one : State → Outcome State = λ s. then_do (inside (step p (act program call p a)) s) (maybe program call advance) in
          out_inside (λ s. then_do (maybe program call start s) (loop at test p one))
          (λ s. out_then (maybe program call start s) (loop at test p one) (out_maybe start s)
          (out_loop at test p one (λ s. out_then (inside (step p (act program call p a)) s) (maybe program call advance) (out_body_of p a (out_act p a) s) (out_maybe advance)))) s
      out_act at (PureAct.block row) s = out_inside (acts program call row) (out_acts row) s
      out_act at PureAct.empty s = record { holds = tt }

      out_maybe : (held : PureHeld) → AllOut (maybe program call held)
      out_maybe PureHeld.absent s = record { holds = tt }
      out_maybe (PureHeld.held p a) s = out_step p (act program call p a) (out_act p a) s

      out_otherwise : (held : PureHeld) → AllOut (otherwise program call held)
      out_otherwise PureHeld.absent s = record { holds = tt }
      out_otherwise (PureHeld.held p a) s = out_body_of p a (out_act p a) s

      out_acts : (row : PureStmts) → AllOut (acts program call row)
      out_acts PureStmts.no_stmts s = record { holds = tt }
      out_acts (PureStmts.stmt p a rest) s =
          out_then (step p (act program call p a) s) (acts program call rest) (out_step p (act program call p a) (out_act p a) s) (out_acts rest)

    each_scratch : (k : ℕ) → Each P (fresh_scratch k)
    each_scratch zero = tt
    each_scratch (suc k) = tt

    each_gates : (f : Gate → Gate) (gates : List Gate) → Each P (map (λ g. Apply (f g)) gates)
    each_gates f [] = tt
    each_gates f (g ∷ gates) = each_gates f gates

    out_if : (b : Bool) (x : List Event) (n : Numbers) (f : ElabFault) → Each P x → Out P (cond b (Done x n) (Stopped [] f))
    out_if true x n f k = record { holds = k }
    out_if false x n f k = record { holds = tt }

    out_function : (name : Name) (f : Function) (wires : List Wire) (next : Numbers) → Out P (function_body name f wires next)
    out_function name f wires next =
        let places : List Wire = call_wires f wires next in
        out_if (nat_le (length places) 65536) (function_events f wires next) (with_more Q f.scratch next) (TooWide name.place)
        (each_append P (fresh_scratch f.scratch) (map (λ g. Apply (rename_gate (placed places) g)) f.gates) (each_scratch f.scratch) (each_gates (rename_gate (placed places)) f.gates))

    out_body : (d : Option Definition) (args : List Arg) (wires : List Wire) (next : Numbers) → Out P (body program call d args wires next)
    out_body None args wires next = record { holds = tt }
    out_body (Some (of_module name params stmts)) args wires next =
        out_leaving (λ (s : State). s.next) (acts program call stmts (start_state params args wires next)) (out_acts stmts (start_state params args wires next))
    out_body (Some (of_function name f)) args wires next = out_function name f wires next

-- a key whose body is done where fewer bodies may be open
pub record Early (program : Program) (n : ℕ) (key : Key) : Type 0 where
  pub depth : ℕ
  pub less : depth < n
  pub ends : Ends program depth key

pub early_up : (program : Program) (n m : ℕ) → n ≤ m → (key : Key) → Early program n key → Early program m key
early_up program n m h key e = record { depth = e.depth; less = (let l = e.less in omega arith); ends = e.ends }

each_entered : (program : Program) (n : ℕ) (key : Key) (wires : List Wire) (next : Numbers) (o : Outcome Numbers) → o ≡ local_body program (local program n) key
    → Out (Early program n) o → Out (Early program (suc n)) (leaving (λ own. next) (entered key wires o))
each_entered program n key wires next (Stopped x f) e h = record { holds = tt }
each_entered program n key wires next (Done x own) e h =
    let here : Early program (suc n) key = record { depth = n; less = omega arith; ends = record { events = x; own = own; is = sym e } } in
    let inner : Each (Early program (suc n)) x = each_weaker (Early program n) (Early program (suc n)) x (early_up program n (suc n) (omega arith)) h.holds in
    record { holds = (here, each_append (Early program (suc n)) x (Return key ∷ []) inner (here, tt)) }

-- each key that a call enters ended early
local_early : (program : Program) (n : ℕ) (key : Key) (wires : List Wire) (next : Numbers) → Out (Early program n) (local program n key wires next)
unfolding local
local_early program zero key wires next = record { holds = tt }
local_early program (suc n) key wires next =
    each_entered program n key wires next (local_body program (local program n) key) refl
    (out_body (Early program n) program (local program n) (local_early program n) (definition program key.name) key.args (numbered (param_classes key) no_wires) (params_of key))

each_is : (P : Key → Type 0) (o : Outcome Numbers) (x : List Event) (own : Numbers) → o ≡ Done x own → Out P o → Each P x
each_is P o x own e h = let k : Out P (Done x own) = subst (λ (q : Outcome Numbers). Out P q) e h in k.holds

-- what a body that is done enters ended early
pub body_early : (program : Program) (n : ℕ) (key : Key) (x : List Event) (own : Numbers) → local_body program (local program n) key ≡ Done x own → Each (Early program n) x
body_early program n key x own e =
    each_is (Early program n) (local_body program (local program n) key) x own e
    (out_body (Early program n) program (local program n) (local_early program n) (definition program key.name) key.args (numbered (param_classes key) no_wires) (params_of key))

not_inside_by : (program : Program) (bound n : ℕ) → n ≤ bound → (key : Key) (x : List Event) (own : Numbers) → local_body program (local program n) key ≡ Done x own
    → AnotherOr (Early program n) key x → Each (λ k. same_key k key ≡ false) x
not_inside_by program bound n le key x own e (inl h) = h
not_inside_by program zero n le key x own e (inr (k, early, same)) = let l = early.less in absurd (omega arith)
not_inside_by program (suc bound) n le key x own e (inr (k, early, same)) =
    let l = early.less in
    let m : early.depth ≤ bound = omega arith in
    let is : k ≡ key = (same_key_decides k key).0 same in
    let ends : Ends program early.depth key = subst (λ (j : Key). Ends program early.depth j) is early.ends in
    let q : Done x own ≡ Done ends.events ends.own = same_done program n early.depth key x ends.events own ends.own e ends.is in
    let y : ends.events ≡ x = cc in
    subst (λ (z : List Event). Each (λ k. same_key k key ≡ false) z) y
    (not_inside_by program bound early.depth m key ends.events ends.own ends.is
    (each_or (Early program early.depth) key ends.events (body_early program early.depth key ends.events ends.own ends.is)))

-- A BODY THAT IS DONE does not enter its own key
pub not_inside : (program : Program) (n : ℕ) (key : Key) (x : List Event) (own : Numbers) → local_body program (local program n) key ≡ Done x own → Each (λ k. same_key k key ≡ false) x
not_inside program n key x own e = not_inside_by program n n (omega arith) key x own e (each_or (Early program n) key x (body_early program n key x own e))

-- a key that the events do not return is not added to a deck
pub not_added : (choice : Choice) (x : List Event) (m : Made) (key : Key) → Each (λ k. same_key k key ≡ false) x → number_in_deck m.deck key ≡ length m.deck
    → number_in_deck (make choice x m).deck key ≡ length (make choice x m).deck
not_added choice [] m key h n = n
not_added choice (Enter k wires ∷ x) m key h n = not_added choice x (make_one choice (Enter k wires) m) key h.1 n
not_added choice (Fresh c i ∷ x) m key h n = not_added choice x (make_one choice (Fresh c i) m) key h n
not_added choice (Apply g ∷ x) m key h n = not_added choice x (make_one choice (Apply g) m) key h n
not_added choice (Return k ∷ x) m key h n =
    not_added choice x (make_one choice (Return k) m) key h.1 (still_out m.deck k (half_items m.opened) key h.0 n)

last_by : (choice : Choice) (key : Key) (o : Outcome Numbers) (wires : List Wire) (next k : Numbers) (lev : List Event) (m : Made)
    → ((x : List Event) (own : Numbers) → o ≡ Done x own → Each (λ j. same_key j key ≡ false) x) → number_in_deck m.deck key ≡ length m.deck
    → leaving (λ own. next) (entered key wires o) ≡ Done lev k → suc (number_in_deck (make choice lev m).deck key) ≡ length (make choice lev m).deck
last_by choice key (Stopped x f) wires next k lev m n new e = absurd cc
last_by choice key (Done x own) wires next k lev m n new e =
    let q : Enter key wires ∷ (x ++ Return key ∷ []) ≡ lev = cc in
    let inner : Made = make choice x (with_entry key wires m) in
    let d : make choice (Enter key wires ∷ (x ++ Return key ∷ [])) m ≡ make_one choice (Return key) inner = make-append choice x (Return key ∷ []) (with_entry key wires m) in
    let out : number_in_deck inner.deck key ≡ length inner.deck = not_added choice x (with_entry key wires m) key (n x own refl) new in
    subst (λ (l : List Event). suc (number_in_deck (make choice l m).deck key) ≡ length (make choice l m).deck) q
    (subst (λ (y : Made). suc (number_in_deck y.deck key) ≡ length y.deck) (sym d) (last_entry inner.deck key (half_items inner.opened) out))

-- AN ENTERING THAT RETURNS makes its key the last of the deck, where it is new there
pub entering_last : (choice : Choice) (program : Program) (n : ℕ) (key : Key) (wires : List Wire) (next k : Numbers) (lev : List Event) (m : Made) → number_in_deck m.deck key ≡ length m.deck
    → local program n key wires next ≡ Done lev k → suc (number_in_deck (make choice lev m).deck key) ≡ length (make choice lev m).deck
unfolding local
entering_last choice program zero key wires next k lev m new e = absurd cc
entering_last choice program (suc n) key wires next k lev m new e =
    last_by choice key (local_body program (local program n) key) wires next k lev m (λ x own f. not_inside program n key x own f) new e
