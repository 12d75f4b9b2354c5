-- HEIGHT: if each call that a body makes also returns where fewer bodies may be open, then so does the body.
use Rattle.std.proofs.Common.{◌≡◌, ℕ, zero, suc, ◌≤◌, List, [], ◌∷◌, ◌++◌, ◌⊎◌, inl, inr, Option, Some, None, refl, sym, ap, ◌∙◌, subst, arith, append_assoc, append-nil}
use Rattle.sc_gate.specs.declared.gate.Wire.{Wire}
use Rattle.sc_gate.specs.Numbers.{Numbers, no_wires}
use Rattle.sc_deck.specs.declared.key.Key.{Key}
use Rattle.sc_deck.specs.declared.key.Arg.{Arg}
use Rattle.sc_deck.specs.Events.{Event, Enter, Return}
use Rattle.sc_deck.specs.Keys.{param_classes, params_of}
use Rattle.sc_deck.specs.Unfolding.{numbered}
use Rattle.sc_meaning.specs.declared.fault.ElabFault.TheVariants.{TooDeep}
use Rattle.sc_meaning.specs.Depth.{CutBy}
use Rattle.sc_meaning.specs.Definitions.{Definition, of_module, of_function, Program, definition}
use Rattle.sc_meaning.specs.Local.{local_body, local}
use Rattle.sc_meaning.specs.Outcomes.{Outcome, Done, Stopped, after, then_do, leaving, events_of}
use Rattle.sc_meaning.specs.Run.{Callee, back_in, acts, start_state, body, entered}
use Rattle.sc_meaning.specs.States.{State}
use Rattle.sc_meaning.specs.Kept.{Each}
use Rattle.sc_meaning.proofs.Opening.{local_is}
use Rattle.sc_meaning.proofs.Cut.{local_cuts, done_deeper, events_after}
use Rattle.sc_meaning.proofs.Last.{each_mid, Early}
use Rattle.sc_meaning.proofs.Walks.{Relates, walk_acts}

events_left : {A B : Type 0} (f : A → B) (o : Outcome A) → events_of (leaving f o) ≡ events_of o
events_left f (Done w a) = refl
events_left f (Stopped w g) = refl

module _ (c c' : Callee) (Bad : Key → List Wire → Numbers → Type 0) where
  -- some call among these events differs
  pub record Differs (es : List Event) : Type 0 where
    pub key : Key
    pub wires : List Wire
    pub next : Numbers
    pub before : List Event
    pub rest : List Event
    pub here : es ≡ before ++ (events_of (c key wires next) ++ rest)
    pub differs : Bad key wires next

  differs_left : (x y : List Event) → Differs x → Differs (x ++ y)
  differs_left x y d = record {
    key = d.key;
    wires = d.wires;
    next = d.next;
    before = d.before;
    rest = d.rest ++ y;
    differs = d.differs;
    here = ap (λ (l : List Event). l ++ y) d.here ∙ append_assoc d.before (events_of (c d.key d.wires d.next) ++ d.rest) y
        ∙ ap (λ (l : List Event). d.before ++ l) (append_assoc (events_of (c d.key d.wires d.next)) d.rest y);
  }

  differs_right : (x y : List Event) → Differs y → Differs (x ++ y)
  differs_right x y d = record {
    key = d.key;
    wires = d.wires;
    next = d.next;
    before = x ++ d.before;
    rest = d.rest;
    differs = d.differs;
    here = ap (λ (l : List Event). x ++ l) d.here ∙ sym (append_assoc x d.before (events_of (c d.key d.wires d.next) ++ d.rest));
  }

  -- the same, or some call differs
  abbrev AlikeBy : {A : Type 0} → Outcome A → Outcome A → Type 0
  AlikeBy o o' = (o' ≡ o) ⊎ Differs (events_of o)

  pub record Alike {A : Type 0} (o o' : Outcome A) : Type 0 where
    pub holds : AlikeBy o o'

  alike_after : {A : Type 0} (z : List Event) (o o' : Outcome A) → AlikeBy o o' → Alike (after z o) (after z o')
  alike_after z o o' (inl e) = record { holds = inl (ap (after z) e) }
  alike_after z o o' (inr d) = record { holds = inr (subst Differs (sym (events_after z o)) (differs_right z (events_of o) d)) }

  alike_then_by : (o o' : Outcome State) (go go' : State → Outcome State) → ((s : State) → Alike (go s) (go' s)) → AlikeBy o o' → Alike (then_do o go) (then_do o' go')
  alike_then_by (Done w a) o' go go' h (inl e) = subst (λ (p : Outcome State). Alike (after w (go a)) (then_do p go')) (sym e) (alike_after w (go a) (go' a) (h a).holds)
  alike_then_by (Stopped w f) o' go go' h (inl e) = record { holds = inl (ap (λ (p : Outcome State). then_do p go') e) }
  alike_then_by (Done w a) o' go go' h (inr d) = record { holds = inr (subst Differs (sym (events_after w (go a))) (differs_left w (events_of (go a)) d)) }
  alike_then_by (Stopped w g) o' go go' h (inr d) = record { holds = inr d }

  alike_left_by : {A B : Type 0} (f : A → B) (o o' : Outcome A) → AlikeBy o o' → Alike (leaving f o) (leaving f o')
  alike_left_by f o o' (inl e) = record { holds = inl (ap (leaving f) e) }
  alike_left_by f o o' (inr d) = record { holds = inr (subst Differs (sym (events_left f o)) d) }

  alike_relate : Relates (λ o o'. Alike o o')
  alike_relate = record {
    same = λ o. record { holds = inl refl };
    next = λ o o' go go' h k. alike_then_by o o' go go' k h.holds;
    left = λ f o o' h. alike_left_by f o o' h.holds;
  }

  alike_call : (s : State) (key : Key) (wires : List Wire) (next : Numbers) → (c' key wires next ≡ c key wires next) ⊎ Bad key wires next
      → Alike (leaving (back_in s) (c key wires next)) (leaving (back_in s) (c' key wires next))
  alike_call s key wires next (inl e) = record { holds = inl (ap (leaving (back_in s)) e) }
  alike_call s key wires next (inr d) = record {
    holds = inr (record {
      key = key;
      wires = wires;
      next = next;
      before = [];
      rest = [];
      differs = d;
      here = events_left (back_in s) (c key wires next) ∙ sym (append-nil (events_of (c key wires next)));
    });
  }

  alike_body : (program : Program) → ((key : Key) (wires : List Wire) (next : Numbers) → (c' key wires next ≡ c key wires next) ⊎ Bad key wires next)
      → (d : Option Definition) (args : List Arg) (wires : List Wire) (next : Numbers) → Alike (body program c d args wires next) (body program c' d args wires next)
  alike_body program h None args wires next = record { holds = inl refl }
  alike_body program h (Some (of_module name params stmts)) args wires next =
      alike_left_by (λ (s : State). s.next) (acts program c stmts (start_state params args wires next)) (acts program c' stmts (start_state params args wires next))
      (walk_acts (λ o o'. Alike o o') alike_relate program c c' (λ key ws n s. alike_call s key ws n (h key ws n)) stmts (start_state params args wires next)).holds
  alike_body program h (Some (of_function name f)) args wires next = record { holds = inl refl }

-- a call that stops by `TooDeep`
abbrev Deep : Program → ℕ → Key → List Wire → Numbers → Type 0
Deep program m key wires next = (y : List Event) × (local program m key wires next ≡ Stopped y TooDeep)

cut_or : (program : Program) (m : ℕ) (key : Key) (wires : List Wire) (next : Numbers) (o : Outcome Numbers) → CutBy o (local program m key wires next)
    → (local program m key wires next ≡ o) ⊎ Deep program m key wires next
cut_or program m key wires next o (inl e) = inl e
cut_or program m key wires next o (inr (x, y, e, f)) = inr (x, e)

-- the first event of a call is its entering
first_of_entered : (next : Numbers) (key : Key) (wires : List Wire) (o : Outcome Numbers) → (es : List Event) × (events_of (leaving (λ (own : Numbers). next) (entered key wires o)) ≡ Enter key wires ∷ es)
first_of_entered next key wires (Done x own) = (x ++ Return key ∷ [], refl)
first_of_entered next key wires (Stopped x f) = (x, refl)

first_is : (program : Program) (n : ℕ) (key : Key) (wires : List Wire) (next : Numbers) → (es : List Event) × (events_of (local program (suc n) key wires next) ≡ Enter key wires ∷ es)
first_is program n key wires next =
    let e = first_of_entered next key wires (local_body program (local program n) key) in
    (e.0, ap events_of (local_is program n key wires next) ∙ e.1)

-- a key that ended early does not stop by `TooDeep`
not_deep : (program : Program) (m : ℕ) (key : Key) (wires : List Wire) (next : Numbers) → Early program m key → Deep program m key wires next → ⊥
not_deep program zero key wires next e d = let l = e.less in omega arith
not_deep program (suc m) key wires next e d =
    let l = e.less in
    let done = done_deeper program m e.depth (omega arith) key e.ends.events e.ends.own e.ends.is in
    let out : local program (suc m) key wires next ≡ Done (Enter key wires ∷ (e.ends.events ++ Return key ∷ [])) next =
    local_is program m key wires next ∙ ap (λ (o : Outcome Numbers). leaving (λ (own : Numbers). next) (entered key wires o)) done in
    let both : Done (Enter key wires ∷ (e.ends.events ++ Return key ∷ [])) next ≡ Stopped d.0 TooDeep = sym out ∙ d.1 in
    cc

tall_by : (program : Program) (n m : ℕ) (o o' : Outcome Numbers) (x : List Event) (own : Numbers) → o ≡ Done x own → Each (Early program m) x
    → (o' ≡ o) ⊎ Differs (local program (suc n)) (local program m) (Deep program m) (events_of o) → o' ≡ Done x own
tall_by program n m o o' x own e h (inl q) = q ∙ e
tall_by program n m o o' x own e h (inr d) =
    let first = first_is program n d.key d.wires d.next in
    let at : x ≡ d.before ++ (Enter d.key d.wires ∷ (first.0 ++ d.rest)) = ap events_of (sym e) ∙ d.here ∙ ap (λ (l : List Event). d.before ++ (l ++ d.rest)) first.1 in
    let here : Each (Early program m) (Enter d.key d.wires ∷ (first.0 ++ d.rest)) =
    each_mid (Early program m) d.before (Enter d.key d.wires ∷ (first.0 ++ d.rest)) (subst (λ (l : List Event). Each (Early program m) l) at h) in
    absurd (not_deep program m d.key d.wires d.next here.0 d.differs)

-- THE LAW OF HEIGHTS: a body is done wherever what it enters is done with fewer bodies open
pub tall_enough : (program : Program) (n m : ℕ) → m ≤ n → (key : Key) (x : List Event) (own : Numbers) → local_body program (local program n) key ≡ Done x own
    → Each (Early program m) x → local_body program (local program m) key ≡ Done x own
tall_enough program zero m le key x own e h = let z : m ≡ zero = omega arith in ap (λ (k : ℕ). local_body program (local program k) key) z ∙ e
tall_enough program (suc n) m le key x own e h =
    tall_by program n m (local_body program (local program (suc n)) key) (local_body program (local program m) key) x own e h
    (alike_body (local program (suc n)) (local program m) (Deep program m) program
    (λ k ws j. cut_or program m k ws j (local program (suc n) k ws j) (local_cuts program (suc n) m le k ws j).holds)
    (definition program key.name) key.args (numbered (param_classes key) no_wires) (params_of key)).holds
