-- A loop is one round, and then the loop again.
use Rattle.std.proofs.Common.{◌≡◌, ℕ, zero, suc, ◌<◌, ◌≤◌, Bool, true, false, [], Some, None, Result, Ok, Err, refl, sym, ap, ◌∙◌, arith}
use Rattle.sc_base.specs.declared.Place.{Place}
use Rattle.sc_syntax.specs.Alike.{PureExpr, PureAct, PureHeld}
use Rattle.sc_value.specs.Numbers.{is_true}
use Rattle.sc_meaning.specs.declared.fault.ElabFault.{ElabFault}
use Rattle.sc_meaning.specs.declared.fault.ElabFault.TheVariants.{TooLong}
use Rattle.sc_meaning.specs.Definitions.{Program}
use Rattle.sc_meaning.specs.Outcomes.{Outcome, Done, Stopped, after, then_do, given, leaving}
use Rattle.sc_meaning.specs.Run.{Callee, step_of, step, by_truth, choose, finish, rounds, tested, untested, loop, act, maybe}
use Rattle.sc_meaning.specs.States.{State, with_scope, without_scope, inside}
use Rattle.sc_meaning.specs.Values.{number}
use Rattle.sc_elab.proofs.Steps.{Down, Falls, down_done, down_stopped, down_then, down_step, down_inside, down_act, down_maybe}

-- equal continuations
pub then_same : (n : ℕ) (o : Outcome State) (g h : State → Outcome State) → Down n o → ((t : State) → t.steps ≤ n → g t ≡ h t) → then_do o g ≡ then_do o h
then_same n (Done x t) g h d same = ap (after x) (same t (d.down x t refl))
then_same n (Stopped x f) g h d same = refl

given_same : {A : Type 0} (r : Result A ElabFault) (g h : A → Outcome State) → ((a : A) → g a ≡ h a) → given r g ≡ given r h
given_same (Ok a) g h same = same a
given_same (Err f) g h same = refl

truth_same : (b : Bool) (g h second : State → Outcome State) (s : State) → g s ≡ h s → by_truth b g second s ≡ by_truth b h second s
truth_same true g h second s same = same
truth_same false g h second s same = refl

pub choose_same : (e : PureExpr) (g h second : State → Outcome State) (s : State) → g s ≡ h s → choose e g second s ≡ choose e h second s
choose_same e g h second s same =
    given_same (number s.numbers e) (λ x. by_truth (is_true x) g second s) (λ x. by_truth (is_true x) h second s)
    (λ x. truth_same (is_true x) g h second s same)

step_of_same : (n : ℕ) (at : Place) (g h : State → Outcome State) (s : State) → ((t : State) → t.steps < n → g t ≡ h t) → step_of n at g s ≡ step_of n at h s
step_of_same zero at g h s same = refl
step_of_same (suc n) at g h s same = same (record s { steps = n }) (let r : n < suc n = omega arith in r)

-- each round takes a step: it goes on only where fewer are left, and stops where none is
pub record Paces (at : Place) (round : (State → Outcome State) → State → Outcome State) : Type 0 where
  pub less : (s : State) (g h : State → Outcome State) → ((t : State) → t.steps < s.steps → g t ≡ h t) → round g s ≡ round h s
  pub none : (s : State) (g : State → Outcome State) → s.steps ≡ 0 → round g s ≡ Stopped [] (TooLong at)

-- any two fuels that are enough
rounds_same : (at : Place) (round : (State → Outcome State) → State → Outcome State) → Paces at round → (n m : ℕ) (s : State) → s.steps ≤ n → s.steps ≤ m → rounds n at round s ≡ rounds m at round s
rounds_same at round h zero zero s k l = refl
rounds_same at round h zero (suc m) s k l = sym (h.none s (rounds m at round) (omega arith))
rounds_same at round h (suc n) zero s k l = h.none s (rounds n at round) (omega arith)
rounds_same at round h (suc n) (suc m) s k l =
    h.less s (rounds n at round) (rounds m at round) (λ t d. rounds_same at round h n m t (omega arith) (omega arith))

rounds_once : (at : Place) (round : (State → Outcome State) → State → Outcome State) → Paces at round → (s : State) → rounds s.steps at round s ≡ round (λ t. rounds t.steps at round t) s
rounds_once at round h s =
    rounds_same at round h s.steps (suc s.steps) s (omega arith) (omega arith)
    ∙ h.less s (rounds s.steps at round) (λ t. rounds t.steps at round t) (λ t d. rounds_same at round h s.steps t.steps t (omega arith) (omega arith))

-- ---- rounds with a test

none_left : (n : ℕ) (at : Place) (go : State → Outcome State) (s : State) → n ≡ 0 → step_of n at go s ≡ Stopped [] (TooLong at)
none_left zero at go s h = refl
none_left (suc n) at go s h = absurd (omega arith)

paces_tested : (at : Place) (e : PureExpr) (body : State → Outcome State) → ((n : ℕ) → Falls n body) → Paces at (tested at e body)
paces_tested at e body falls = record {
  less = λ s g h same.
      step_of_same s.steps at (choose e (λ s. then_do (body s) g) finish) (choose e (λ s. then_do (body s) h) finish) s
      (λ t l. choose_same e (λ s. then_do (body s) g) (λ s. then_do (body s) h) finish t
      (then_same t.steps (body t) g h (falls t.steps t (let r : t.steps ≤ t.steps = omega arith in r)) (λ u d. same u (omega arith))));
  none = λ s g h. none_left s.steps at (choose e (λ s. then_do (body s) g) finish) s h;
}

-- a loop with a test
pub tested_once : (at : Place) (e : PureExpr) (p : Place) (body : State → Outcome State) → ((n : ℕ) → Falls n body) → (s : State)
    → loop at (Some e) p body s ≡ step at (choose e (λ t. then_do (body t) (loop at (Some e) p body)) finish) s
tested_once at e p body falls s = rounds_once at (tested at e body) (paces_tested at e body falls) s

-- ---- rounds without a test

-- what begins with a step
pub record Begins (at : Place) (body : State → Outcome State) : Type 0 where
  pub falls : (n : ℕ) (s : State) → s.steps ≡ suc n → Down n (body s)
  pub none : (s : State) → s.steps ≡ 0 → body s ≡ Stopped [] (TooLong at)

untested_less : (m : ℕ) (at : Place) (body : State → Outcome State) → Begins at body → (s : State) (g h : State → Outcome State) → s.steps ≡ m
    → ((t : State) → t.steps < s.steps → g t ≡ h t) → then_do (body s) g ≡ then_do (body s) h
untested_less zero at body b s g h is same = ap (λ (o : Outcome State). then_do o g) (b.none s is) ∙ sym (ap (λ (o : Outcome State). then_do o h) (b.none s is))
untested_less (suc n) at body b s g h is same = then_same n (body s) g h (b.falls n s is) (λ t l. same t (omega arith))

paces_untested : (at : Place) (body : State → Outcome State) → Begins at body → Paces at (untested body)
paces_untested at body b = record {
  less = λ s g h same. untested_less s.steps at body b s g h refl same;
  none = λ s g h. ap (λ (o : Outcome State). then_do o g) (b.none s h);
}

pub untested_once : (at p : Place) (body : State → Outcome State) → Begins p body → (s : State) → loop at None p body s ≡ then_do (body s) (loop at None p body)
untested_once at p body b s = rounds_once p (untested body) (paces_untested p body b) s

-- ---- the rounds of a statement

down_taken : (n m : ℕ) (at : Place) (go : State → Outcome State) (s : State) → Falls n go → m ≡ suc n → Down n (step_of m at go s)
down_taken n zero at go s h is = absurd (omega arith)
down_taken n (suc m) at go s h is = h (record s { steps = m }) (let r : m ≤ n = omega arith in r)

leaving_down : (n : ℕ) (o : Outcome State) → Down n o → Down n (leaving without_scope o)
leaving_down n (Done x s) h = down_done n x (without_scope s) (h.down x s refl)
leaving_down n (Stopped x f) h = down_stopped n x f

-- a body in a scope of its own, and then the advance
pub begins_round : (program : Program) (call : Callee) (p : Place) (a : PureAct) (advance : PureHeld)
    → Begins p (λ s. then_do (inside (step p (act program call p a)) s) (maybe program call advance))
begins_round program call p a advance = record {
  falls = λ n s is.
      down_then n (inside (step p (act program call p a)) s) (maybe program call advance)
      (leaving_down n (step p (act program call p a) (with_scope s)) (down_taken n s.steps p (act program call p a) (with_scope s) (down_act program call n p a) is))
      (down_maybe program call n advance);
  none = λ s is.
      ap (λ (o : Outcome State). then_do (leaving without_scope o) (maybe program call advance)) (none_left s.steps p (act program call p a) (with_scope s) is);
}

pub falls_round : (program : Program) (call : Callee) (p : Place) (a : PureAct) (advance : PureHeld) (n : ℕ)
    → Falls n (λ s. then_do (inside (step p (act program call p a)) s) (maybe program call advance))
falls_round program call p a advance n s l =
    down_then n (inside (step p (act program call p a)) s) (maybe program call advance)
    (down_inside n (step p (act program call p a)) (down_step n p (act program call p a) (down_act program call n p a)) s l)
    (down_maybe program call n advance)
