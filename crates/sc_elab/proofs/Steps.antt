-- A body's steps only fall, so a loop needs no more fuel than the steps that are left.
use Rattle.std.proofs.Common.{◌≡◌, ℕ, zero, suc, ◌+◌, ◌≤◌, Bool, true, false, cond, List, [], ◌∷◌, ◌++◌, Option, Some, None, Result, Ok, Err, refl, subst, arith}
use Rattle.std.specs.Prelude.{ℤ, pos, negsuc, nat_le}
use Rattle.sc_base.specs.declared.Place.{Place}
use Rattle.sc_base.specs.declared.Class.{Class}
use Rattle.sc_gate.specs.Numbers.{Numbers}
use Rattle.sc_syntax.specs.declared.Name.{Name}
use Rattle.sc_syntax.specs.declared.NumSort.{NumSort}
use Rattle.sc_syntax.specs.declared.Callee.TheVariants as called
use Rattle.sc_syntax.specs.Alike.{PureExpr, PureNamed, PureAct, PureHeld, PureStmts}
use Rattle.sc_value.specs.Numbers.{is_true}
use Rattle.sc_deck.specs.Events.{Event, Fresh, Apply}
use Rattle.sc_meaning.specs.declared.fault.ElabFault.{ElabFault}
use Rattle.sc_meaning.specs.declared.fault.ElabFault.TheVariants.{TooLong, TooWide, BadSize}
use Rattle.sc_meaning.specs.Arguments.{prepared}
use Rattle.sc_meaning.specs.Definitions.{Definition, Program, definition}
use Rattle.sc_meaning.specs.Outcomes.{Outcome, Done, Stopped, after, then_do, given, leaving}
use Rattle.sc_meaning.specs.Run.{Callee, step_of, step, make_wires, size_of, declare_wires, declare_numbers, apply, measured, back_in, enter_with, call_named, by_truth, choose, finish, rounds, tested, untested, loop, act, maybe, otherwise, acts}
use Rattle.sc_meaning.specs.States.{State, with_fresh, with_number, with_new_value, with_scope, without_scope, inside}
use Rattle.sc_meaning.specs.Values.{number, start_value, new_value, old_value}
use Rattle.sc_meaning.specs.Arguments.{called_gate}

-- at most n steps are left after it
pub record Down (n : ℕ) (o : Outcome State) : Type 0 where
  pub down : (x : List Event) (t : State) → o ≡ Done x t → t.steps ≤ n

-- the same of what follows from any state with so few steps left
abbrev pub Falls : ℕ → (State → Outcome State) → Type 0
Falls n go = (s : State) → s.steps ≤ n → Down n (go s)

pub down_done : (n : ℕ) (x : List Event) (t : State) → t.steps ≤ n → Down n (Done x t)
down_done n x t h = record { down = λ y u e. let q : t ≡ u = cc in subst (λ (v : State). v.steps ≤ n) q h }

pub down_stopped : (n : ℕ) (x : List Event) (f : ElabFault) → Down n (Stopped x f)
down_stopped n x f = record { down = λ y u e. absurd cc }

down_after : (n : ℕ) (x : List Event) (o : Outcome State) → Down n o → Down n (after x o)
down_after n x (Done y t) h = down_done n (x ++ y) t (h.down y t refl)
down_after n x (Stopped y f) h = down_stopped n (x ++ y) f

pub down_then : (n : ℕ) (o : Outcome State) (go : State → Outcome State) → Down n o → Falls n go → Down n (then_do o go)
down_then n (Done x t) go h k = down_after n x (go t) (k t (h.down x t refl))
down_then n (Stopped x f) go h k = down_stopped n x f

pub down_given : {A : Type 0} (n : ℕ) (r : Result A ElabFault) (go : A → Outcome State) → ((a : A) → Down n (go a)) → Down n (given r go)
down_given n (Ok a) go h = h a
down_given n (Err f) go h = down_stopped n [] f

down_step_of : (n m : ℕ) (at : Place) (s : State) (go : State → Outcome State) → m ≤ n → Falls n go → Down n (step_of m at go s)
down_step_of n zero at s go h k = down_stopped n [] (TooLong at)
down_step_of n (suc m) at s go h k = k (record s { steps = m }) (let r : m ≤ n = omega arith in r)

pub down_step : (n : ℕ) (at : Place) (go : State → Outcome State) → Falls n go → Falls n (step at go)
down_step n at go k s h = down_step_of n s.steps at s go h k

pub down_leaving : (n : ℕ) (f : State → State) (o : Outcome State) → ((s : State) → (f s).steps ≡ s.steps) → Down n o → Down n (leaving f o)
down_leaving n f (Done x s) same h = down_done n x (f s) (let e : (f s).steps ≡ s.steps = same s in let l : s.steps ≤ n = h.down x s refl in omega arith)
down_leaving n f (Stopped x g) same h = down_stopped n x g

pub down_inside : (n : ℕ) (go : State → Outcome State) → Falls n go → Falls n (inside go)
down_inside n go k s h = down_leaving n without_scope (go (with_scope s)) (λ s. refl) (k (with_scope s) h)

down_truth : (n : ℕ) (b : Bool) (first second : State → Outcome State) → Falls n first → Falls n second → Falls n (by_truth b first second)
down_truth n true first second h k s l = h s l
down_truth n false first second h k s l = k s l

pub down_choose : (n : ℕ) (e : PureExpr) (first second : State → Outcome State) → Falls n first → Falls n second → Falls n (choose e first second)
down_choose n e first second h k s l =
    down_given n (number s.numbers e) (λ x. by_truth (is_true x) first second s) (λ x. down_truth n (is_true x) first second h k s l)

down_finish : (n : ℕ) → Falls n finish
down_finish n s l = down_done n [] s l

-- ---- declarations, gates and calls

down_width : (n : ℕ) (b : Bool) (x : List Event) (t : State) (f : ElabFault) → t.steps ≤ n → Down n (cond b (Done x t) (Stopped [] f))
down_width n true x t f h = down_done n x t h
down_width n false x t f h = down_stopped n [] f

down_make : (n : ℕ) (c : Class) (name : Name) (z : ℤ) (s : State) → s.steps ≤ n → Down n (make_wires c name z s)
down_make n c name (pos zero) s h = down_stopped n [] (BadSize name.place)
down_make n c name (pos (suc m)) s h =
    down_width n (nat_le (s.width + suc m) 65536) (Fresh c (suc m) ∷ []) (with_fresh c name.text (suc m) s) (TooWide name.place) h
down_make n c name (negsuc m) s h = down_stopped n [] (BadSize name.place)

down_wires : (n : ℕ) (c : Class) (ds : List PureNamed) → Falls n (declare_wires c ds)
down_wires n c [] s h = down_done n [] s h
down_wires n c (d ∷ ds) s h =
    down_then n (given (size_of s.numbers d.value) (λ z. make_wires c d.name z s)) (declare_wires c ds)
    (down_given n (size_of s.numbers d.value) (λ z. make_wires c d.name z s) (λ z. down_make n c d.name z s h)) (down_wires n c ds)

down_numbers : (n : ℕ) (sort : NumSort) (ds : List PureNamed) → Falls n (declare_numbers sort ds)
down_numbers n sort [] s h = down_done n [] s h
down_numbers n sort (d ∷ ds) s h =
    down_given n (start_value s.numbers sort d.value) (λ x. declare_numbers sort ds (with_number d.name.text x s))
    (λ x. down_numbers n sort ds (with_number d.name.text x s) h)

down_enter : (n : ℕ) (s : State) (o : Outcome Numbers) → s.steps ≤ n → Down n (leaving (back_in s) o)
down_enter n s (Done x m) h = down_done n x (back_in s m) h
down_enter n s (Stopped x f) h = down_stopped n x f

down_call : (n : ℕ) (call : Callee) (name : List ℕ) (d : Option Definition) (args : List PureExpr) → Falls n (call_named call name d args)
down_call n call name None args s h = down_done n [] s h
down_call n call name (Some d) args s h =
    down_given n (prepared s d args) (enter_with call name s)
    (λ ps. down_enter n s _ h)

-- ---- loops

down_rounds : (n k : ℕ) (at : Place) (round : (State → Outcome State) → State → Outcome State) → ((again : State → Outcome State) → Falls n again → Falls n (round again)) → Falls n (rounds k at round)
down_rounds n zero at round h s l = down_stopped n [] (TooLong at)
down_rounds n (suc k) at round h s l = h (rounds k at round) (down_rounds n k at round h) s l

down_tested : (n : ℕ) (at : Place) (e : PureExpr) (body again : State → Outcome State) → Falls n body → Falls n again → Falls n (tested at e body again)
down_tested n at e body again h k =
    down_step n at (choose e (λ s. then_do (body s) again) finish)
    (down_choose n e (λ s. then_do (body s) again) finish (λ s l. down_then n (body s) again (h s l) k) (down_finish n))

down_loop : (n : ℕ) (at : Place) (e : Option PureExpr) (p : Place) (body : State → Outcome State) → Falls n body → Falls n (loop at e p body)
down_loop n at (Some e) p body h s l = down_rounds n s.steps at (tested at e body) (λ again k. down_tested n at e body again h k) s l
down_loop n at None p body h s l = down_rounds n s.steps p (untested body) (λ again k s l. down_then n (body s) again (h s l) k) s l

-- ---- statements

mutual
  pub down_act : (program : Program) (call : Callee) (n : ℕ) (at : Place) (a : PureAct) → Falls n (act program call at a)
  down_act program call n at (PureAct.wires c ds) s h = down_wires n c ds s h
  down_act program call n at (PureAct.numbers sort ds) s h = down_numbers n sort ds s h
  down_act program call n at (PureAct.set name o mark e) s h =
      down_given n (new_value s.numbers (old_value s.numbers name.text) o mark e) (λ x. Done [] (with_new_value name.text x s)) (λ x. down_done n [] (with_new_value name.text x s) h)
  down_act program call n at (PureAct.measure g into from) s h = down_given n (measured s g into from) (apply s) (λ g. down_done n (Apply g ∷ []) s h)
  down_act program call n at (PureAct.call (called.Gate g) place args) s h = down_given n (called_gate s g args) (apply s) (λ g. down_done n (Apply g ∷ []) s h)
  down_act program call n at (PureAct.call (called.Named t) place args) s h = down_call n call t (definition program t) args s h
  down_act program call n at (PureAct.if_else e p a other) s h =
      down_choose n e (inside (step p (act program call p a))) (otherwise program call other)
      (down_inside n (step p (act program call p a)) (down_step n p (act program call p a) (down_act program call n p a)))
      (down_otherwise program call n other) s h
  down_act program call n at (PureAct.while_loop e p a) s h =
      down_loop n at (Some e) p (inside (step p (act program call p a)))
      (down_inside n (step p (act program call p a)) (down_step n p (act program call p a) (down_act program call n p a))) s h
  down_act program call n at (PureAct.for_loop start test advance p a) s h =
      let one : State → Outcome State = λ s. then_do (inside (step p (act program call p a)) s) (maybe program call advance) in
      let falls : Falls n one = λ s l. down_then n (inside (step p (act program call p a)) s) (maybe program call advance)
      (down_inside n (step p (act program call p a)) (down_step n p (act program call p a) (down_act program call n p a)) s l) (down_maybe program call n advance) in
      down_inside n (λ s. then_do (maybe program call start s) (loop at test p one))
      (λ s l. down_then n (maybe program call start s) (loop at test p one) (down_maybe program call n start s l) (down_loop n at test p one falls)) s h
  down_act program call n at (PureAct.block row) s h = down_inside n (acts program call row) (down_acts program call n row) s h
  down_act program call n at PureAct.empty s h = down_done n [] s h

  pub down_maybe : (program : Program) (call : Callee) (n : ℕ) (held : PureHeld) → Falls n (maybe program call held)
  down_maybe program call n PureHeld.absent s h = down_done n [] s h
  down_maybe program call n (PureHeld.held p a) s h = down_step n p (act program call p a) (down_act program call n p a) s h

  down_otherwise : (program : Program) (call : Callee) (n : ℕ) (held : PureHeld) → Falls n (otherwise program call held)
  down_otherwise program call n PureHeld.absent s h = down_done n [] s h
  down_otherwise program call n (PureHeld.held p a) s h =
      down_inside n (step p (act program call p a)) (down_step n p (act program call p a) (down_act program call n p a)) s h

  pub down_acts : (program : Program) (call : Callee) (n : ℕ) (row : PureStmts) → Falls n (acts program call row)
  down_acts program call n PureStmts.no_stmts s h = down_done n [] s h
  down_acts program call n (PureStmts.stmt p a rest) s h =
      down_then n (step p (act program call p a) s) (acts program call rest) (down_step n p (act program call p a) (down_act program call n p a) s h) (down_acts program call n rest)
