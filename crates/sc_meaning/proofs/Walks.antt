-- Two runs of a statement that differ in what calls do alone: what relates their calls relates them.
use Rattle.std.proofs.Common.{ℕ, zero, suc, Bool, true, false, List, [], Option, Some, None, Result, Ok, Err}
use Rattle.sc_base.specs.declared.Place.{Place}
use Rattle.sc_gate.specs.declared.gate.Wire.{Wire}
use Rattle.sc_gate.specs.Numbers.{Numbers}
use Rattle.sc_syntax.specs.declared.Callee.TheVariants as called
use Rattle.sc_syntax.specs.Alike.{PureExpr, PureAct, PureHeld, PureStmts}
use Rattle.sc_value.specs.Numbers.{is_true}
use Rattle.sc_deck.specs.declared.key.Key.{Key}
use Rattle.sc_meaning.specs.declared.fault.ElabFault.{ElabFault}
use Rattle.sc_meaning.specs.declared.fault.ElabFault.TheVariants.{TooLong}
use Rattle.sc_meaning.specs.Arguments.{args_of, wires_of, prepared}
use Rattle.sc_meaning.specs.Definitions.{Definition, Program, definition}
use Rattle.sc_meaning.specs.Outcomes.{Outcome, Done, Stopped, then_do, given, leaving}
use Rattle.sc_meaning.specs.Run.{Callee, step_of, step, back_in, enter_with, call_named, by_truth, choose, finish, rounds, tested, untested, loop, act, maybe, otherwise, acts}
use Rattle.sc_meaning.specs.States.{State, with_scope, without_scope, inside}
use Rattle.sc_meaning.specs.Values.{number}

-- the relation holds of one run and itself, and of parts one after another
pub record Relates (R : Outcome State → Outcome State → Type 0) : Type 0 where
  pub same : (o : Outcome State) → R o o
  pub next : (o o' : Outcome State) (go go' : State → Outcome State) → R o o' → ((s : State) → R (go s) (go' s)) → R (then_do o go) (then_do o' go')
  pub left : (f : State → State) (o o' : Outcome State) → R o o' → R (leaving f o) (leaving f o')

module _ (R : Outcome State → Outcome State → Type 0) (w : Relates R) where
  abbrev AllRelate : (State → Outcome State) → (State → Outcome State) → Type 0
  AllRelate go go' = (s : State) → R (go s) (go' s)

  walk_given : {A : Type 0} (r : Result A ElabFault) (go go' : A → Outcome State) → ((a : A) → R (go a) (go' a)) → R (given r go) (given r go')
  walk_given (Ok a) go go' h = h a
  walk_given (Err f) go go' h = w.same (Stopped [] f)

  walk_step_of : (n : ℕ) (at : Place) (go go' : State → Outcome State) → AllRelate go go' → AllRelate (step_of n at go) (step_of n at go')
  walk_step_of zero at go go' h s = w.same (Stopped [] (TooLong at))
  walk_step_of (suc n) at go go' h s = h (record s { steps = n })

  walk_step : (at : Place) (go go' : State → Outcome State) → AllRelate go go' → AllRelate (step at go) (step at go')
  walk_step at go go' h s = walk_step_of s.steps at go go' h s

  walk_inside : (go go' : State → Outcome State) → AllRelate go go' → AllRelate (inside go) (inside go')
  walk_inside go go' h s = w.left without_scope (go (with_scope s)) (go' (with_scope s)) (h (with_scope s))

  walk_truth : (b : Bool) (first first' second second' : State → Outcome State) → AllRelate first first' → AllRelate second second' → AllRelate (by_truth b first second) (by_truth b first' second')
  walk_truth true first first' second second' h k s = h s
  walk_truth false first first' second second' h k s = k s

  walk_choose : (e : PureExpr) (first first' second second' : State → Outcome State) → AllRelate first first' → AllRelate second second' → AllRelate (choose e first second) (choose e first' second')
  walk_choose e first first' second second' h k s =
      walk_given (number s.numbers e) (λ x. by_truth (is_true x) first second s) (λ x. by_truth (is_true x) first' second' s)
      (λ x. walk_truth (is_true x) first first' second second' h k s)

  -- ---- loops

  walk_rounds : (n : ℕ) (at : Place) (round round' : (State → Outcome State) → State → Outcome State)
      → ((again again' : State → Outcome State) → AllRelate again again' → AllRelate (round again) (round' again')) → AllRelate (rounds n at round) (rounds n at round')
  walk_rounds zero at round round' h s = w.same (Stopped [] (TooLong at))
  walk_rounds (suc n) at round round' h s = h (rounds n at round) (rounds n at round') (walk_rounds n at round round' h) s

  walk_loop : (at : Place) (e : Option PureExpr) (p : Place) (body body' : State → Outcome State) → AllRelate body body' → AllRelate (loop at e p body) (loop at e p body')
  walk_loop at (Some e) p body body' h s =
      walk_rounds s.steps at (tested at e body) (tested at e body')
      (λ again again' k. walk_step at (choose e (λ s. then_do (body s) again) finish) (choose e (λ s. then_do (body' s) again') finish)
      (walk_choose e (λ s. then_do (body s) again) (λ s. then_do (body' s) again') finish finish
      (λ s. w.next (body s) (body' s) again again' (h s) k) (λ s. w.same (finish s)))) s
  walk_loop at None p body body' h s =
      walk_rounds s.steps p (untested body) (untested body') (λ again again' k s. w.next (body s) (body' s) again again' (h s) k) s

  -- ---- statements

  module _ (program : Program) (call call' : Callee)
      (calls : (key : Key) (wires : List Wire) (next : Numbers) (s : State) → R (leaving (back_in s) (call key wires next)) (leaving (back_in s) (call' key wires next))) where
    walk_call : (name : List ℕ) (d : Option Definition) (args : List PureExpr) → AllRelate (call_named call name d args) (call_named call' name d args)
    walk_call name None args s = w.same (Done [] s)
    walk_call name (Some d) args s =
        walk_given (prepared s d args) (enter_with call name s) (enter_with call' name s)
        (λ ps. calls (record { name = name; args = args_of ps }) (wires_of ps) s.next s)

    -- a body in a scope of its own
    walk_body : (p : Place) (a : PureAct) → AllRelate (act program call p a) (act program call' p a) → AllRelate (inside (step p (act program call p a))) (inside (step p (act program call' p a)))
    walk_body p a h s = walk_inside (step p (act program call p a)) (step p (act program call' p a)) (walk_step p (act program call p a) (act program call' p a) h) s

    mutual
      walk_act : (at : Place) (a : PureAct) → AllRelate (act program call at a) (act program call' at a)
      walk_act at (PureAct.wires c ds) s = w.same (act program call at (PureAct.wires c ds) s)
      walk_act at (PureAct.numbers sort ds) s = w.same (act program call at (PureAct.numbers sort ds) s)
      walk_act at (PureAct.set name o mark e) s = w.same (act program call at (PureAct.set name o mark e) s)
      walk_act at (PureAct.measure g into from) s = w.same (act program call at (PureAct.measure g into from) s)
      walk_act at (PureAct.call (called.Gate g) place args) s = w.same (act program call at (PureAct.call (called.Gate g) place args) s)
      walk_act at (PureAct.call (called.Named t) place args) s = walk_call t (definition program t) args s
      walk_act at (PureAct.if_else e p a other) s =
          walk_choose e (inside (step p (act program call p a))) (inside (step p (act program call' p a))) (otherwise program call other) (otherwise program call' other)
          (walk_body p a (walk_act p a)) (walk_otherwise other) s
      walk_act at (PureAct.while_loop e p a) s =
          walk_loop at (Some e) p (inside (step p (act program call p a))) (inside (step p (act program call' p a))) (walk_body p a (walk_act p a)) s
      walk_act at (PureAct.for_loop start test advance p a) s =
          let one : State → Outcome State = λ s. then_do (inside (step p (act program call p a)) s) (maybe program call advance) in
          let one' : State → Outcome State = λ s. then_do (inside (step p (act program call' p a)) s) (maybe program call' advance) in
          walk_inside (λ s. then_do (maybe program call start s) (loop at test p one)) (λ s. then_do (maybe program call' start s) (loop at test p one'))
          (λ s. w.next (maybe program call start s) (maybe program call' start s) (loop at test p one) (loop at test p one') (walk_maybe start s)
          (walk_loop at test p one one'
          (λ s. w.next (inside (step p (act program call p a)) s) (inside (step p (act program call' p a)) s) (maybe program call advance) (maybe program call' advance)
          (walk_body p a (walk_act p a) s) (walk_maybe advance)))) s
      walk_act at (PureAct.block row) s = walk_inside (acts program call row) (acts program call' row) (walk_acts row) s
      walk_act at PureAct.empty s = w.same (act program call at PureAct.empty s)

      walk_maybe : (held : PureHeld) → AllRelate (maybe program call held) (maybe program call' held)
      walk_maybe PureHeld.absent s = w.same (Done [] s)
      walk_maybe (PureHeld.held p a) s = walk_step p (act program call p a) (act program call' p a) (walk_act p a) s

      walk_otherwise : (held : PureHeld) → AllRelate (otherwise program call held) (otherwise program call' held)
      walk_otherwise PureHeld.absent s = w.same (Done [] s)
      walk_otherwise (PureHeld.held p a) s = walk_body p a (walk_act p a) s

      pub walk_acts : (row : PureStmts) → AllRelate (acts program call row) (acts program call' row)
      walk_acts PureStmts.no_stmts s = w.same (Done [] s)
      walk_acts (PureStmts.stmt p a rest) s =
          w.next (step p (act program call p a) s) (step p (act program call' p a) s) (acts program call rest) (acts program call' rest)
          (walk_step p (act program call p a) (act program call' p a) (walk_act p a) s) (walk_acts rest)
