-- The statements of a checked body make items that fit.
use Rattle.std.proofs.Common.{◌≡◌, ℕ, zero, suc, ◌+◌, ◌-◌, ◌*◌, ◌≤◌, Bool, true, false, cond, List, [], ◌∷◌, length, Option, Some, None, Result, Ok, Err, refl, sym, subst, arith}
use Rattle.std.specs.Prelude.{ℤ, pos, negsuc, nat_le, map}
use Rattle.std.proofs.lemmas.List.Elements.{All-from_recursion}
use Rattle.sc_base.specs.NameTexts.{IsNameText}
use Rattle.sc_base.specs.declared.Place.{Place}
use Rattle.sc_base.specs.declared.Class.{Class}
use Rattle.sc_base.specs.declared.Class.TheVariants.{Q, C}
use Rattle.sc_base.specs.declared.GateName.{GateName}
use Rattle.sc_gate.specs.declared.gate.Wire.{Wire}
use Rattle.sc_gate.specs.declared.gate.Gate.{Gate}
use Rattle.sc_gate.specs.Gates.{class_of, AreDistinct}
use Rattle.sc_gate.specs.Numbers.{Numbers, both, number_of, with_more, AreThere}
use Rattle.sc_syntax.specs.declared.Name.{Name}
use Rattle.sc_syntax.specs.declared.NameKind.{NameKind}
use Rattle.sc_syntax.specs.declared.NameKind.TheVariants as kind
use Rattle.sc_syntax.specs.declared.NumSort.{NumSort}
use Rattle.sc_syntax.specs.declared.SetOp.{SetOp}
use Rattle.sc_syntax.specs.declared.Callee.TheVariants as called
use Rattle.sc_syntax.specs.Alike.{PureExpr, PureNamed, PureAct, PureHeld, PureStmts}
use Rattle.sc_syntax.specs.Formed.{IsMeasuring}
use Rattle.sc_types.specs.declared.want.Want.TheVariants.{OneWire}
use Rattle.sc_types.specs.Accepted.{Taken, AllFit, IsOperand, IsNew, with_name, AreWires, with_numbers, AreNumbers, names_after, names_held, IsFine, IsFineHeld, AreFine}
use Rattle.sc_types.specs.Accepted as accepted
use Rattle.sc_types.specs.Scopes.{Known, Stack, kinds_in}
use Rattle.sc_types.specs.Statements.{wire_kind}
use Rattle.sc_types.specs.Wires as types
use Rattle.sc_value.specs.Numbers.{is_true}
use Rattle.sc_deck.specs.declared.key.Key.{Key}
use Rattle.sc_deck.specs.Events.{Event, Fresh}
use Rattle.sc_deck.specs.Keys.{HasLength, ArgInRange, param_classes}
use Rattle.sc_deck.specs.Unfolding.{wires_from}
use Rattle.sc_meaning.specs.declared.choice.Choice.{Choice}
use Rattle.sc_meaning.specs.declared.fault.ElabFault.{ElabFault}
use Rattle.sc_meaning.specs.declared.fault.ElabFault.TheVariants.{TooWide}
use Rattle.sc_meaning.specs.Arguments.{args_of, wires_of, wants_of, prepared, gate_wants, called_gate}
use Rattle.sc_meaning.specs.Definitions.{Definition, Program, definition}
use Rattle.sc_meaning.specs.Kept.{FitsBy}
use Rattle.sc_meaning.specs.Outcomes.{Outcome, Done, Stopped, after, then_do, given, leaving}
use Rattle.sc_meaning.specs.Run.{Callee, step_of, step, make_wires, size_of, declare_wires, declare_numbers, set_number, apply, measured, back_in, enter_with, call_named, by_truth, choose, finish, rounds, tested, untested, loop, act, maybe, otherwise, acts}
use Rattle.sc_meaning.specs.States.{State, with_number, with_new_value, with_fresh, with_scope, without_scope, inside}
use Rattle.sc_meaning.specs.Values.{number, whole_number, start_value, new_value, old_value}
use Rattle.sc_meaning.proofs.Distinct.{distinct_span}
use Rattle.sc_meaning.proofs.Fullness.{IsFull, full_wires, full_number, pass_all_full}
use Rattle.sc_meaning.proofs.GateShapes.{IsSure, called_sure, measured_sure}
use Rattle.sc_meaning.proofs.InRange.{Ranged, empty_ranged, declare_ranged, set_ranged, drop_ranged, start_ranged, new_ranged}
use Rattle.sc_meaning.proofs.KeyCounts.{both_more, le_is}
use Rattle.sc_meaning.proofs.MoveActs.{names_behind, AreTaken, gate_facts, prepares, prepared_enters, many_made, one_made, advance_keeps}
use Rattle.sc_meaning.proofs.MoveTypes.{gates_mean, operand_held, operand_one}
use Rattle.sc_meaning.proofs.Parts.{IsSoundKey, Part, part_more, part_none, part_then, part_fresh, part_gate}
use Rattle.sc_meaning.proofs.Places.{ahead_more, there_fresh}
use Rattle.sc_meaning.proofs.Scoped.{AllHeld, with_held, held_later, drop_held, Suits, SuitsBy, suits_scope, suits_left, suits_wires, suits_number, suits_weaker, IsWireOf}
use Rattle.sc_meaning.proofs.Spanned.{length_made}
use Rattle.sc_meaning.proofs.Written.{OptionWritten, NamedWritten, ExprsWritten, ActWritten, HeldWritten, StmtsWritten}

-- the items that a body may still make: 64 for each step, and one for each wire
abbrev pub room_of : State → ℕ
room_of s = 64 * s.steps + (65536 - s.width)

-- the state of a body in local numbers, where its names stand for what this stack says
pub record Good (stack : Stack) (s : State) : Type 0 where
  pub held : AllHeld s.next s.wires
  pub suits : SuitsBy IsFull stack s.wires
  pub ranged : Ranged s.numbers
  pub width : s.width ≡ both s.next
  pub narrow : s.width ≤ 65536

pub good_classes : (stack : Stack) (s : State) → Good stack s → Suits stack s.wires
good_classes stack s g = suits_weaker IsFull IsWireOf full_wires stack s.wires g.suits

-- a call that may be made: what is known of its key and of its wires
pub record IsMade (program : Program) (own : Numbers) (key : Key) (ws : List Wire) : Type 0 where
  pub sound : IsSoundKey key
  pub fits : FitsBy (definition program key.name) key.args
  pub distinct : AreDistinct ws
  pub there : AreThere own ws
  pub classes : map class_of ws ≡ param_classes key
  pub narrow : both own ≤ 65536

module _ (program : Program) (choice : Choice) where
  -- where it is done, it makes items that fit
  abbrev pub GoesBy : Stack → Numbers → ℕ → Outcome State → Type 0
  GoesBy stack n room (Done x t) = Good stack t × Part choice x n t.next room (room_of t)
  GoesBy stack n room (Stopped x f) = Unit {0}

  pub record Goes (stack : Stack) (n : Numbers) (room : ℕ) (o : Outcome State) : Type 0 where
    pub holds : GoesBy stack n room o

  -- from each state of a stack to one of another, where so many items are made beyond the room of the state
  abbrev pub AllGo : ℕ → Stack → Stack → (State → Outcome State) → Type 0
  AllGo more before behind go = (s : State) (room : ℕ) → room_of s + more ≤ room → Good before s → Goes behind s.next room (go s)

  abbrev pub CallBy : Outcome Numbers → Numbers → Numbers → Type 0
  CallBy (Done x k) next own = (k ≡ next) × ((room left : ℕ) → 1 + left ≤ room → Part choice x own own room left)
  CallBy (Stopped x f) next own = Unit {0}

  -- a call leaves its caller's numbers, and makes an item that fits
  abbrev pub CallsGo : Callee → Type 0
  CallsGo call = (key : Key) (ws : List Wire) (next own : Numbers) → IsMade program own key ws → CallBy (call key ws next) next own

  -- ---- parts one after another

  go_done : (stack : Stack) (s : State) (room : ℕ) → room_of s ≤ room → Good stack s → Goes stack s.next room (Done [] s)
  go_done stack s room h g = record { holds = (g, part_more choice [] s.next s.next (room_of s) room (room_of s) h (part_none choice s.next (room_of s))) }

  go_after : (stack : Stack) (x : List Event) (n m : Numbers) (room mid : ℕ) (o : Outcome State) → Part choice x n m room mid → GoesBy stack m mid o → GoesBy stack n room (after x o)
  go_after stack x n m room mid (Done y t) a (g, b) = (g, part_then choice x y n m t.next room mid (room_of t) a b)
  go_after stack x n m room mid (Stopped y f) a b = tt

  go_then_by : (mid behind : Stack) (n : Numbers) (room : ℕ) (o : Outcome State) (go : State → Outcome State) → GoesBy mid n room o → AllGo 0 mid behind go → Goes behind n room (then_do o go)
  go_then_by mid behind n room (Done x t) go (g, a) h =
      record { holds = go_after behind x n t.next room (room_of t) (go t) a (h t (room_of t) (omega arith) g).holds }
  go_then_by mid behind n room (Stopped x f) go a h = record { holds = tt }

  go_then : (mid behind : Stack) (n : Numbers) (room : ℕ) (o : Outcome State) (go : State → Outcome State) → Goes mid n room o → AllGo 0 mid behind go → Goes behind n room (then_do o go)
  go_then mid behind n room o go k h = go_then_by mid behind n room o go k.holds h

  go_given : {A : Type 0} (stack : Stack) (n : Numbers) (room : ℕ) (r : Result A ElabFault) (go : A → Outcome State) → ((a : A) → r ≡ Ok a → Goes stack n room (go a)) → Goes stack n room (given r go)
  go_given stack n room (Ok a) go h = h a refl
  go_given stack n room (Err f) go h = record { holds = tt }

  go_more : (before behind : Stack) (go : State → Outcome State) → AllGo 0 before behind go → AllGo 64 before behind go
  go_more before behind go h s room r g = h s room (omega arith) g

  go_step_of : (k : ℕ) (at : Place) (before behind : Stack) (go : State → Outcome State) → AllGo 64 before behind go → (s : State) (room : ℕ) → s.steps ≡ k → room_of s ≤ room → Good before s
      → Goes behind s.next room (step_of k at go s)
  go_step_of zero at before behind go h s room is r g = record { holds = tt }
  go_step_of (suc k) at before behind go h s room is r g =
      h (record s { steps = k }) room (omega arith) (record { held = g.held; suits = g.suits; ranged = g.ranged; width = g.width; narrow = g.narrow })

  -- a step makes room for what an act makes
  go_step : (at : Place) (before behind : Stack) (go : State → Outcome State) → AllGo 64 before behind go → AllGo 0 before behind (step at go)
  go_step at before behind go h s room r g = go_step_of s.steps at before behind go h s room refl (omega arith) g

  left_by : (here : List Known) (outer : Stack) (n : Numbers) (room : ℕ) (o : Outcome State) → GoesBy (here ∷ outer) n room o → GoesBy outer n room (leaving without_scope o)
  left_by here outer n room (Done x t) (g, a) =
      (record { held = drop_held t.next t.wires g.held; suits = suits_left IsFull here outer t.wires g.suits; ranged = drop_ranged t.numbers g.ranged; width = g.width; narrow = g.narrow }, a)
  left_by here outer n room (Stopped x f) a = tt

  go_inside : (here : List Known) (outer : Stack) (go : State → Outcome State) → AllGo 0 ([] ∷ outer) (here ∷ outer) go → AllGo 0 outer outer (inside go)
  go_inside here outer go h s room r g = record {
    holds = left_by here outer s.next room (go (with_scope s))
        (h (with_scope s) room r (record { held = (tt, g.held); suits = suits_scope IsFull outer s.wires g.suits; ranged = (empty_ranged, g.ranged); width = g.width; narrow = g.narrow })).holds;
  }

  go_truth : (b : Bool) (stack : Stack) (first second : State → Outcome State) → AllGo 0 stack stack first → AllGo 0 stack stack second → AllGo 0 stack stack (by_truth b first second)
  go_truth true stack first second h k s room r g = h s room r g
  go_truth false stack first second h k s room r g = k s room r g

  go_choose : (e : PureExpr) (stack : Stack) (first second : State → Outcome State) → AllGo 0 stack stack first → AllGo 0 stack stack second → AllGo 0 stack stack (choose e first second)
  go_choose e stack first second h k s room r g =
      go_given stack s.next room (number s.numbers e) (λ x. by_truth (is_true x) first second s) (λ x is. go_truth (is_true x) stack first second h k s room r g)

  -- ---- loops

  go_rounds : (k : ℕ) (at : Place) (stack : Stack) (round : (State → Outcome State) → State → Outcome State)
      → ((again : State → Outcome State) → AllGo 0 stack stack again → AllGo 0 stack stack (round again)) → AllGo 0 stack stack (rounds k at round)
  go_rounds zero at stack round h s room r g = record { holds = tt }
  go_rounds (suc k) at stack round h s room r g = h (rounds k at round) (go_rounds k at stack round h) s room r g

  go_finish : (stack : Stack) → AllGo 0 stack stack finish
  go_finish stack s room r g = go_done stack s room (omega arith) g

  go_loop : (at : Place) (e : Option PureExpr) (q : Place) (stack : Stack) (body : State → Outcome State) → AllGo 0 stack stack body → AllGo 0 stack stack (loop at e q body)
  go_loop at (Some e) q stack body h s room r g =
      go_rounds s.steps at stack (tested at e body)
      (λ again k. go_step at stack stack (choose e (λ s. then_do (body s) again) finish)
      (go_more stack stack (choose e (λ s. then_do (body s) again) finish)
      (go_choose e stack (λ s. then_do (body s) again) finish (λ s room r g. go_then stack stack s.next room (body s) again (h s room r g) k) (go_finish stack)))) s room r g
  go_loop at None q stack body h s room r g =
      go_rounds s.steps q stack (untested body) (λ again k s room r g. go_then stack stack s.next room (body s) again (h s room r g) k) s room r g

  -- ---- declarations

  made_if : (b : Bool) (c : Class) (name : Name) (k : ℕ) (kd : NameKind) (here : List Known) (outer : Stack) (s : State) (room : ℕ) → nat_le (s.width + suc k) 65536 ≡ b → room_of s ≤ room
      → Good (here ∷ outer) s → IsNew here name → ((first : ℕ) → IsFull kd (wires_from c first (suc k)))
      → Goes (with_name here name kd ∷ outer) s.next room (cond b (Done (Fresh c (suc k) ∷ []) (with_fresh c name.text (suc k) s)) (Stopped [] (TooWide name.place)))
  made_if false c name k kd here outer s room fits r g new is = record { holds = tt }
  made_if true c name k kd here outer s room fits r g new is =
      let m : ℕ = suc k in
      let own : List Wire = wires_from c (number_of c s.next) m in
      let small : s.width + suc k ≤ 65536 = le_is (s.width + suc k) 65536 fits in
      let more = both_more c m s.next in
      let width = g.width in
      record {
        holds = (
          record {
            held = with_held (with_more c m s.next) s.wires name.text own (held_later s.next (with_more c m s.next) (ahead_more c m s.next) s.wires g.held)
                (there_fresh c m s.next, distinct_span c (number_of c s.next) m);
            suits = suits_wires IsFull here outer s.wires name kd own g.suits new (is (number_of c s.next));
            ranged = g.ranged;
            width = omega arith;
            narrow = small;
          },
          part_fresh choice c m s.next room (64 * s.steps + (65536 - (s.width + m))) (omega arith) (omega arith),
        );
      }

  go_make : (c : Class) (name : Name) (z : ℤ) (kd : NameKind) (here : List Known) (outer : Stack) (s : State) (room : ℕ) → room_of s ≤ room → Good (here ∷ outer) s → IsNew here name
      → ((k first : ℕ) → z ≡ pos (suc k) → IsFull kd (wires_from c first (suc k))) → Goes (with_name here name kd ∷ outer) s.next room (make_wires c name z s)
  go_make c name (pos zero) kd here outer s room r g new is = record { holds = tt }
  go_make c name (pos (suc k)) kd here outer s room r g new is = made_if (nat_le (s.width + suc k) 65536) c name k kd here outer s room refl r g new (λ first. is k first refl)
  go_make c name (negsuc k) kd here outer s room r g new is = record { holds = tt }

  many_full : (c : Class) (first k : ℕ) → IsFull (kind.Many c) (wires_from c first (suc k))
  many_full c first k = (many_made c first (suc k), (let l = length_made c first (suc k) in omega arith))

  go_decl : (c : Class) (name : Name) (value : Option PureExpr) (here : List Known) (outer : Stack) (s : State) (room : ℕ) → room_of s ≤ room → Good (here ∷ outer) s → IsNew here name
      → Goes (with_name here name (wire_kind c value) ∷ outer) s.next room (given (size_of s.numbers value) (λ z. make_wires c name z s))
  go_decl c name None here outer s room r g new = go_make c name (pos 1) (kind.One c) here outer s room r g new (one_made c)
  go_decl c name (Some e) here outer s room r g new =
      go_given (with_name here name (kind.Many c) ∷ outer) s.next room (whole_number s.numbers e) (λ z. make_wires c name z s)
      (λ z is. go_make c name z (kind.Many c) here outer s room r g new (λ k first e. many_full c first k))

  go_wires : (c : Class) (outer : Stack) (here : List Known) (ds : List PureNamed) → AreWires c outer here ds → AllGo 0 (here ∷ outer) (accepted.with_wires c here ds ∷ outer) (declare_wires c ds)
  go_wires c outer here [] fit s room r g = go_done (here ∷ outer) s room (omega arith) g
  go_wires c outer here (d ∷ ds) fit s room r g =
      let mid : List Known = with_name here d.name (wire_kind c d.value) in
      go_then (mid ∷ outer) (accepted.with_wires c mid ds ∷ outer) s.next room (given (size_of s.numbers d.value) (λ z. make_wires c d.name z s)) (declare_wires c ds)
      (go_decl c d.name d.value here outer s room (omega arith) g fit.1) (go_wires c outer mid ds fit.2)

  go_numbers : (sort : NumSort) (outer : Stack) (here : List Known) (ds : List PureNamed) → AreNumbers sort outer here ds → NamedWritten ds
      → AllGo 0 (here ∷ outer) (with_numbers sort here ds ∷ outer) (declare_numbers sort ds)
  go_numbers sort outer here [] fit w s room r g = go_done (here ∷ outer) s room (omega arith) g
  go_numbers sort outer here (d ∷ ds) fit w s room r g =
      let mid : List Known = with_name here d.name (kind.Number sort) in
      go_given (with_numbers sort mid ds ∷ outer) s.next room (start_value s.numbers sort d.value) (λ x. declare_numbers sort ds (with_number d.name.text x s))
      (λ x is. go_numbers sort outer mid ds fit.2 w.1 (with_number d.name.text x s) room r
      (record {
        held = g.held;
        suits = suits_number IsFull full_number here outer s.wires d.name sort g.suits fit.1;
        ranged = declare_ranged s.numbers d.name.text x g.ranged (start_ranged s.numbers sort d.value x g.ranged w.0 is);
        width = g.width;
        narrow = g.narrow;
      }))

  -- ---- settings, gates and calls

  go_set : (stack : Stack) (name : Name) (o : SetOp) (mark : Place) (e : Option PureExpr) → OptionWritten e → AllGo 0 stack stack (set_number name o mark e)
  go_set stack name o mark e w s room r g =
      go_given stack s.next room (new_value s.numbers (old_value s.numbers name.text) o mark e) (λ x. Done [] (with_new_value name.text x s))
      (λ x is. go_done stack (with_new_value name.text x s) room (omega arith) (record {
        held = g.held;
        suits = g.suits;
        ranged = set_ranged s.numbers name.text x g.ranged (new_ranged s.numbers (old_value s.numbers name.text) o mark e x g.ranged w is);
        width = g.width;
        narrow = g.narrow;
      }))

  go_apply : (stack : Stack) (gate : Gate) (s : State) (room : ℕ) → room_of s + 64 ≤ room → Good stack s → IsSure s.next gate → Goes stack s.next room (apply s gate)
  go_apply stack gate s room r g sure = record { holds = (g, part_gate choice gate s.next room (room_of s) sure (omega arith)) }

  go_gate : (stack : Stack) (name : GateName) (args : List PureExpr) → AllFit (kinds_in stack) (types.gate_wants name (length args)) args → ExprsWritten args
      → AllGo 64 stack stack (λ s. given (called_gate s name args) (apply s))
  go_gate stack name args fit w s room r g =
      let classes = good_classes stack s g in
      go_given stack s.next room (called_gate s name args) (apply s)
      (λ gate is. go_apply stack gate s room r g
      (called_sure s.next s name args gate is
      (λ ps e. (
        gate_facts stack s s.next classes g.held name args fit ps e,
        (pass_all_full stack s g.suits g.ranged (gate_wants name (length args)) args ps (gates_mean name (length args) (kinds_in stack) args fit) w e).1,
      ))))

  go_measure : (stack : Stack) (name : GateName) (into from : PureNamed) → IsMeasuring name → IsOperand (kinds_in stack) (OneWire C) into → IsOperand (kinds_in stack) (OneWire Q) from
      → AllGo 64 stack stack (λ s. given (measured s name into from) (apply s))
  go_measure stack name into from m a b s room r g =
      let classes = good_classes stack s g in
      go_given stack s.next room (measured s name into from) (apply s)
      (λ gate is. go_apply stack gate s room r g
      (measured_sure s.next s name into from gate m is
      (λ ws e. (operand_one stack s s.next classes g.held C into ws a e, (operand_held stack s s.next classes g.held into.name.text into.name.place into.value ws e).0))
      (λ ws e. (operand_one stack s s.next classes g.held Q from ws b e, (operand_held stack s s.next classes g.held from.name.text from.name.place from.value ws e).0))))

  back_by : (stack : Stack) (s : State) (room : ℕ) (o : Outcome Numbers) → room_of s + 64 ≤ room → Good stack s → CallBy o s.next s.next → GoesBy stack s.next room (leaving (back_in s) o)
  back_by stack s room (Done x k) r g (e, part) =
      subst (λ (m : Numbers). Good stack (back_in s m) × Part choice x s.next m room (room_of s)) (sym e) (g, part room (room_of s) (omega arith))
  back_by stack s room (Stopped x f) r g h = tt

  module _ (taken : Taken) (takes : AreTaken program taken) (named : (name : List ℕ) (d : Definition) → definition program name ≡ Some d → IsNameText name) (call : Callee) (calls : CallsGo call) where
    go_call : (t : List ℕ) (us : _) (args : List PureExpr) (stack : Stack) → taken t ≡ Some us → AllFit (kinds_in stack) us args → ExprsWritten args
        → (o : Option Definition) → definition program t ≡ o → AllGo 64 stack stack (call_named call t o args)
    go_call t us args stack want fit w None is s room r g = go_done stack s room (omega arith) g
    go_call t us args stack want fit w (Some d) is s room r g =
        let wanted = takes t d us is want (kinds_in stack) args fit in
        go_given stack s.next room (prepared s d args) (enter_with call t s)
        (λ ps e.
        let enters = prepared_enters program stack s t d args (good_classes stack s g) g.held is wanted ps e in
        let full = pass_all_full stack s g.suits g.ranged (wants_of d) args ps wanted w (prepares s d args ps e).passes in
        let key : Key = record { name = t; args = args_of ps } in
        record {
          holds = back_by stack s room (call key (wires_of ps) s.next) r g
              (calls key (wires_of ps) s.next s.next (record {
                sound = record { name = named t d is; lengths = All-from_recursion HasLength (args_of ps) full.0; args = All-from_recursion ArgInRange (args_of ps) full.1 };
                fits = enters.fits;
                distinct = enters.distinct;
                there = enters.there;
                classes = enters.classes;
                narrow = (let w = g.width in let n = g.narrow in omega arith);
              }));
        })

    -- ---- statements

    -- a body in a scope of its own
    go_body : (outer : Stack) (q : Place) (a : PureAct) → AllGo 64 ([] ∷ outer) (names_after [] a ∷ outer) (act program call q a) → AllGo 0 outer outer (inside (step q (act program call q a)))
    go_body outer q a h s room r g =
        go_inside (names_after [] a) outer (step q (act program call q a)) (go_step q ([] ∷ outer) (names_after [] a ∷ outer) (act program call q a) h) s room r g

    mutual
      go_act : (outer : Stack) (here : List Known) (at : Place) (a : PureAct) → IsFine taken outer here a → ActWritten a → AllGo 64 (here ∷ outer) (names_after here a ∷ outer) (act program call at a)
      go_act outer here at (PureAct.wires c ds) fit w s room r g =
          go_more (here ∷ outer) (accepted.with_wires c here ds ∷ outer) (declare_wires c ds) (go_wires c outer here ds fit) s room r g
      go_act outer here at (PureAct.numbers sort ds) fit w s room r g =
          go_more (here ∷ outer) (with_numbers sort here ds ∷ outer) (declare_numbers sort ds) (go_numbers sort outer here ds fit w) s room r g
      go_act outer here at (PureAct.set name o mark e) fit w s room r g =
          go_more (here ∷ outer) (here ∷ outer) (set_number name o mark e) (go_set (here ∷ outer) name o mark e w) s room r g
      go_act outer here at (PureAct.measure name into from) fit w s room r g = go_measure (here ∷ outer) name into from fit.0 fit.1 fit.2 s room r g
      go_act outer here at (PureAct.call (called.Gate name) place args) fit w s room r g = go_gate (here ∷ outer) name args fit w s room r g
      go_act outer here at (PureAct.call (called.Named t) place args) fit w s room r g =
          go_call t fit.0 args (here ∷ outer) fit.1 fit.2 w (definition program t) refl s room r g
      go_act outer here at (PureAct.if_else e q a other) fit w s room r g =
          go_choose e (here ∷ outer) (inside (step q (act program call q a))) (otherwise program call other)
          (go_body (here ∷ outer) q a (go_act (here ∷ outer) [] q a fit.1 w.0)) (go_otherwise (here ∷ outer) other fit.2 w.1) s room (omega arith) g
      go_act outer here at (PureAct.while_loop e q a) fit w s room r g =
          go_loop at (Some e) q (here ∷ outer) (inside (step q (act program call q a))) (go_body (here ∷ outer) q a (go_act (here ∷ outer) [] q a fit.1 w)) s room (omega arith) g
      go_act outer here at (PureAct.for_loop start test advance q a) fit w s room r g =
          let own : List Known = names_held [] start in
          let mid : Stack = own ∷ here ∷ outer in
          let one : State → Outcome State = λ s. then_do (inside (step q (act program call q a)) s) (maybe program call advance) in
          let further : AllGo 0 mid mid (maybe program call advance) =
          subst (λ (k : List Known). AllGo 0 mid (k ∷ here ∷ outer) (maybe program call advance)) (advance_keeps own advance fit.2) (go_maybe (here ∷ outer) own advance fit.3 w.1) in
          go_inside own (here ∷ outer) (λ s. then_do (maybe program call start s) (loop at test q one))
          (λ s room r g. go_then mid mid s.next room (maybe program call start s) (loop at test q one)
          (go_maybe (here ∷ outer) [] start fit.0 w.0 s room r g)
          (go_loop at test q mid one
          (λ s room r g. go_then mid mid s.next room (inside (step q (act program call q a)) s) (maybe program call advance)
          (go_body mid q a (go_act mid [] q a fit.4 w.2) s room r g) further))) s room (omega arith) g
      go_act outer here at (PureAct.block row) fit w s room r g =
          go_inside (names_behind [] row) (here ∷ outer) (acts program call row) (go_acts (here ∷ outer) [] row fit w) s room (omega arith) g
      go_act outer here at PureAct.empty fit w s room r g = go_done (here ∷ outer) s room (omega arith) g

      go_maybe : (outer : Stack) (here : List Known) (held : PureHeld) → IsFineHeld taken outer here held → HeldWritten held
          → AllGo 0 (here ∷ outer) (names_held here held ∷ outer) (maybe program call held)
      go_maybe outer here PureHeld.absent fit w s room r g = go_done (here ∷ outer) s room (omega arith) g
      go_maybe outer here (PureHeld.held q a) fit w s room r g =
          go_step q (here ∷ outer) (names_after here a ∷ outer) (act program call q a) (go_act outer here q a fit w) s room r g

      go_otherwise : (outer : Stack) (held : PureHeld) → IsFineHeld taken outer [] held → HeldWritten held → AllGo 0 outer outer (otherwise program call held)
      go_otherwise outer PureHeld.absent fit w s room r g = go_done outer s room (omega arith) g
      go_otherwise outer (PureHeld.held q a) fit w s room r g = go_body outer q a (go_act outer [] q a fit w) s room r g

      -- THE STATEMENTS of a body
      pub go_acts : (outer : Stack) (here : List Known) (row : PureStmts) → AreFine taken outer here row → StmtsWritten row
          → AllGo 0 (here ∷ outer) (names_behind here row ∷ outer) (acts program call row)
      go_acts outer here PureStmts.no_stmts fit w s room r g = go_done (here ∷ outer) s room (omega arith) g
      go_acts outer here (PureStmts.stmt q a rest) fit w s room r g =
          go_then (names_after here a ∷ outer) (names_behind (names_after here a) rest ∷ outer) s.next room (step q (act program call q a) s) (acts program call rest)
          (go_step q (here ∷ outer) (names_after here a ∷ outer) (act program call q a) (go_act outer here q a fit.0 w.0) s room r g)
          (go_acts outer (names_after here a) rest fit.1 w.1)
