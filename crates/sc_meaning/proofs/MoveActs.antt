-- A statement in local numbers and in the whole run.
use Rattle.std.proofs.Common.{◌≡◌, ℕ, zero, suc, ◌+◌, Bool, true, false, cond, List, [], ◌∷◌, ◌++◌, map, length, Option, Some, None, Result, Ok, Err, refl, sym, ap, ◌∙◌, subst, arith}
use Rattle.std.specs.Prelude.{ℤ, pos, negsuc, nat_le, nat_eq, slice_get, option_to_list}
use Rattle.sc_base.specs.declared.Place.{Place}
use Rattle.sc_base.specs.declared.Class.{Class}
use Rattle.sc_base.specs.declared.Class.TheVariants.{Q, C}
use Rattle.sc_base.specs.declared.GateName.{GateName}
use Rattle.sc_base.specs.declared.GateName.TheVariants as gate
use Rattle.sc_gate.specs.declared.gate.Wire.{Wire}
use Rattle.sc_gate.specs.declared.gate.Kind.{Kind}
use Rattle.sc_gate.specs.declared.gate.Gate.{Gate}
use Rattle.sc_gate.specs.Gates.{class_of, operands, AreDistinct}
use Rattle.sc_gate.specs.Numbers.{Numbers, number_of, with_more, AreThere}
use Rattle.sc_gate.specs.Renaming.{rename_gate}
use Rattle.sc_syntax.specs.declared.Name.{Name}
use Rattle.sc_syntax.specs.declared.NameKind.{NameKind}
use Rattle.sc_syntax.specs.declared.NameKind.TheVariants as kind
use Rattle.sc_syntax.specs.declared.NumSort.{NumSort}
use Rattle.sc_syntax.specs.declared.SetOp.{SetOp}
use Rattle.sc_syntax.specs.declared.Callee.TheVariants as called
use Rattle.sc_syntax.specs.Alike.{PureExpr, PureNamed, PureAct, PureHeld, PureStmts}
use Rattle.sc_types.specs.declared.want.Want.TheVariants.{OneWire}
use Rattle.sc_types.specs.Accepted.{Taken, AllFit, IsOperand, IsNew, with_name, AreWires, with_numbers, AreNumbers, names_after, names_held, IsAdvance, IsFine, IsFineHeld, AreFine}
use Rattle.sc_types.specs.Accepted as accepted
use Rattle.sc_types.specs.Scopes.{Known, Stack, kinds_in}
use Rattle.sc_types.specs.Statements.{wire_kind}
use Rattle.sc_types.specs.Wires as types
use Rattle.sc_value.specs.Numbers.{is_true}
use Rattle.sc_deck.specs.declared.key.Key.{Key}
use Rattle.sc_deck.specs.Events.{Event, Fresh}
use Rattle.sc_deck.specs.Keys.{arg_classes, param_classes}
use Rattle.sc_deck.specs.Unfolding.{placed, wires_from}
use Rattle.sc_deck.proofs.WireLaws.{after_events-grow}
use Rattle.sc_meaning.specs.declared.choice.Choice.{Choice}
use Rattle.sc_meaning.specs.declared.fault.ElabFault.{ElabFault}
use Rattle.sc_meaning.specs.declared.fault.ElabFault.TheVariants.{TooLong, TooWide, BadSize}
use Rattle.sc_meaning.specs.declared.want.Want.{Want}
use Rattle.sc_meaning.specs.declared.want.Want.TheVariants as want
use Rattle.sc_meaning.specs.Arguments.{Passed, args_of, wires_of, pass_all, lengths_of, of_lengths, distinct_after, wants_of, prepared, gate_wants, start_wants, kind_of, gate_on, called_gate}
use Rattle.sc_meaning.specs.Definitions.{Definition, of_module, of_function, Program, definition}
use Rattle.sc_meaning.specs.Instances.{entered_keys}
use Rattle.sc_meaning.specs.Outcomes.{Outcome, Done, Stopped, after, then_do, given, leaving}
use Rattle.sc_meaning.specs.Run.{Callee, step_of, step, make_wires, size_of, declare_wires, declare_numbers, set_number, apply, measured, back_in, enter_with, call_named, by_truth, choose, finish, rounds, tested, untested, loop, act, maybe, otherwise, acts}
use Rattle.sc_meaning.specs.States.{State, with_wires, with_number, with_new_value, with_fresh, with_scope, without_scope, inside}
use Rattle.sc_meaning.specs.Values.{◌>>=◌, number, whole_number, start_value, new_value, old_value, operand}
use Rattle.sc_meaning.specs.Kept.{FitsBy}
use Rattle.sc_meaning.proofs.Distinct.{distinct_span}
use Rattle.sc_meaning.proofs.MoveTypes.{ok_then, AllWanted, AllMean, gates_mean, there_at, operand_held, operand_one, ArePassed, pass_all_fits, passed_there, passed_wires, passed_classes, passed_args, passed_distinct, words_classes, has_first}
use Rattle.sc_meaning.proofs.MoveValues.{moved_state, moved_passed, moved_all, args_moved, wires_moved, HasFirst, prepared_moved, called_moved, measured_moved}
use Rattle.sc_meaning.proofs.Moving.{entered-append, Moves, moves_none, moves_then, moves_fresh, moves_gate}
use Rattle.sc_meaning.proofs.Places.{Fine, Ahead, ahead_more, fine_later, there_append, there_fresh, fine_more, placed_fresh}
use Rattle.sc_meaning.proofs.Scoped.{moved, with_moved, drop_moved, AllHeld, with_held, held_later, drop_held, moved_more, IsWireOf, Suits, suits_scope, suits_left, suits_wires, suits_number, numbers_free}

-- the state of a body whose wires stand at these places, where its names stand for what this stack says
pub record Sound (stack : Stack) (places : List Wire) (next : Numbers) (s : State) : Type 0 where
  pub fine : Fine places s.next next
  pub held : AllHeld s.next s.wires
  pub suits : Suits stack s.wires

-- the names of the innermost scope behind statements
abbrev pub names_behind : List Known → PureStmts → List Known
names_behind here PureStmts.no_stmts = here
names_behind here (PureStmts.stmt p a rest) = names_behind (names_after here a) rest

-- what a name calls takes what the checks say
abbrev pub AreTaken : Program → Taken → Type 0
AreTaken program taken = (t : List ℕ) (d : Definition) (us : _) → definition program t ≡ Some d → taken t ≡ Some us → AllMean (wants_of d) (λ ks es. AllFit ks us es)

-- ---- gates

option_there : (own : Numbers) (ws : List Wire) (i : ℕ) → AreThere own ws → AreThere own (option_to_list (slice_get ws i))
option_there own ws i there = by (slice_get ws i) refl
  where
    by : (o : Option Wire) → slice_get ws i ≡ o → AreThere own (option_to_list o)
    by None e = tt
    by (Some w) e = (there_at own ws i w there e, tt)

gate_there : (own : Numbers) (k : Kind) (ws : List Wire) → HasFirst ws → AreThere own ws → AreThere own (operands (gate_on k ws))
gate_there own k [] first there = absurd first
gate_there own k (w ∷ ws) first there =
    (there.0, there_append own (option_to_list (slice_get (w ∷ ws) 1)) (option_to_list (slice_get (w ∷ ws) 2)) (option_there own (w ∷ ws) 1 there) (option_there own (w ∷ ws) 2 there))

start_begins : (b : Bool) → (ts : List Want) × (start_wants b ≡ want.One Q ∷ ts)
start_begins true = (_, refl)
start_begins false = (_, refl)

gate_begins : (g : GateName) (n : ℕ) → (ts : List Want) × (gate_wants g n ≡ want.One Q ∷ ts)
gate_begins gate.X n = (_, refl)
gate_begins gate.Y n = (_, refl)
gate_begins gate.Z n = (_, refl)
gate_begins gate.H n = (_, refl)
gate_begins gate.S n = (_, refl)
gate_begins gate.T n = (_, refl)
gate_begins gate.Sdag n = (_, refl)
gate_begins gate.Tdag n = (_, refl)
gate_begins gate.Cnot n = (_, refl)
gate_begins gate.Toffoli n = (_, refl)
gate_begins gate.Fredkin n = (_, refl)
gate_begins gate.Rx n = (_, refl)
gate_begins gate.Ry n = (_, refl)
gate_begins gate.Rz n = (_, refl)
gate_begins gate.PrepX n = start_begins (nat_eq n 2)
gate_begins gate.PrepZ n = start_begins (nat_eq n 2)
gate_begins gate.MeasX n = (_, refl)
gate_begins gate.MeasZ n = (_, refl)

first_append : (xs ys : List Wire) → HasFirst xs → HasFirst (xs ++ ys)
first_append [] ys h = absurd h
first_append (x ∷ xs) ys h = tt

first_passed : (own : Numbers) (c : Class) (ts : List Want) (ps : List Passed) → ArePassed own (want.One c ∷ ts) ps → HasFirst (wires_of ps)
first_passed own c ts [] h = absurd h
first_passed own c ts (p ∷ ps) h = first_append p.wires (wires_of ps) (has_first c p.wires (h.0.classes ∙ ap arg_classes h.0.is))

gate_passed : (own : Numbers) (g : GateName) (n : ℕ) (ps : List Passed) → ArePassed own (gate_wants g n) ps → HasFirst (wires_of ps)
gate_passed own g n ps h = let b = gate_begins g n in first_passed own Q b.0 ps (subst (λ (ts : List Want). ArePassed own ts ps) b.1 h)

-- the gate of a call that fits is on wires that are there
module _ (stack : Stack) (s : State) (own : Numbers) (suited : Suits stack s.wires) (held : AllHeld own s.wires) where
  pub gate_facts : (g : GateName) (args : List PureExpr) → AllFit (kinds_in stack) (types.gate_wants g (length args)) args → (ps : List Passed)
      → pass_all s (gate_wants g (length args)) args ≡ Ok ps → ArePassed own (gate_wants g (length args)) ps
  gate_facts g args fit ps is =
      pass_all_fits stack s own suited held (gate_wants g (length args)) args ps (gates_mean g (length args) (kinds_in stack) args fit) is

  called_there : (g : GateName) (args : List PureExpr) → AllFit (kinds_in stack) (types.gate_wants g (length args)) args → (h : Gate) → called_gate s g args ≡ Ok h → AreThere own (operands h)
  called_there g args fit h is =
      let x = ok_then (pass_all s (gate_wants g (length args)) args) (λ ps. kind_of g (slice_get ps 1) >>= λ k. distinct_after [] ps >>= λ _. Ok (gate_on k (wires_of ps))) h is in
      let y = ok_then (kind_of g (slice_get x.0 1)) (λ k. distinct_after [] x.0 >>= λ _. Ok (gate_on k (wires_of x.0))) h x.2 in
      let z = ok_then (distinct_after [] x.0) (λ _. Ok (gate_on y.0 (wires_of x.0))) h y.2 in
      let q : gate_on y.0 (wires_of x.0) ≡ h = cc (z.2) in
      let facts = gate_facts g args fit x.0 x.1 in
      subst (λ (g : Gate). AreThere own (operands g)) q
      (gate_there own y.0 (wires_of x.0) (gate_passed own g (length args) x.0 facts) (passed_wires own (gate_wants g (length args)) x.0 facts))

  measured_there : (g : GateName) (into from : PureNamed) → IsOperand (kinds_in stack) (OneWire C) into → IsOperand (kinds_in stack) (OneWire Q) from
      → (h : Gate) → measured s g into from ≡ Ok h → AreThere own (operands h)
  measured_there g into from a b h is =
      let x = ok_then (operand s into.name.text into.name.place into.value) (λ c. operand s from.name.text from.name.place from.value >>= λ q. kind_of g None >>= λ k. Ok (gate_on k (q ++ c))) h is in
      let y = ok_then (operand s from.name.text from.name.place from.value) (λ q. kind_of g None >>= λ k. Ok (gate_on k (q ++ x.0))) h x.2 in
      let z = ok_then (kind_of g None) (λ k. Ok (gate_on k (y.0 ++ x.0))) h y.2 in
      let q : gate_on z.0 (y.0 ++ x.0) ≡ h = cc (z.2) in
      let one : map class_of y.0 ≡ Q ∷ [] = operand_one stack s own suited held Q from y.0 b y.1 in
      subst (λ (g : Gate). AreThere own (operands g)) q
      (gate_there own z.0 (y.0 ++ x.0) (first_append y.0 x.0 (has_first Q y.0 one))
      (there_append own y.0 x.0 (operand_held stack s own suited held from.name.text from.name.place from.value y.0 y.1).0
      (operand_held stack s own suited held into.name.text into.name.place into.value x.0 x.1).0))

-- ---- what a key has

fits_of : (own : Numbers) (d : Definition) (ps : List Passed) (ns : _) → ArePassed own (wants_of d) ps → lengths_of d ps ≡ Ok ns → of_lengths ns ps ≡ Ok tt → FitsBy (Some d) (args_of ps)
fits_of own (of_module name params stmts) ps ns h stated same = passed_args own (wants_of (of_module name params stmts)) ps h
fits_of own (of_function name f) ps ns h stated same =
    let q : ns ≡ map (λ w. Some (pos w)) f.widths = cc in
    words_classes own f.widths ps h (ap (λ (ms : List (Option ℤ)). of_lengths ms ps) (sym q) ∙ same)

-- the arguments with which a definition is entered
pub record Enters (program : Program) (own : Numbers) (name : List ℕ) (ps : List Passed) : Type 0 where
  pub there : AreThere own (wires_of ps)
  pub distinct : AreDistinct (wires_of ps)
  pub fits : FitsBy (definition program name) (args_of ps)
  pub classes : map class_of (wires_of ps) ≡ param_classes (record { name = name; args = args_of ps })

-- the parts of a preparation that is done
pub record Prepares (s : State) (d : Definition) (args : List PureExpr) (ps : List Passed) : Type 0 where
  pub lengths : List (Option ℤ)
  pub passes : pass_all s (wants_of d) args ≡ Ok ps
  pub stated : lengths_of d ps ≡ Ok lengths
  pub same : of_lengths lengths ps ≡ Ok tt
  pub apart : distinct_after [] ps ≡ Ok tt

pub prepares : (s : State) (d : Definition) (args : List PureExpr) (ps : List Passed) → prepared s d args ≡ Ok ps → Prepares s d args ps
prepares s d args ps e =
    let x = ok_then (pass_all s (wants_of d) args) (λ ps. lengths_of d ps >>= λ ns. of_lengths ns ps >>= λ _. distinct_after [] ps >>= λ _. Ok ps) ps e in
    let y = ok_then (lengths_of d x.0) (λ ns. of_lengths ns x.0 >>= λ _. distinct_after [] x.0 >>= λ _. Ok x.0) ps x.2 in
    let z = ok_then (of_lengths y.0 x.0) (λ _. distinct_after [] x.0 >>= λ _. Ok x.0) ps y.2 in
    let w = ok_then (distinct_after [] x.0) (λ _. Ok x.0) ps z.2 in
    let q : x.0 ≡ ps = cc (w.2) in
    subst (Prepares s d args) q (record { lengths = y.0; passes = x.1; stated = y.1; same = z.1; apart = w.1 })

pub prepared_enters : (program : Program) (stack : Stack) (s : State) (t : List ℕ) (d : Definition) (args : List PureExpr) → Suits stack s.wires → AllHeld s.next s.wires
    → definition program t ≡ Some d → AllWanted (kinds_in stack) (wants_of d) args → (ps : List Passed) → prepared s d args ≡ Ok ps → Enters program s.next t ps
prepared_enters program stack s t d args suited held is fit ps e =
    let x = prepares s d args ps e in
    let facts = pass_all_fits stack s s.next suited held (wants_of d) args ps fit x.passes in
    record {
      there = passed_wires s.next (wants_of d) ps facts;
      distinct = passed_distinct s.next (wants_of d) ps facts x.apart;
      fits = subst (λ (o : Option Definition). FitsBy o (args_of ps)) (sym is) (fits_of s.next d ps x.lengths facts x.stated x.same);
      classes = passed_classes s.next (wants_of d) ps facts;
    }

-- ---- wires that are made

pub many_made : (c : Class) (first n : ℕ) → IsWireOf (kind.Many c) (wires_from c first n)
many_made c first zero = refl
many_made c first (suc n) = ap (λ (cs : List Class). c ∷ cs) (many_made c (suc first) n)

pub one_made : (c : Class) (k first : ℕ) → pos 1 ≡ pos (suc k) → IsWireOf (kind.One c) (wires_from c first (suc k))
one_made c zero first e = refl
one_made c (suc k) first e = let q : 1 ≡ suc (suc k) = cc in absurd (omega arith)

-- ---- the names behind the advance of a loop

pub advance_keeps : (here : List Known) (held : PureHeld) → IsAdvance held → names_held here held ≡ here
advance_keeps here PureHeld.absent h = refl
advance_keeps here (PureHeld.held p (PureAct.set name o at value)) h = refl
advance_keeps here (PureHeld.held p (PureAct.measure g into from)) h = refl
advance_keeps here (PureHeld.held p (PureAct.wires c ds)) h = absurd h
advance_keeps here (PureHeld.held p (PureAct.numbers sort ds)) h = absurd h
advance_keeps here (PureHeld.held p (PureAct.call c at args)) h = absurd h
advance_keeps here (PureHeld.held p (PureAct.if_else e q a other)) h = absurd h
advance_keeps here (PureHeld.held p (PureAct.while_loop e q a)) h = absurd h
advance_keeps here (PureHeld.held p (PureAct.for_loop start test advance q a)) h = absurd h
advance_keeps here (PureHeld.held p (PureAct.block row)) h = absurd h
advance_keeps here (PureHeld.held p PureAct.empty) h = absurd h

module _ (program : Program) (choice : Choice) (E : Key → List Wire → Numbers → List Event) where
  -- what a part does in local numbers, and in the whole run
  abbrev pub MoveBy : Stack → Outcome State → Outcome State → List Wire → Numbers → Type 0
  MoveBy stack (Done lev s) (Done gev t) places next =
      (places' : List Wire) × (next' : Numbers) × Moves program choice E lev gev places next places' next' × (t ≡ moved_state (placed places') next' s) × Sound stack places' next' s
  MoveBy stack (Stopped lev f) (Stopped gev g) places next = (f ≡ g) × ((ks : List Key) → entered_keys gev ks ≡ entered_keys lev ks)
  MoveBy stack (Done lev s) (Stopped gev g) places next = ⊥
  MoveBy stack (Stopped lev f) (Done gev t) places next = ⊥

  pub record Move (stack : Stack) (o q : Outcome State) (places : List Wire) (next : Numbers) : Type 0 where
    pub holds : MoveBy stack o q places next

  -- from each state of a stack to one of another
  abbrev pub AllMove : Stack → Stack → (State → Outcome State) → (State → Outcome State) → Type 0
  AllMove before behind go go' = (p : List Wire) (n : Numbers) (s : State) → Sound before p n s → Move behind (go s) (go' (moved_state (placed p) n s)) p n

  -- the same of calls
  abbrev pub CallBy : Outcome Numbers → Outcome Numbers → Numbers → List Wire → Numbers → Type 0
  CallBy (Done lev k) (Done gev next') m places next = (k ≡ m) × Moves program choice E lev gev places next places next'
  CallBy (Stopped lev f) (Stopped gev g) m places next = (f ≡ g) × ((ks : List Key) → entered_keys gev ks ≡ entered_keys lev ks)
  CallBy (Done lev k) (Stopped gev g) m places next = ⊥
  CallBy (Stopped lev f) (Done gev next') m places next = ⊥

  pub record CallMove (lc gc : Callee) : Type 0 where
    pub holds : (key : Key) (ws : List Wire) (m : Numbers) (places : List Wire) (own next : Numbers) → Fine places own next → AreThere own ws → AreDistinct ws
        → FitsBy (definition program key.name) key.args → map class_of ws ≡ param_classes key → CallBy (lc key ws m) (gc key (map (placed places) ws) next) m places next

  -- ---- parts one after another

  move_stop : (stack : Stack) (f : ElabFault) (p : List Wire) (n : Numbers) → Move stack (Stopped [] f) (Stopped [] f) p n
  move_stop stack f p n = record { holds = (refl, λ ks. refl) }

  move_done : (stack : Stack) (p : List Wire) (n : Numbers) (s : State) → Sound stack p n s → Move stack (Done [] s) (Done [] (moved_state (placed p) n s)) p n
  move_done stack p n s c = record { holds = (p, n, moves_none program choice E p n, refl, c) }

  move_after : (stack : Stack) (l1 g1 : List Event) (p : List Wire) (n : Numbers) (p' : List Wire) (n' : Numbers) (o q : Outcome State)
      → Moves program choice E l1 g1 p n p' n' → MoveBy stack o q p' n' → MoveBy stack (after l1 o) (after g1 q) p n
  move_after stack l1 g1 p n p' n' (Done l2 s) (Done g2 t) a (p'', n'', b, e, c) = (p'', n'', moves_then program choice E l1 l2 g1 g2 p n p' n' p'' n'' a b, e, c)
  move_after stack l1 g1 p n p' n' (Stopped l2 f) (Stopped g2 g) a (e, k) =
      (e, λ ks. entered-append g1 g2 ks ∙ ap (entered_keys g2) (a.keys ks) ∙ k (entered_keys l1 ks) ∙ sym (entered-append l1 l2 ks))
  move_after stack l1 g1 p n p' n' (Done l2 s) (Stopped g2 g) a h = absurd h
  move_after stack l1 g1 p n p' n' (Stopped l2 f) (Done g2 t) a h = absurd h

  move_then_by : (mid behind : Stack) (o q : Outcome State) (go go' : State → Outcome State) (p : List Wire) (n : Numbers) → MoveBy mid o q p n → AllMove mid behind go go'
      → MoveBy behind (then_do o go) (then_do q go') p n
  move_then_by mid behind (Done l s) (Done g t) go go' p n (p', n', a, e, c) h =
      subst (λ (u : State). MoveBy behind (after l (go s)) (after g (go' u)) p n) (sym e)
      (move_after behind l g p n p' n' (go s) (go' (moved_state (placed p') n' s)) a (h p' n' s c).holds)
  move_then_by mid behind (Stopped l f) (Stopped g f') go go' p n k h = k
  move_then_by mid behind (Done l s) (Stopped g f') go go' p n k h = absurd k
  move_then_by mid behind (Stopped l f) (Done g t) go go' p n k h = absurd k

  move_then : (mid behind : Stack) (o q : Outcome State) (go go' : State → Outcome State) (p : List Wire) (n : Numbers) → Move mid o q p n → AllMove mid behind go go'
      → Move behind (then_do o go) (then_do q go') p n
  move_then mid behind o q go go' p n k h = record { holds = move_then_by mid behind o q go go' p n k.holds h }

  move_given : {A : Type 0} (stack : Stack) (r : Result A ElabFault) (go go' : A → Outcome State) (p : List Wire) (n : Numbers) → ((a : A) → Move stack (go a) (go' a) p n)
      → Move stack (given r go) (given r go') p n
  move_given stack (Ok a) go go' p n h = h a
  move_given stack (Err f) go go' p n h = move_stop stack f p n

  sound_steps : (stack : Stack) (p : List Wire) (n : Numbers) (s : State) (k : ℕ) → Sound stack p n s → Sound stack p n (record s { steps = k })
  sound_steps stack p n s k c = record { fine = c.fine; held = c.held; suits = c.suits }

  move_step_of : (k : ℕ) (at : Place) (before behind : Stack) (go go' : State → Outcome State) → AllMove before behind go go' → AllMove before behind (step_of k at go) (step_of k at go')
  move_step_of zero at before behind go go' h p n s c = move_stop behind (TooLong at) p n
  move_step_of (suc k) at before behind go go' h p n s c = h p n (record s { steps = k }) (sound_steps before p n s k c)

  move_step : (at : Place) (before behind : Stack) (go go' : State → Outcome State) → AllMove before behind go go' → AllMove before behind (step at go) (step at go')
  move_step at before behind go go' h p n s c = move_step_of s.steps at before behind go go' h p n s c

  left_by : (here : List Known) (outer : Stack) (o q : Outcome State) (p : List Wire) (n : Numbers) → MoveBy (here ∷ outer) o q p n → MoveBy outer (leaving without_scope o) (leaving without_scope q) p n
  left_by here outer (Done l s) (Done g t) p n (p', n', a, e, c) =
      let wires = drop_moved (placed p') s.wires in (
        p',
        n',
        a,
        ap without_scope e ∙ (λ i. record (moved_state (placed p') n' (without_scope s)) { wires = wires i }),
        record { fine = c.fine; held = drop_held s.next s.wires c.held; suits = suits_left IsWireOf here outer s.wires c.suits },
      )
  left_by here outer (Stopped l f) (Stopped g h) p n k = k
  left_by here outer (Done l s) (Stopped g h) p n k = absurd k
  left_by here outer (Stopped l f) (Done g t) p n k = absurd k

  move_inside : (here : List Known) (outer : Stack) (go go' : State → Outcome State) → AllMove ([] ∷ outer) (here ∷ outer) go go' → AllMove outer outer (inside go) (inside go')
  move_inside here outer go go' h p n s c = record {
    holds = left_by here outer (go (with_scope s)) (go' (with_scope (moved_state (placed p) n s))) p n
        (h p n (with_scope s) (record { fine = c.fine; held = (tt, c.held); suits = suits_scope IsWireOf outer s.wires c.suits })).holds;
  }

  move_truth : (b : Bool) (stack : Stack) (first first' second second' : State → Outcome State) → AllMove stack stack first first' → AllMove stack stack second second'
      → AllMove stack stack (by_truth b first second) (by_truth b first' second')
  move_truth true stack first first' second second' h k p n s c = h p n s c
  move_truth false stack first first' second second' h k p n s c = k p n s c

  move_choose : (e : PureExpr) (stack : Stack) (first first' second second' : State → Outcome State) → AllMove stack stack first first' → AllMove stack stack second second'
      → AllMove stack stack (choose e first second) (choose e first' second')
  move_choose e stack first first' second second' h k p n s c =
      move_given stack (number s.numbers e) (λ x. by_truth (is_true x) first second s) (λ x. by_truth (is_true x) first' second' (moved_state (placed p) n s)) p n
      (λ x. move_truth (is_true x) stack first first' second second' h k p n s c)

  -- ---- loops

  move_rounds : (k : ℕ) (at : Place) (stack : Stack) (round round' : (State → Outcome State) → State → Outcome State)
      → ((again again' : State → Outcome State) → AllMove stack stack again again' → AllMove stack stack (round again) (round' again')) → AllMove stack stack (rounds k at round) (rounds k at round')
  move_rounds zero at stack round round' h p n s c = move_stop stack (TooLong at) p n
  move_rounds (suc k) at stack round round' h p n s c = h (rounds k at round) (rounds k at round') (move_rounds k at stack round round' h) p n s c

  move_loop : (at : Place) (e : Option PureExpr) (q : Place) (stack : Stack) (body body' : State → Outcome State) → AllMove stack stack body body' → AllMove stack stack (loop at e q body) (loop at e q body')
  move_loop at (Some e) q stack body body' h p n s c =
      move_rounds s.steps at stack (tested at e body) (tested at e body')
      (λ again again' k. move_step at stack stack (choose e (λ s. then_do (body s) again) finish) (choose e (λ s. then_do (body' s) again') finish)
      (move_choose e stack (λ s. then_do (body s) again) (λ s. then_do (body' s) again') finish finish
      (λ p n s c. move_then stack stack (body s) (body' (moved_state (placed p) n s)) again again' p n (h p n s c) k)
      (λ p n s c. move_done stack p n s c))) p n s c
  move_loop at None q stack body body' h p n s c =
      move_rounds s.steps q stack (untested body) (untested body')
      (λ again again' k p n s c. move_then stack stack (body s) (body' (moved_state (placed p) n s)) again again' p n (h p n s c) k) p n s c

  -- ---- declarations

  made_if : (b : Bool) (c : Class) (name : Name) (k : ℕ) (kd : NameKind) (here : List Known) (outer : Stack) (p : List Wire) (n : Numbers) (s : State)
      → Sound (here ∷ outer) p n s → IsNew here name → ((first : ℕ) → IsWireOf kd (wires_from c first (suc k)))
      → Move (with_name here name kd ∷ outer)
      (cond b (Done (Fresh c (suc k) ∷ []) (with_fresh c name.text (suc k) s)) (Stopped [] (TooWide name.place)))
      (cond b (Done (Fresh c (suc k) ∷ []) (with_fresh c name.text (suc k) (moved_state (placed p) n s))) (Stopped [] (TooWide name.place))) p n
  made_if false c name k kd here outer p n s sound new is = move_stop (with_name here name kd ∷ outer) (TooWide name.place) p n
  made_if true c name k kd here outer p n s sound new is =
      let m : ℕ = suc k in
      let fresh : List Wire = wires_from c (number_of c n) m in
      let own : List Wire = wires_from c (number_of c s.next) m in
      let q : List Wire = p ++ fresh in
      let back : map (placed q) own ≡ fresh = placed_fresh p s.next c (number_of c n) m sound.fine.sized in
      let wires : with_wires (moved (placed p) s.wires) name.text fresh ≡ moved (placed q) (with_wires s.wires name.text own) =
      (λ i. with_wires (sym (moved_more p fresh s.next sound.fine.sized s.wires sound.held) i) name.text (sym back i))
      ∙ with_moved (placed q) s.wires name.text own in
      record {
        holds = (
          q,
          with_more c m n,
          moves_fresh program choice E c m p n,
          (λ i. record (with_fresh c name.text m (moved_state (placed p) n s)) { wires = wires i }),
          record {
            fine = fine_more p s.next n c m sound.fine;
            held = with_held (with_more c m s.next) s.wires name.text own (held_later s.next (with_more c m s.next) (ahead_more c m s.next) s.wires sound.held)
                (there_fresh c m s.next, distinct_span c (number_of c s.next) m);
            suits = suits_wires IsWireOf here outer s.wires name kd own sound.suits new (is (number_of c s.next));
          },
        );
      }

  move_make : (c : Class) (name : Name) (z : ℤ) (kd : NameKind) (here : List Known) (outer : Stack) (p : List Wire) (n : Numbers) (s : State)
      → Sound (here ∷ outer) p n s → IsNew here name → ((k first : ℕ) → z ≡ pos (suc k) → IsWireOf kd (wires_from c first (suc k)))
      → Move (with_name here name kd ∷ outer) (make_wires c name z s) (make_wires c name z (moved_state (placed p) n s)) p n
  move_make c name (pos zero) kd here outer p n s sound new is = move_stop (with_name here name kd ∷ outer) (BadSize name.place) p n
  move_make c name (pos (suc k)) kd here outer p n s sound new is =
      made_if (nat_le (s.width + suc k) 65536) c name k kd here outer p n s sound new (λ first. is k first refl)
  move_make c name (negsuc k) kd here outer p n s sound new is = move_stop (with_name here name kd ∷ outer) (BadSize name.place) p n

  move_decl : (c : Class) (name : Name) (value : Option PureExpr) (here : List Known) (outer : Stack) (p : List Wire) (n : Numbers) (s : State) → Sound (here ∷ outer) p n s → IsNew here name
      → Move (with_name here name (wire_kind c value) ∷ outer) (given (size_of s.numbers value) (λ z. make_wires c name z s)) (given (size_of s.numbers value) (λ z. make_wires c name z (moved_state (placed p) n s))) p n
  move_decl c name None here outer p n s sound new = move_make c name (pos 1) (kind.One c) here outer p n s sound new (one_made c)
  move_decl c name (Some e) here outer p n s sound new =
      move_given (with_name here name (kind.Many c) ∷ outer) (whole_number s.numbers e) (λ z. make_wires c name z s) (λ z. make_wires c name z (moved_state (placed p) n s)) p n
      (λ z. move_make c name z (kind.Many c) here outer p n s sound new (λ k first e. many_made c first (suc k)))

  move_wires : (c : Class) (outer : Stack) (here : List Known) (ds : List PureNamed) → AreWires c outer here ds
      → AllMove (here ∷ outer) (accepted.with_wires c here ds ∷ outer) (declare_wires c ds) (declare_wires c ds)
  move_wires c outer here [] fit p n s sound = move_done (here ∷ outer) p n s sound
  move_wires c outer here (d ∷ ds) fit p n s sound =
      let mid : List Known = with_name here d.name (wire_kind c d.value) in
      move_then (mid ∷ outer) (accepted.with_wires c mid ds ∷ outer)
      (given (size_of s.numbers d.value) (λ z. make_wires c d.name z s)) (given (size_of s.numbers d.value) (λ z. make_wires c d.name z (moved_state (placed p) n s)))
      (declare_wires c ds) (declare_wires c ds) p n
      (move_decl c d.name d.value here outer p n s sound fit.1) (move_wires c outer mid ds fit.2)

  move_numbers : (sort : NumSort) (outer : Stack) (here : List Known) (ds : List PureNamed) → AreNumbers sort outer here ds
      → AllMove (here ∷ outer) (with_numbers sort here ds ∷ outer) (declare_numbers sort ds) (declare_numbers sort ds)
  move_numbers sort outer here [] fit p n s sound = move_done (here ∷ outer) p n s sound
  move_numbers sort outer here (d ∷ ds) fit p n s sound =
      let mid : List Known = with_name here d.name (kind.Number sort) in
      move_given (with_numbers sort mid ds ∷ outer) (start_value s.numbers sort d.value)
      (λ x. declare_numbers sort ds (with_number d.name.text x s)) (λ x. declare_numbers sort ds (with_number d.name.text x (moved_state (placed p) n s))) p n
      (λ x. move_numbers sort outer mid ds fit.2 p n (with_number d.name.text x s)
      (record { fine = sound.fine; held = sound.held; suits = suits_number IsWireOf numbers_free here outer s.wires d.name sort sound.suits fit.1 }))

  -- ---- settings, gates and calls

  move_set : (stack : Stack) (name : Name) (o : SetOp) (mark : Place) (e : Option PureExpr) → AllMove stack stack (set_number name o mark e) (set_number name o mark e)
  move_set stack name o mark e p n s sound =
      move_given stack (new_value s.numbers (old_value s.numbers name.text) o mark e)
      (λ x. Done [] (with_new_value name.text x s)) (λ x. Done [] (with_new_value name.text x (moved_state (placed p) n s))) p n
      (λ x. move_done stack p n (with_new_value name.text x s) (record { fine = sound.fine; held = sound.held; suits = sound.suits }))

  move_applied : (stack : Stack) (p : List Wire) (n : Numbers) (s : State) (r : Result Gate ElabFault) → Sound stack p n s → ((g : Gate) → r ≡ Ok g → AreThere s.next (operands g))
      → Move stack (given r (apply s)) (given (r >>= λ g. Ok (rename_gate (placed p) g)) (apply (moved_state (placed p) n s))) p n
  move_applied stack p n s (Ok g) sound there = record { holds = (p, n, moves_gate program choice E g p s.next n sound.fine (there g refl), refl, sound) }
  move_applied stack p n s (Err f) sound there = move_stop stack f p n

  move_gate : (stack : Stack) (g : GateName) (args : List PureExpr) → AllFit (kinds_in stack) (types.gate_wants g (length args)) args
      → AllMove stack stack (λ s. given (called_gate s g args) (apply s)) (λ s. given (called_gate s g args) (apply s))
  move_gate stack g args fit p n s sound =
      let t : State = moved_state (placed p) n s in
      let facts = gate_facts stack s s.next sound.suits sound.held g args fit in
      let is = called_moved p s.next n sound.fine s g args
      (λ ps e. (passed_there s.next (gate_wants g (length args)) ps (facts ps e), gate_passed s.next g (length args) ps (facts ps e))) in
      subst (λ (r : Result Gate ElabFault). Move stack (given (called_gate s g args) (apply s)) (given r (apply t)) p n) (sym is)
      (move_applied stack p n s (called_gate s g args) sound (called_there stack s s.next sound.suits sound.held g args fit))

  move_measure : (stack : Stack) (g : GateName) (into from : PureNamed) → IsOperand (kinds_in stack) (OneWire C) into → IsOperand (kinds_in stack) (OneWire Q) from
      → AllMove stack stack (λ s. given (measured s g into from) (apply s)) (λ s. given (measured s g into from) (apply s))
  move_measure stack g into from a b p n s sound =
      let t : State = moved_state (placed p) n s in
      let is = measured_moved p s.next n sound.fine s g into from
      (λ q e. has_first Q q (operand_one stack s s.next sound.suits sound.held Q from q b e)) in
      subst (λ (r : Result Gate ElabFault). Move stack (given (measured s g into from) (apply s)) (given r (apply t)) p n) (sym is)
      (move_applied stack p n s (measured s g into from) sound (measured_there stack s s.next sound.suits sound.held g into from a b))

  -- back in the caller
  back_by : (stack : Stack) (p : List Wire) (n : Numbers) (s : State) (o q : Outcome Numbers) → Sound stack p n s → CallBy o q s.next p n
      → MoveBy stack (leaving (back_in s) o) (leaving (back_in (moved_state (placed p) n s)) q) p n
  back_by stack p n s (Done l k) (Done g n') sound (e, m) =
      let ahead : Ahead n n' = subst (Ahead n) (sym m.fresh) (after_events-grow n g) in (
        p,
        n',
        m,
        refl,
        record {
          fine = subst (λ (j : Numbers). Fine p j n') (sym e) (fine_later p s.next n n' ahead sound.fine);
          held = subst (λ (j : Numbers). AllHeld j s.wires) (sym e) sound.held;
          suits = sound.suits;
        },
      )
  back_by stack p n s (Stopped l f) (Stopped g h) sound k = k
  back_by stack p n s (Done l k) (Stopped g h) sound m = absurd m
  back_by stack p n s (Stopped l f) (Done g n') sound m = absurd m

  entered_by : (lc gc : Callee) → CallMove lc gc → (name : List ℕ) (stack : Stack) (p : List Wire) (n : Numbers) (s : State) (ps : List Passed) → Sound stack p n s
      → Enters program s.next name ps → Move stack (enter_with lc name s ps) (enter_with gc name (moved_state (placed p) n s) (map (moved_passed (placed p)) ps)) p n
  entered_by lc gc h name stack p n s ps sound enters =
      let t : State = moved_state (placed p) n s in
      let key : Key = record { name = name; args = args_of ps } in
      let args = args_moved (placed p) ps in
      let wires = wires_moved (placed p) ps in
      let same : enter_with gc name t (map (moved_passed (placed p)) ps) ≡ leaving (back_in t) (gc key (map (placed p) (wires_of ps)) n) =
      (λ i. leaving (back_in t) (gc (record { name = name; args = args i }) (wires i) n)) in
      subst (λ (o : Outcome State). Move stack (enter_with lc name s ps) o p n) (sym same)
      (record {
        holds = back_by stack p n s (lc key (wires_of ps) s.next) (gc key (map (placed p) (wires_of ps)) n) sound
            (h.holds key (wires_of ps) s.next p s.next n sound.fine enters.there enters.distinct enters.fits enters.classes);
      })

  call_given : (lc gc : Callee) → CallMove lc gc → (name : List ℕ) (stack : Stack) (p : List Wire) (n : Numbers) (s : State) (r : Result (List Passed) ElabFault) → Sound stack p n s
      → ((ps : List Passed) → r ≡ Ok ps → Enters program s.next name ps)
      → Move stack (given r (enter_with lc name s)) (given (moved_all (placed p) r) (enter_with gc name (moved_state (placed p) n s))) p n
  call_given lc gc h name stack p n s (Ok ps) sound enters = entered_by lc gc h name stack p n s ps sound (enters ps refl)
  call_given lc gc h name stack p n s (Err f) sound enters = move_stop stack f p n

  move_call : (taken : Taken) (lc gc : Callee) → AreTaken program taken → CallMove lc gc → (t : List ℕ) (us : _) (args : List PureExpr) (stack : Stack)
      → taken t ≡ Some us → AllFit (kinds_in stack) us args → (o : Option Definition) → definition program t ≡ o → AllMove stack stack (call_named lc t o args) (call_named gc t o args)
  move_call taken lc gc takes h t us args stack want fit None is p n s sound = move_done stack p n s sound
  move_call taken lc gc takes h t us args stack want fit (Some d) is p n s sound =
      let t' : State = moved_state (placed p) n s in
      let wanted = takes t d us is want (kinds_in stack) args fit in
      let same = prepared_moved p s.next n sound.fine s d args
      (λ ps e. passed_there s.next (wants_of d) ps (pass_all_fits stack s s.next sound.suits sound.held (wants_of d) args ps wanted e)) in
      subst (λ (r : Result (List Passed) ElabFault). Move stack (given (prepared s d args) (enter_with lc t s)) (given r (enter_with gc t t')) p n) (sym same)
      (call_given lc gc h t stack p n s (prepared s d args) sound (prepared_enters program stack s t d args sound.suits sound.held is wanted))

  -- ---- statements

  module _ (taken : Taken) (lc gc : Callee) (takes : AreTaken program taken) (calls : CallMove lc gc) where
    -- a body in a scope of its own
    move_body : (outer : Stack) (q : Place) (a : PureAct) → AllMove ([] ∷ outer) (names_after [] a ∷ outer) (act program lc q a) (act program gc q a)
        → AllMove outer outer (inside (step q (act program lc q a))) (inside (step q (act program gc q a)))
    move_body outer q a h p n s sound =
        move_inside (names_after [] a) outer (step q (act program lc q a)) (step q (act program gc q a))
        (move_step q ([] ∷ outer) (names_after [] a ∷ outer) (act program lc q a) (act program gc q a) h) p n s sound

    mutual
      move_act : (outer : Stack) (here : List Known) (at : Place) (a : PureAct) → IsFine taken outer here a
          → AllMove (here ∷ outer) (names_after here a ∷ outer) (act program lc at a) (act program gc at a)
      move_act outer here at (PureAct.wires c ds) fit p n s sound = move_wires c outer here ds fit p n s sound
      move_act outer here at (PureAct.numbers sort ds) fit p n s sound = move_numbers sort outer here ds fit p n s sound
      move_act outer here at (PureAct.set name o mark e) fit p n s sound = move_set (here ∷ outer) name o mark e p n s sound
      move_act outer here at (PureAct.measure g into from) fit p n s sound = move_measure (here ∷ outer) g into from fit.1 fit.2 p n s sound
      move_act outer here at (PureAct.call (called.Gate g) place args) fit p n s sound = move_gate (here ∷ outer) g args fit p n s sound
      move_act outer here at (PureAct.call (called.Named t) place args) fit p n s sound =
          move_call taken lc gc takes calls t fit.0 args (here ∷ outer) fit.1 fit.2 (definition program t) refl p n s sound
      move_act outer here at (PureAct.if_else e q a other) fit p n s sound =
          move_choose e (here ∷ outer) (inside (step q (act program lc q a))) (inside (step q (act program gc q a))) (otherwise program lc other) (otherwise program gc other)
          (move_body (here ∷ outer) q a (move_act (here ∷ outer) [] q a fit.1)) (move_otherwise (here ∷ outer) other fit.2) p n s sound
      move_act outer here at (PureAct.while_loop e q a) fit p n s sound =
          move_loop at (Some e) q (here ∷ outer) (inside (step q (act program lc q a))) (inside (step q (act program gc q a))) (move_body (here ∷ outer) q a (move_act (here ∷ outer) [] q a fit.1)) p n s sound
      move_act outer here at (PureAct.for_loop start test advance q a) fit p n s sound =
          let own : List Known = names_held [] start in
          let mid : Stack = own ∷ here ∷ outer in
          let one : State → Outcome State = λ s. then_do (inside (step q (act program lc q a)) s) (maybe program lc advance) in
          let one' : State → Outcome State = λ s. then_do (inside (step q (act program gc q a)) s) (maybe program gc advance) in
          let further : AllMove mid mid (maybe program lc advance) (maybe program gc advance) =
          subst (λ (k : List Known). AllMove mid (k ∷ here ∷ outer) (maybe program lc advance) (maybe program gc advance)) (advance_keeps own advance fit.2)
          (move_maybe (here ∷ outer) own advance fit.3) in
          move_inside own (here ∷ outer) (λ s. then_do (maybe program lc start s) (loop at test q one)) (λ s. then_do (maybe program gc start s) (loop at test q one'))
          (λ p n s c. move_then mid mid (maybe program lc start s) (maybe program gc start (moved_state (placed p) n s)) (loop at test q one) (loop at test q one') p n
          (move_maybe (here ∷ outer) [] start fit.0 p n s c)
          (move_loop at test q mid one one'
          (λ p n s c. move_then mid mid (inside (step q (act program lc q a)) s) (inside (step q (act program gc q a)) (moved_state (placed p) n s)) (maybe program lc advance) (maybe program gc advance) p n
          (move_body mid q a (move_act mid [] q a fit.4) p n s c) further))) p n s sound
      move_act outer here at (PureAct.block row) fit p n s sound =
          move_inside (names_behind [] row) (here ∷ outer) (acts program lc row) (acts program gc row) (move_acts (here ∷ outer) [] row fit) p n s sound
      move_act outer here at PureAct.empty fit p n s sound = move_done (here ∷ outer) p n s sound

      move_maybe : (outer : Stack) (here : List Known) (held : PureHeld) → IsFineHeld taken outer here held
          → AllMove (here ∷ outer) (names_held here held ∷ outer) (maybe program lc held) (maybe program gc held)
      move_maybe outer here PureHeld.absent fit p n s sound = move_done (here ∷ outer) p n s sound
      move_maybe outer here (PureHeld.held q a) fit p n s sound =
          move_step q (here ∷ outer) (names_after here a ∷ outer) (act program lc q a) (act program gc q a) (move_act outer here q a fit) p n s sound

      move_otherwise : (outer : Stack) (held : PureHeld) → IsFineHeld taken outer [] held → AllMove outer outer (otherwise program lc held) (otherwise program gc held)
      move_otherwise outer PureHeld.absent fit p n s sound = move_done outer p n s sound
      move_otherwise outer (PureHeld.held q a) fit p n s sound = move_body outer q a (move_act outer [] q a fit) p n s sound

      pub move_acts : (outer : Stack) (here : List Known) (row : PureStmts) → AreFine taken outer here row
          → AllMove (here ∷ outer) (names_behind here row ∷ outer) (acts program lc row) (acts program gc row)
      move_acts outer here PureStmts.no_stmts fit p n s sound = move_done (here ∷ outer) p n s sound
      move_acts outer here (PureStmts.stmt q a rest) fit p n s sound =
          move_then (names_after here a ∷ outer) (names_behind (names_after here a) rest ∷ outer)
          (step q (act program lc q a) s) (step q (act program gc q a) (moved_state (placed p) n s)) (acts program lc rest) (acts program gc rest) p n
          (move_step q (here ∷ outer) (names_after here a ∷ outer) (act program lc q a) (act program gc q a) (move_act outer here q a fit.0) p n s sound)
          (move_acts outer (names_after here a) rest fit.1)
