-- Parts of a run keep its typing: what each combinator leaves.
use Rattle.std.proofs.Common.{◌≡◌, ℕ, zero, suc, ◌+◌, ◌≤◌, Bool, true, false, cond, List, [], ◌∷◌, drop, Option, Some, None, Result, Ok, Err, refl, ap, ◌∙◌, subst, arith}
use Rattle.std.specs.Prelude.{ℤ, pos, negsuc, nat_le}
use Rattle.std.specs.List.{AllByRecursion}
use Rattle.sc_base.specs.declared.Place.{Place}
use Rattle.sc_base.specs.declared.Class.{Class}
use Rattle.sc_base.specs.declared.Class.TheVariants.{Q, C}
use Rattle.sc_gate.specs.Numbers.{Numbers, number_of, with_more}
use Rattle.sc_syntax.specs.declared.Name.{Name}
use Rattle.sc_syntax.specs.declared.NameKind.TheVariants as kind
use Rattle.sc_syntax.specs.declared.NumSort.{NumSort}
use Rattle.sc_syntax.specs.declared.SetOp.{SetOp}
use Rattle.sc_syntax.specs.Alike.{PureExpr, PureNamed}
use Rattle.sc_value.specs.Scopes.{Scopes}
use Rattle.sc_deck.specs.Events.{Event, Fresh}
use Rattle.sc_deck.specs.Unfolding.{wires_from}
use Rattle.sc_types.specs.Statements.{wire_kind}
use Rattle.sc_types.specs.Accepted.{AreWires, IsNew, with_name, with_wires as with_wire_names, with_numbers}
use Rattle.sc_types.specs.Scopes.{Known, Stack}
use Rattle.sc_meaning.specs.declared.choice.Choice.{Choice}
use Rattle.sc_meaning.specs.declared.fault.ElabFault.{ElabFault}
use Rattle.sc_meaning.specs.declared.fault.ElabFault.TheVariants.{TooWide, TooManyInstances}
use Rattle.sc_elab.specs.declared.frame.Frame.{Frame}
use Rattle.sc_elab.specs.Folding.{written}
use Rattle.sc_elab.specs.Frames.{view, made, Runs}
use Rattle.sc_meaning.specs.Local.{Made, make, ran}
use Rattle.sc_meaning.specs.Outcomes.{Outcome, Done, Stopped, after, then_do, given}
use Rattle.sc_meaning.specs.Run.{size_of, make_wires, declare_wires, declare_numbers, set_number}
use Rattle.sc_meaning.specs.States.{State, with_fresh, with_number, with_new_value, with_scope, without_scope}
use Rattle.sc_elab.specs.Typings.{IsOf, StandsFor, IsTyped}
use Rattle.sc_meaning.specs.Values.{start_value, new_value, old_value}
use Rattle.sc_elab.proofs.Agreeing.{agree_grow, more_grows, agree_wires, agree_number, agree_enter, agree_leave}
use Rattle.sc_meaning.proofs.Ran.{many}
use Rattle.sc_meaning.proofs.Spanned.{length_made}

-- what a part leaves, where it is done
abbrev pub Leaves : {A : Type 0} → (A → Type 0) → Outcome A → Type 0
Leaves P (Done events a) = P a
Leaves P (Stopped events fault) = Unit {0}

leaves_after : {A : Type 0} (P : A → Type 0) (events : List Event) (o : Outcome A) → Leaves P o → Leaves P (after events o)
leaves_after P events (Done more a) h = h
leaves_after P events (Stopped more fault) h = tt

pub leaves_then : {A B : Type 0} (P : A → Type 0) (R : B → Type 0) (o : Outcome A) (go : A → Outcome B) → Leaves P o → ((a : A) → P a → Leaves R (go a)) → Leaves R (then_do o go)
leaves_then P R (Done events a) go h next = leaves_after R events (go a) (next a h)
leaves_then P R (Stopped events fault) go h next = tt

pub leaves_given : {A B : Type 0} (R : B → Type 0) (r : Result A ElabFault) (go : A → Outcome B) → ((a : A) → r ≡ Ok a → Leaves R (go a)) → Leaves R (given r go)
leaves_given R (Ok a) go next = next a refl
leaves_given R (Err fault) go next = tt

-- ---- declared wires

pub fresh_of : (c : Class) (k : ℕ) (next : Numbers) (first : ℕ) (n : ℕ) → first + n ≤ number_of c (with_more c k next) → AllByRecursion (IsOf c (with_more c k next)) (wires_from c first n)
fresh_of c k next first zero h = tt
fresh_of c k next first (suc n) h = ((refl, omega arith), fresh_of c k next (suc first) n (omega arith))

pub count_more : (c : Class) (k : ℕ) (next : Numbers) → number_of c (with_more c k next) ≡ number_of c next + k
count_more Q k next = refl
count_more C k next = refl

fresh_kind : (c : Class) (value : Option PureExpr) (size : ℤ) (n : ℕ) (numbers : Scopes) (next : Numbers) → size_of numbers value ≡ Ok size → size ≡ pos (suc n)
    → StandsFor (with_more c (suc n) next) (Some (wire_kind c value)) (Some (wires_from c (number_of c next) (suc n)))
fresh_kind c None size n numbers next sized is =
    let e = count_more c (suc n) next in
    let same : pos (suc n) ≡ pos 1 = cc in
    let one : suc n ≡ 1 = cc in
    record { one = length_made c (number_of c next) (suc n) ∙ one; each = fresh_of c (suc n) next (number_of c next) (suc n) (omega arith) }
fresh_kind c (Some e) size n numbers next sized is =
    let e = count_more c (suc n) next in
    let l = length_made c (number_of c next) (suc n) in
    record { some = omega arith; each = fresh_of c (suc n) next (number_of c next) (suc n) (omega arith) }

make_typed : (c : Class) (name : Name) (value : Option PureExpr) (size : ℤ) (s : State) (here : List Known) (outer : Stack) → IsTyped (here ∷ outer) s → IsNew here name
    → size_of s.numbers value ≡ Ok size → Leaves (IsTyped (with_name here name (wire_kind c value) ∷ outer)) (make_wires c name size s)
make_typed c name value (negsuc n) s here outer typed new sized = tt
make_typed c name value (pos zero) s here outer typed new sized = tt
make_typed c name value (pos (suc n)) s here outer typed new sized = by (nat_le (s.width + suc n) 65536)
  where
    by : (b : Bool) → Leaves (IsTyped (with_name here name (wire_kind c value) ∷ outer)) (cond b (Done (Fresh c (suc n) ∷ []) (with_fresh c name.text (suc n) s)) (Stopped [] (TooWide name.place)))
    by true =
        agree_wires (with_more c (suc n) s.next) here outer s.wires name.text (wire_kind c value) (wires_from c (number_of c s.next) (suc n))
        (agree_grow s.next (with_more c (suc n) s.next) (more_grows c (suc n) s.next) (here ∷ outer) s.wires typed) new (fresh_kind c value (pos (suc n)) n s.numbers s.next sized refl)
    by false = tt

pub wires_typed : (c : Class) (ds : List PureNamed) (s : State) (here : List Known) (outer : Stack) → IsTyped (here ∷ outer) s → AreWires c outer here ds
    → Leaves (IsTyped (with_wire_names c here ds ∷ outer)) (declare_wires c ds s)
wires_typed c [] s here outer typed fine = typed
wires_typed c (d ∷ ds) s here outer typed fine =
    let k = wire_kind c d.value in
    leaves_then (IsTyped (with_name here d.name k ∷ outer)) (IsTyped (with_wire_names c (with_name here d.name k) ds ∷ outer)) (given (size_of s.numbers d.value) (λ n. make_wires c d.name n s)) (declare_wires c ds)
    (leaves_given (IsTyped (with_name here d.name k ∷ outer)) (size_of s.numbers d.value) (λ n. make_wires c d.name n s) (λ size sized. make_typed c d.name d.value size s here outer typed fine.1 sized))
    (λ t typed. wires_typed c ds t (with_name here d.name k) outer typed fine.2)

-- ---- numbers

pub numbers_typed : (x : NumSort) (ds : List PureNamed) (s : State) (here : List Known) (outer : Stack) → IsTyped (here ∷ outer) s
    → Leaves (IsTyped (with_numbers x here ds ∷ outer)) (declare_numbers x ds s)
numbers_typed x [] s here outer typed = typed
numbers_typed x (d ∷ ds) s here outer typed =
    leaves_given (IsTyped (with_numbers x here (d ∷ ds) ∷ outer)) (start_value s.numbers x d.value) (λ v. declare_numbers x ds (with_number d.name.text v s))
    (λ v is. numbers_typed x ds (with_number d.name.text v s) (with_name here d.name (kind.Number x)) outer (agree_number s.next here outer s.wires d.name.text x typed))

pub set_typed : (name : Name) (o : SetOp) (mark : Place) (e : Option PureExpr) (s : State) (names : Stack) → IsTyped names s → Leaves (IsTyped names) (set_number name o mark e s)
set_typed name o mark e s names typed =
    leaves_given (IsTyped names) (new_value s.numbers (old_value s.numbers name.text) o mark e) (λ v. Done [] (with_new_value name.text v s)) (λ v is. typed)

-- ---- scopes

pub enter_typed : (s : State) (names : Stack) → IsTyped names s → IsTyped ([] ∷ names) (with_scope s)
enter_typed s names typed = agree_enter s.next names s.wires typed

pub leave_typed : (s : State) (names : Stack) → IsTyped names s → IsTyped (drop 1 names) (without_scope s)
leave_typed s names typed = agree_leave s.next names s.wires typed

-- ---- parts that the code has done

same_left : {A : Type 0} (p q : A × Made) (r : Result (A × Made) ElabFault) → r ≡ Ok p → r ≡ Ok q → p ≡ q
same_left p q r h k = cc

only_left : {A : Type 0} (P : A → Type 0) (b : Bool) (a c : A) (m n : Made) → P a → cond {A = Result (A × Made) ElabFault} b (Err TooManyInstances) (Ok (a, m)) ≡ Ok (c, n) → P c
only_left {A} P true a c m n h e = absurd (let impossible : Err TooManyInstances ≡ Ok (c, n) = e in cc)
only_left {A} P false a c m n h e = subst P (ap (λ (p : A × Made). p.0) (same_left (a, m) (c, n) (Ok (a, m)) refl e)) h

none_left : {A : Type 0} (P : A → Type 0) (b : Bool) (f : ElabFault) (c : A) (n : Made) → cond {A = Result (A × Made) ElabFault} b (Err TooManyInstances) (Err f) ≡ Ok (c, n) → P c
none_left P true f c n e = absurd (let impossible : Err TooManyInstances ≡ Ok (c, n) = e in cc)
none_left P false f c n e = absurd (let impossible : Err f ≡ Ok (c, n) = e in cc)

ran_leaves : {A : Type 0} (P : A → Type 0) (choice : Choice) (m n : Made) (o : Outcome A) (c : A) → Leaves P o → ran choice m o ≡ Ok (c, n) → P c
ran_leaves P choice m n (Done events a) c h e = only_left P (many (make choice events m)) a c (make choice events m) n h e
ran_leaves P choice m n (Stopped events f) c h e = none_left P (many (make choice events m)) f c n e

-- what holds of all that a part leaves holds of the frame
pub runs_leaves : (P : State → Type 0) (choice : Choice) (o : Outcome State) (f g : Frame) → Leaves P o → Runs choice o f g → P (view g)
runs_leaves P choice o f g h runs = ran_leaves P choice (made [] (written f.body.items) [] [] []) (made [] (written g.body.items) [] [] []) o (view g) h (runs [] [] [] [] refl)
