-- A body stays typed: whatever its last part comes to, the parts that are put in its place are fine where the names are those of the body.
use Rattle.std.proofs.Common.{◌≡◌, ℕ, zero, suc, List, [], ◌∷◌, ◌++◌, drop, Option, Some, None, Ok, Err, refl, sym, ap, ◌∙◌, subst}
use Rattle.std.specs.Prelude.{option_map, map}
use Rattle.std.specs.Borrow.{Bor}
use Rattle.std.specs.Option.{option_copied}
use Rattle.std.specs.declared.alloc.Global.{Global}
use Rattle.std.specs.declared.boxed.Box.{Box}
use Rattle.std.specs.declared.vec.Vec.{Vec}
use Rattle.sc_base.specs.declared.Class.{Class}
use Rattle.sc_base.specs.declared.Place.{Place}
use Rattle.sc_syntax.specs.declared.Decl.{Decl}
use Rattle.sc_syntax.specs.declared.Expr.{Expr}
use Rattle.sc_syntax.specs.declared.Init.{Init}
use Rattle.sc_syntax.specs.declared.Name.{Name}
use Rattle.sc_syntax.specs.declared.NumSort.{NumSort}
use Rattle.sc_syntax.specs.declared.SetOp.{SetOp}
use Rattle.sc_syntax.specs.declared.Stmt.{Stmt}
use Rattle.sc_syntax.specs.declared.Act.{Act, Wires, Numbers, If, While, For, Block}
use Rattle.sc_syntax.specs.Alike.{PureExpr, PureNamed, PureAct, PureHeld, pure_expr, pure_decl, pure_init, pure_act, pure_stmt_list, pure_source}
use Rattle.sc_syntax.proofs.PureRows.{pure_block}
use Rattle.sc_types.specs.Statements.{named_wants}
use Rattle.sc_types.specs.Accepted.{Taken, names_after, with_wires as with_wire_names, with_numbers, IsAdvance, IsFine, IsFineHeld, AreFine}
use Rattle.sc_types.specs.Scopes.{Known, Stack}
use Rattle.sc_types.specs.Typing.{TypedSource}
use Rattle.sc_meaning.specs.declared.choice.Choice.{Choice}
use Rattle.sc_meaning.specs.declared.fault.ElabFault.TheVariants.{TooLong}
use Rattle.sc_elab.specs.declared.frame.Frame.{Frame}
use Rattle.sc_elab.specs.declared.todo.Rounds.{Rounds}
use Rattle.sc_elab.specs.declared.todo.Todo.{Todo}
use Rattle.sc_elab.specs.declared.todo.Todo.TheVariants.{Do, Loop, Rest, Leave}
use Rattle.sc_elab.specs.Frames.{view, Runs}
use Rattle.sc_elab.specs.Pending.{held_by, if_act, for_act, block_act, to_do, after_round}
use Rattle.sc_elab.specs.Stepping.{StepsFrom, Steps}
use Rattle.sc_elab.specs.Typings.{IsTyped, behind, names_behind, IsFinePart, AreFineParts, IsTypedBody, IsTypedAct}
use Rattle.sc_meaning.specs.Run.{declare_wires, declare_numbers, set_number}
use Rattle.sc_meaning.specs.States.{with_scope, without_scope}
use Rattle.sc_elab.proofs.StatementParts.{more_parts}
use Rattle.sc_elab.proofs.TodoTyping.{fine_last, Puts, puts}
use Rattle.sc_elab.proofs.TypedParts.{wires_typed, numbers_typed, set_typed, enter_typed, leave_typed, runs_leaves}

-- ---- the last part, and other parts in its place

abbrev taken_by : TypedSource → Taken
taken_by t = named_wants (pure_source t.source)

-- the last part is fine where the names are these, and so are the others behind it
pub record IsTypedPart (t : TypedSource) (f : Frame) (part : Todo) (todo : List Todo) : Type 0 where
  pub names : Stack
  pub typed : IsTyped names (view f)
  pub fine : IsFinePart (taken_by t) names part
  pub others : AreFineParts (taken_by t) (behind part names) todo

pub typed_last : (t : TypedSource) (f : Frame) (todo : List Todo) (part : Todo) → IsTypedBody t f (todo ++ part ∷ []) → IsTypedPart t f part todo
typed_last t f todo part h =
    let l = fine_last (taken_by t) h.names todo part h.fine in
    record { names = h.names; typed = h.typed; fine = l.0; others = l.1 }

typed_puts : (t : TypedSource) (g : Frame) (names after : Stack) (old parts new : List Todo) → IsTyped names (view g) → new ≡ old ++ parts → Puts (taken_by t) names after parts
    → AreFineParts (taken_by t) after old → IsTypedBody t g new
typed_puts t g names after old parts new typed is put others =
    record { names = names; typed = typed; fine = subst (AreFineParts (taken_by t) names) (sym is) (puts (taken_by t) names after old parts put others) }

-- in a scope more the names are those of the body, behind a scope without any
typed_inside : (f g : Frame) (names : Stack) → view g ≡ with_scope (view f) → IsTyped names (view f) → IsTyped ([] ∷ names) (view g)
typed_inside f g names v h = subst (IsTyped ([] ∷ names)) (sym v) (enter_typed (view f) names h)

-- ---- a step

typed_from : (n : ℕ) (f g : Frame) (at : Place) (u : Unit {0}) (names : Stack) → StepsFrom n f at (Ok u) g → IsTyped names (view f) → IsTyped names (view g)
typed_from zero f g at u names p h = absurd (let impossible : Ok u ≡ Err (TooLong at) = p.0 in cc)
typed_from (suc n) f g at u names p h = subst (λ (k : Frame). IsTyped names (view k)) (sym p.1) h

-- a step leaves the names
pub part_stepped : (t : TypedSource) (f g : Frame) (at : Place) (u : Unit {0}) (part : Todo) (todo : List Todo) → Steps f at (Ok u) g → IsTypedPart t f part todo → IsTypedPart t g part todo
part_stepped t f g at u part todo steps h =
    record { names = h.names; typed = typed_from f.steps f g at u h.names steps h.typed; fine = h.fine; others = h.others }

act_on : (t : TypedSource) (g : Frame) (p : Bor Stmt) (todo : List Todo) (names : Stack) → IsTyped names (view g) → IsFinePart (taken_by t) names (Do p)
    → AreFineParts (taken_by t) (behind (Do p) names) todo → IsTypedAct t g (pure_act p.now.act) todo
act_on t g p todo [] typed fine others = absurd fine
act_on t g p todo (here ∷ outer) typed fine others = record { outer = outer; here = here; typed = typed; fine = fine; others = others }

-- a statement takes its step, and its act comes first
pub act_first : (t : TypedSource) (f g : Frame) (p : Bor Stmt) (u : Unit {0}) (todo : List Todo) → Steps f p.now.place (Ok u) g → IsTypedBody t f (todo ++ Do p ∷ [])
    → IsTypedAct t g (pure_act p.now.act) todo
act_first t f g p u todo steps h =
    let part = part_stepped t f g p.now.place u (Do p) todo steps (typed_last t f todo (Do p) h) in
    act_on t g p todo part.names part.typed part.fine part.others

-- ---- acts that are done

pub act_is : (t : TypedSource) (f : Frame) (a b : PureAct) (todo : List Todo) → a ≡ b → IsTypedAct t f a todo → IsTypedAct t f b todo
act_is t f a b todo is h = subst (λ (x : PureAct). IsTypedAct t f x todo) is h

-- the act by itself
pub act_alone : (t : TypedSource) (f : Frame) (a : PureAct) (todo : List Todo) → IsTypedAct t f a todo → IsTypedAct t f a []
act_alone t f a todo h = record { outer = h.outer; here = h.here; typed = h.typed; fine = h.fine; others = tt }

pub wires_done : (t : TypedSource) (choice : Choice) (f g : Frame) (c : Class) (ds : List PureNamed) (todo : List Todo) → Runs choice (declare_wires c ds (view f)) f g
    → IsTypedAct t f (PureAct.wires c ds) todo → IsTypedBody t g todo
wires_done t choice f g c ds todo runs h =
    let names : Stack = with_wire_names c h.here ds ∷ h.outer in
    record {
      names = names;
      typed = runs_leaves (IsTyped names) choice (declare_wires c ds (view f)) f g (wires_typed c ds (view f) h.here h.outer h.typed h.fine) runs;
      fine = h.others;
    }

pub numbers_done : (t : TypedSource) (choice : Choice) (f g : Frame) (sort : NumSort) (ds : List PureNamed) (todo : List Todo) → Runs choice (declare_numbers sort ds (view f)) f g
    → IsTypedAct t f (PureAct.numbers sort ds) todo → IsTypedBody t g todo
numbers_done t choice f g sort ds todo runs h =
    let names : Stack = with_numbers sort h.here ds ∷ h.outer in
    record {
      names = names;
      typed = runs_leaves (IsTyped names) choice (declare_numbers sort ds (view f)) f g (numbers_typed sort ds (view f) h.here h.outer h.typed) runs;
      fine = h.others;
    }

pub set_done : (t : TypedSource) (choice : Choice) (f g : Frame) (name : Name) (o : SetOp) (mark : Place) (e : Option PureExpr) (todo : List Todo) → Runs choice (set_number name o mark e (view f)) f g
    → IsTypedAct t f (PureAct.set name o mark e) todo → IsTypedBody t g todo
set_done t choice f g name o mark e todo runs h =
    let names : Stack = h.here ∷ h.outer in
    record {
      names = names;
      typed = runs_leaves (IsTyped names) choice (set_number name o mark e (view f)) f g (set_typed name o mark e (view f) names h.typed) runs;
      fine = h.others;
    }

-- an act that declares no name and leaves the state
pub still_typed : (t : TypedSource) (f g : Frame) (a : PureAct) (todo : List Todo) → ((here : List Known) → names_after here a ≡ here) → view g ≡ view f → IsTypedAct t f a todo → IsTypedBody t g todo
still_typed t f g a todo same v h =
    record {
      names = h.here ∷ h.outer;
      typed = subst (IsTyped (h.here ∷ h.outer)) (sym v) h.typed;
      fine = subst (λ (here : List Known). AreFineParts (taken_by t) (here ∷ h.outer) todo) (same h.here) h.others;
    }

-- ---- what is put on the list for an act

-- a part in a scope of its own
inside_typed : (t : TypedSource) (f g : Frame) (part : Todo) (todo todo' : List Todo) (here : List Known) (outer : Stack) → IsTyped (here ∷ outer) (view f)
    → AreFineParts (taken_by t) (here ∷ outer) todo → view g ≡ with_scope (view f) → todo' ≡ todo ++ Leave ∷ part ∷ [] → IsFinePart (taken_by t) ([] ∷ here ∷ outer) part
    → IsFinePart (taken_by t) (behind part ([] ∷ here ∷ outer)) Leave → drop 1 (behind part ([] ∷ here ∷ outer)) ≡ here ∷ outer → IsTypedBody t g todo'
inside_typed t f g part todo todo' here outer typed others v more fine leave back =
    typed_puts t g ([] ∷ here ∷ outer) (here ∷ outer) todo (Leave ∷ part ∷ []) todo' (typed_inside f g (here ∷ outer) v typed) more
    (record { fine = ((tt, fine), leave); leaves = back }) others

pub if_typed : (t : TypedSource) (f g : Frame) (e : Expr) (body : Bor Stmt) (other : Option Stmt) (todo todo' : List Todo) → IsTypedAct t f (if_act e body.now other) todo
    → view g ≡ with_scope (view f) → todo' ≡ todo ++ Leave ∷ Do body ∷ [] → IsTypedBody t g todo'
if_typed t f g e body other todo todo' h v more = inside_typed t f g (Do body) todo todo' h.here h.outer h.typed h.others v more h.fine.1 tt refl

else_here : (t : TypedSource) (f g : Frame) (e : Expr) (body : Stmt) (o : Bor Stmt) (todo todo' : List Todo) → IsTypedAct t f (if_act e body (Some o.now)) todo
    → view g ≡ with_scope (view f) → todo' ≡ todo ++ Leave ∷ Do o ∷ [] → IsTypedBody t g todo'
else_here t f g e body o todo todo' h v more = inside_typed t f g (Do o) todo todo' h.here h.outer h.typed h.others v more h.fine.2 tt refl

pub else_typed : (t : TypedSource) (f g : Frame) (e : Expr) (body : Stmt) (other : Option (Bor Stmt)) (o : Bor Stmt) (todo todo' : List Todo) → other ≡ Some o
    → IsTypedAct t f (if_act e body (option_copied other)) todo → view g ≡ with_scope (view f) → todo' ≡ todo ++ Leave ∷ Do o ∷ [] → IsTypedBody t g todo'
else_typed t f g e body other o todo todo' is h v more =
    else_here t f g e body o todo todo' (subst (λ (x : Option (Bor Stmt)). IsTypedAct t f (if_act e body (option_copied x)) todo) is h) v more

pub for_typed : (t : TypedSource) (f g : Frame) (start : Option (Bor Stmt)) (r : Rounds) (todo t1 t2 todo' : List Todo) → IsTypedAct t f (for_act (option_copied start) r) todo
    → view g ≡ with_scope (view f) → t1 ≡ todo ++ Leave ∷ [] → t2 ≡ t1 ++ Loop r ∷ [] → todo' ≡ t2 ++ to_do start → IsTypedBody t g todo'
for_typed t f g start r todo t1 t2 todo' h v one two three =
    by start h (more_parts todo t2 todo' (Leave ∷ Loop r ∷ []) (to_do start) (more_parts todo t1 t2 (Leave ∷ []) (Loop r ∷ []) one two) three)
  where
    by : (start : Option (Bor Stmt)) → IsTypedAct t f (for_act (option_copied start) r) todo → todo' ≡ todo ++ Leave ∷ Loop r ∷ to_do start → IsTypedBody t g todo'
    by None h more = inside_typed t f g (Loop r) todo todo' h.here h.outer h.typed h.others v more (h.fine.4, h.fine.2, h.fine.3) tt refl
    by (Some p) h more =
        typed_puts t g ([] ∷ h.here ∷ h.outer) (h.here ∷ h.outer) todo (Leave ∷ Loop r ∷ Do p ∷ []) todo' (typed_inside f g (h.here ∷ h.outer) v h.typed) more
        (record { fine = (((tt, h.fine.0), (h.fine.4, h.fine.2, h.fine.3)), tt); leaves = refl }) h.others

pub block_typed : (t : TypedSource) (f g : Frame) (xs : Bor (List Stmt)) (todo mid todo' : List Todo) → IsTypedAct t f (block_act xs.now) todo
    → view g ≡ with_scope (view f) → mid ≡ todo ++ Leave ∷ [] → todo' ≡ mid ++ Rest xs ∷ [] → IsTypedBody t g todo'
block_typed t f g xs todo mid todo' h v one two =
    inside_typed t f g (Rest xs) todo todo' h.here h.outer h.typed h.others v (more_parts todo mid todo' (Leave ∷ []) (Rest xs ∷ []) one two) h.fine tt refl

pub while_typed : (t : TypedSource) (f : Frame) (e : Expr) (b : Box Stmt Global) (r : Rounds) (todo todo' : List Todo) → IsTypedAct t f (pure_act (While e b)) todo
    → r.body.now ≡ b.value → option_copied r.advance ≡ None → todo' ≡ todo ++ Loop r ∷ [] → IsTypedBody t f todo'
while_typed t f e b r todo todo' h body_is advance_is more =
    let taken = taken_by t in
    let body : IsFine taken (h.here ∷ h.outer) [] (pure_act r.body.now.act) = subst (λ (s : Stmt). IsFine taken (h.here ∷ h.outer) [] (pure_act s.act)) (sym body_is) h.fine.1 in
    let advance : IsAdvance (held_by (option_copied r.advance)) = subst (λ (o : Option Stmt). IsAdvance (held_by o)) (sym advance_is) tt in
    let held : IsFineHeld taken h.outer h.here (held_by (option_copied r.advance)) = subst (λ (o : Option Stmt). IsFineHeld taken h.outer h.here (held_by o)) (sym advance_is) tt in
    typed_puts t f (h.here ∷ h.outer) (h.here ∷ h.outer) todo (Loop r ∷ []) todo' h.typed more (record { fine = (tt, (body, advance, held)); leaves = refl }) h.others

-- ---- acts of the tree, with their parts as the code holds them

pub wires_act_is : (task : Act) (c : Class) (ds xs : List Decl) → task ≡ Wires c ds → xs ≡ ds → pure_act task ≡ PureAct.wires c (map pure_decl xs)
wires_act_is task c ds xs is same = ap pure_act is ∙ (λ i. PureAct.wires c (map pure_decl (sym same i)))

pub numbers_act_is : (task : Act) (sort : NumSort) (ds xs : List Init) → task ≡ Numbers sort ds → xs ≡ ds → pure_act task ≡ PureAct.numbers sort (map pure_init xs)
numbers_act_is task sort ds xs is same = ap pure_act is ∙ (λ i. PureAct.numbers sort (map pure_init (sym same i)))

if_is : (e : Expr) (b : Box Stmt Global) (held : Option (Box Stmt Global)) → pure_act (If e b held) ≡ if_act e b.value (option_map (λ h. h.value) held)
if_is e b None = refl
if_is e b (Some o) = refl

pub if_act_is : (task : Act) (e : Expr) (b : Box Stmt Global) (held : Option (Box Stmt Global)) (body : Stmt) (other : Option Stmt)
    → task ≡ If e b held → body ≡ b.value → other ≡ option_map (λ h. h.value) held → pure_act task ≡ if_act e body other
if_act_is task e b held body other is body_is other_is = ap pure_act is ∙ if_is e b held ∙ (λ i. if_act e (sym body_is i) (sym other_is i))

for_is : (start : Option (Box Stmt Global)) (test : Option Expr) (advance : Option (Box Stmt Global)) (b : Box Stmt Global)
    → pure_act (For start test advance b)
    ≡ PureAct.for_loop (held_by (option_map (λ h. h.value) start)) (option_map pure_expr test) (held_by (option_map (λ h. h.value) advance)) b.value.place (pure_act b.value.act)
for_is None test None b = refl
for_is None test (Some a) b = refl
for_is (Some s) test None b = refl
for_is (Some s) test (Some a) b = refl

pub for_act_is : (task : Act) (start : Option (Box Stmt Global)) (test : Option Expr) (advance : Option (Box Stmt Global)) (b : Box Stmt Global) (first : Option Stmt) (r : Rounds)
    → task ≡ For start test advance b → first ≡ option_map (λ h. h.value) start → option_copied r.test ≡ test → r.body.now ≡ b.value → option_copied r.advance ≡ option_map (λ h. h.value) advance
    → pure_act task ≡ for_act first r
for_act_is task start test advance b first r is first_is test_is body_is advance_is =
    ap pure_act is
    ∙ for_is start test advance b
    ∙ (λ i. PureAct.for_loop (held_by (sym first_is i)) (option_map pure_expr (sym test_is i)) (held_by (sym advance_is i)) (sym body_is i).place (pure_act (sym body_is i).act))

pub block_act_is : (task : Act) (stmts : Vec Stmt Global) (xs : List Stmt) → task ≡ Block stmts → xs ≡ stmts.items → pure_act task ≡ block_act xs
block_act_is task stmts xs is xs_is = ap pure_act is ∙ pure_block stmts ∙ ap block_act (sym xs_is)

-- ---- statements one after another

rest_on : (t : TypedSource) (f : Frame) (xs : Bor (List Stmt)) (first : Bor Stmt) (rest : Bor (List Stmt)) (todo new : List Todo) (names : Stack) → xs.now ≡ first.now ∷ rest.now
    → new ≡ todo ++ Rest rest ∷ Do first ∷ [] → IsTyped names (view f) → IsFinePart (taken_by t) names (Rest xs) → AreFineParts (taken_by t) (behind (Rest xs) names) todo → IsTypedBody t f new
rest_on t f xs first rest todo new [] is more typed fine others = absurd fine
rest_on t f xs first rest todo new (here ∷ outer) is more typed fine others =
    let all : AreFine (taken_by t) outer here (pure_stmt_list (first.now ∷ rest.now)) = subst (λ (ys : List Stmt). AreFine (taken_by t) outer here (pure_stmt_list ys)) is fine in
    typed_puts t f (here ∷ outer) (behind (Rest xs) (here ∷ outer)) todo (Rest rest ∷ Do first ∷ []) new typed more
    (record { fine = ((tt, all.0), all.1); leaves = ap (λ (ys : List Stmt). names_behind here (pure_stmt_list ys) ∷ outer) (sym is) }) others

-- the first of statements, and the others
pub rest_typed : (t : TypedSource) (f : Frame) (xs : Bor (List Stmt)) (first : Bor Stmt) (rest : Bor (List Stmt)) (todo mid : List Todo) → xs.now ≡ first.now ∷ rest.now
    → mid ≡ todo ++ Rest rest ∷ [] → IsTypedBody t f (todo ++ Rest xs ∷ []) → IsTypedBody t f (mid ++ Do first ∷ [])
rest_typed t f xs first rest todo mid is more h =
    let part = typed_last t f todo (Rest xs) h in
    rest_on t f xs first rest todo (mid ++ Do first ∷ []) part.names is (more_parts todo mid (mid ++ Do first ∷ []) (Rest rest ∷ []) (Do first ∷ []) more refl) part.typed part.fine part.others

none_on : (t : TypedSource) (f : Frame) (xs : Bor (List Stmt)) (todo : List Todo) (names : Stack) → xs.now ≡ [] → IsTyped names (view f) → IsFinePart (taken_by t) names (Rest xs)
    → AreFineParts (taken_by t) (behind (Rest xs) names) todo → IsTypedBody t f todo
none_on t f xs todo [] is typed fine others = absurd fine
none_on t f xs todo (here ∷ outer) is typed fine others = record {
  names = here ∷ outer;
  typed = typed;
  fine = subst (λ (ys : List Stmt). AreFineParts (taken_by t) (names_behind here (pure_stmt_list ys) ∷ outer) todo) is others;
}

-- none is left
pub none_typed : (t : TypedSource) (f : Frame) (xs : Bor (List Stmt)) (todo : List Todo) → xs.now ≡ [] → IsTypedBody t f (todo ++ Rest xs ∷ []) → IsTypedBody t f todo
none_typed t f xs todo is h = let part = typed_last t f todo (Rest xs) h in none_on t f xs todo part.names is part.typed part.fine part.others

-- ---- the rounds of a loop

advance_same : (here : List Known) (p : Place) (a : PureAct) → IsAdvance (PureHeld.held p a) → names_after here a ≡ here
advance_same here p (PureAct.set name o mark e) h = refl
advance_same here p (PureAct.measure g into from) h = refl
advance_same here p a h = absurd h

-- a round and the loop again leave the names
round_puts : (taken : Taken) (here : List Known) (outer : Stack) (r : Rounds) → IsFinePart taken (here ∷ outer) (Loop r) → Puts taken ([] ∷ here ∷ outer) (here ∷ outer) (after_round r ++ Do r.body ∷ [])
round_puts taken here outer r h = by r.advance h.1 h.2
  where
    by : (advance : Option (Bor Stmt)) → IsAdvance (held_by (option_copied advance)) → IsFineHeld taken outer here (held_by (option_copied advance))
        → Puts taken ([] ∷ here ∷ outer) (here ∷ outer) ((Loop r ∷ (to_do advance ++ Leave ∷ [])) ++ Do r.body ∷ [])
    by None advances fine = record { fine = (((tt, h.0), tt), h); leaves = refl }
    by (Some p) advances fine =
        let same : names_after here (pure_act p.now.act) ≡ here = advance_same here p.now.place (pure_act p.now.act) advances in
        record {
          fine = ((((tt, h.0), tt), fine), subst (λ (n : List Known). IsFinePart taken (n ∷ outer) (Loop r)) (sym same) h);
          leaves = ap (λ (n : List Known). n ∷ outer) same;
        }

round_on : (t : TypedSource) (f g : Frame) (r : Rounds) (todo new : List Todo) (names : Stack) → view g ≡ with_scope (view f) → new ≡ todo ++ (after_round r ++ Do r.body ∷ [])
    → IsTyped names (view f) → IsFinePart (taken_by t) names (Loop r) → AreFineParts (taken_by t) names todo → IsTypedBody t g new
round_on t f g r todo new [] v more typed fine others = absurd fine
round_on t f g r todo new (here ∷ outer) v more typed fine others =
    typed_puts t g ([] ∷ here ∷ outer) (here ∷ outer) todo (after_round r ++ Do r.body ∷ []) new (typed_inside f g (here ∷ outer) v typed) more (round_puts (taken_by t) here outer r fine) others

-- another round begins
pub round_typed : (t : TypedSource) (f g : Frame) (r : Rounds) (todo mid todo' : List Todo) → view g ≡ with_scope (view f) → mid ≡ todo ++ after_round r → todo' ≡ mid ++ Do r.body ∷ []
    → IsTypedPart t f (Loop r) todo → IsTypedBody t g todo'
round_typed t f g r todo mid todo' v one two h =
    round_on t f g r todo todo' h.names v (more_parts todo mid todo' (after_round r) (Do r.body ∷ []) one two) h.typed h.fine h.others

-- the loop ends
pub ends_typed : (t : TypedSource) (f : Frame) (r : Rounds) (todo : List Todo) → IsTypedPart t f (Loop r) todo → IsTypedBody t f todo
ends_typed t f r todo h = record { names = h.names; typed = h.typed; fine = h.others }

-- ---- the end of a scope

pub leave_scope_typed : (t : TypedSource) (f g : Frame) (todo : List Todo) → view g ≡ without_scope (view f) → IsTypedBody t f (todo ++ Leave ∷ []) → IsTypedBody t g todo
leave_scope_typed t f g todo v h =
    let part = typed_last t f todo Leave h in
    record { names = drop 1 part.names; typed = subst (IsTyped (drop 1 part.names)) (sym v) (leave_typed (view f) part.names part.typed); fine = part.others }
