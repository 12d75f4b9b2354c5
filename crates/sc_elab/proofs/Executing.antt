-- A body with its calls, part by part.
use Rattle.std.proofs.Common.{◌≡◌, ℕ, ◌+◌, ◌*◌, ◌≤◌, Bool, true, false, cond, List, [], ◌∷◌, ◌++◌, length, Option, Some, None, Result, Ok, Err, refl, sym, ap, ◌∙◌, subst, arith}
use Rattle.std.specs.Prelude.{map, slice_get, IsSomeAnd}
use Rattle.std.specs.Option.{option_map}
use Rattle.std.specs.Borrow.{Bor}
use Rattle.sc_gate.specs.declared.gate.Wire.{Wire}
use Rattle.sc_gate.specs.Gates.{class_of}
use Rattle.sc_gate.specs.Numbers.{Numbers, both}
use Rattle.sc_deck.specs.declared.key.Key.{Key}
use Rattle.sc_deck.specs.declared.item.Item.{Item}
use Rattle.sc_deck.specs.declared.item.Item.TheVariants as item
use Rattle.sc_deck.specs.Bodies.{Contents, wires_of}
use Rattle.sc_deck.specs.Decks.{CallFits, CallsFit}
use Rattle.sc_deck.specs.Keys.{param_classes}
use Rattle.sc_deck.specs.Modules.{Module, key_of}
use Rattle.sc_deck.specs.Turns.{last_turns, with_folded}
use Rattle.sc_deck.proofs.BodyLemmas.{after_items-push}
use Rattle.sc_deck.proofs.FoldLaws.{with_folded-stands}
use Rattle.sc_syntax.specs.declared.Stmt.{Stmt}
use Rattle.sc_syntax.specs.Alike.{pure_stmt_list}
use Rattle.sc_types.specs.Typing.{TypedSource}
use Rattle.sc_meaning.proofs.Opening.{few_is}
use Rattle.sc_meaning.specs.declared.choice.Choice.{Choice}
use Rattle.sc_meaning.specs.declared.fault.ElabFault.{ElabFault}
use Rattle.sc_meaning.specs.declared.fault.ElabFault.TheVariants.{TooManyInstances}
use Rattle.sc_elab.specs.declared.frame.Frame.{Frame}
use Rattle.sc_elab.specs.declared.machine.Machine.{Machine}
use Rattle.sc_elab.specs.declared.todo.Todo.{Todo}
use Rattle.sc_elab.specs.declared.todo.Todo.TheVariants.{Rest}
use Rattle.sc_elab.specs.declared.todo.Request.{Request}
use Rattle.sc_meaning.specs.Definitions.{Program}
use Rattle.sc_elab.specs.Folding.{written, written_modules, IsFolded, HasRoom}
use Rattle.sc_elab.specs.Frames.{view, made, Advanced, StopsAt}
use Rattle.sc_meaning.specs.Local.{Half, Made, make, ran}
use Rattle.sc_elab.specs.Machines.{around, IsCalled, IsRefusedCall, RunsOn, IsRefusedOn}
use Rattle.sc_meaning.specs.Outcomes.{Outcome, Done, Stopped, then_do, leaving}
use Rattle.sc_elab.specs.Pending.{doing, pending, asked, after_asked}
use Rattle.sc_meaning.specs.Run.{Callee, finish, back_in, acts}
use Rattle.sc_meaning.specs.States.{State}
use Rattle.sc_meaning.specs.Values.{◌>>=◌}
use Rattle.sc_elab.specs.Typings.{IsTyped, IsTypedBody}
use Rattle.sc_elab.proofs.FoldedDecks.{calls_append}
use Rattle.sc_elab.proofs.Folding.{FoldsIn, folds_one, turns_more}
use Rattle.sc_elab.proofs.PendingLaws.{pending_last}
use Rattle.sc_meaning.proofs.Ran.{many, then_none, ran_next, ran_stop, ran_done}

-- the whole has come to what is still to do
abbrev pub Comes : Choice → Program → Callee → Outcome State → Machine → Frame → Machine → Frame → List Todo → Type 0
Comes choice program call whole m0 f0 m f todo =
    (ws : List Wire) (rest : List Half) → ran choice (around ws rest m0 f0) whole ≡ ran choice (around ws rest m f) (pending program call todo finish (view f))

-- at the beginning all statements are still to do
pub one_part_left : (todo none : List Todo) (xs : Bor (List Stmt)) → todo ≡ none ++ Rest xs ∷ [] → none ≡ [] → todo ≡ Rest xs ∷ []
one_part_left todo none xs is nothing = is ∙ ap (λ (ts : List Todo). ts ++ Rest xs ∷ []) nothing

pub comes_begin : (choice : Choice) (program : Program) (call : Callee) (xs : Bor (List Stmt)) (m : Machine) (f : Frame) (todo : List Todo) → todo ≡ Rest xs ∷ []
    → Comes choice program call (acts program call (pure_stmt_list xs.now) (view f)) m f m f todo
comes_begin choice program call xs m f todo is ws rest =
    ap (ran choice (around ws rest m f)) (sym (then_none (acts program call (pure_stmt_list xs.now) (view f))))
    ∙ (λ i. ran choice (around ws rest m f) (pending program call (sym is i) finish (view f)))

-- the last part is taken
pub comes_last : (choice : Choice) (program : Program) (call : Callee) (whole : Outcome State) (m0 m : Machine) (f0 f : Frame) (todo old : List Todo) (next : Todo)
    → todo ≡ old ++ next ∷ [] → Comes choice program call whole m0 f0 m f todo
    → (ws : List Wire) (rest : List Half) → ran choice (around ws rest m0 f0) whole ≡ ran choice (around ws rest m f) (then_do (doing program call next (view f)) (pending program call old finish))
comes_last choice program call whole m0 m f0 f todo old next is comes ws rest =
    comes ws rest
    ∙ ap (λ (ts : List Todo). ran choice (around ws rest m f) (pending program call ts finish (view f))) is
    ∙ ap (ran choice (around ws rest m f)) (pending_last program call old next finish (view f))

pub comes_advanced : (choice : Choice) (program : Program) (call : Callee) (whole : Outcome State) (m0 m : Machine) (f0 f g : Frame) (todo old todo' : List Todo) (next : Todo) (r : Option Request)
    → length m.entered.keys ≤ 65536 → todo ≡ old ++ next ∷ [] → Comes choice program call whole m0 f0 m f todo
    → Advanced program choice (λ c. doing program c next) f old r g todo'
    → (ws : List Wire) (rest : List Half) → ran choice (around ws rest m0 f0) whole ≡ ran choice (around ws rest m g) (after_asked call r (pending program call todo' finish) (view g))
comes_advanced choice program call whole m0 m f0 f g todo old todo' next r room is comes adv ws rest =
    comes_last choice program call whole m0 m f0 f todo old next is comes ws rest
    ∙ adv call finish ws rest (written_modules m.deck) m.entered.keys (few_is (length m.entered.keys) room)

-- without a call it goes on
pub comes_on : (choice : Choice) (program : Program) (call : Callee) (whole : Outcome State) (m0 m : Machine) (f0 f g : Frame) (todo old todo' : List Todo) (next : Todo)
    → length m.entered.keys ≤ 65536 → todo ≡ old ++ next ∷ [] → Comes choice program call whole m0 f0 m f todo
    → Advanced program choice (λ c. doing program c next) f old None g todo' → Comes choice program call whole m0 f0 m g todo'
comes_on choice program call whole m0 m f0 f g todo old todo' next room is comes adv ws rest =
    comes_advanced choice program call whole m0 m f0 f g todo old todo' next None room is comes adv ws rest

-- a call is made, and it goes on
pub comes_called : (choice : Choice) (program : Program) (call : Callee) (whole : Outcome State) (m0 m m' : Machine) (f0 f g h : Frame) (todo old todo' : List Todo) (next : Todo) (r : Request)
    → length m.entered.keys ≤ 65536 → todo ≡ old ++ next ∷ [] → Comes choice program call whole m0 f0 m f todo
    → Advanced program choice (λ c. doing program c next) f old (Some r) g todo' → RunsOn choice (asked call r (view g)) m g m' h
    → Comes choice program call whole m0 f0 m' h todo'
comes_called choice program call whole m0 m m' f0 f g h todo old todo' next r room is comes adv runs ws rest =
    comes_advanced choice program call whole m0 m f0 f g todo old todo' next (Some r) room is comes adv ws rest
    ∙ ran_next choice (around ws rest m g) (around ws rest m' h) (asked call r (view g)) (view h) (pending program call todo' finish) (runs ws rest)

-- a part is refused
pub comes_stop : (choice : Choice) (program : Program) (call : Callee) (whole : Outcome State) (m0 m : Machine) (f0 f : Frame) (todo old : List Todo) (next : Todo) (fault : ElabFault)
    → length m.entered.keys ≤ 65536 → todo ≡ old ++ next ∷ [] → Comes choice program call whole m0 f0 m f todo
    → StopsAt choice (λ c. doing program c next) f fault → IsRefusedOn choice whole m0 f0 fault
comes_stop choice program call whole m0 m f0 f todo old next fault room is comes stops ws rest =
    comes_last choice program call whole m0 m f0 f todo old next is comes ws rest
    ∙ ran_stop choice (around ws rest m f) (doing program call next (view f)) fault (pending program call old finish)
    (stops call ws rest (written_modules m.deck) m.entered.keys (few_is (length m.entered.keys) room))

-- a call is refused
pub comes_refused : (choice : Choice) (program : Program) (call : Callee) (whole : Outcome State) (m0 m : Machine) (f0 f g : Frame) (todo old todo' : List Todo) (next : Todo) (r : Request) (fault : ElabFault)
    → length m.entered.keys ≤ 65536 → todo ≡ old ++ next ∷ [] → Comes choice program call whole m0 f0 m f todo
    → Advanced program choice (λ c. doing program c next) f old (Some r) g todo' → IsRefusedOn choice (asked call r (view g)) m g fault
    → IsRefusedOn choice whole m0 f0 fault
comes_refused choice program call whole m0 m f0 f g todo old todo' next r fault room is comes adv refused ws rest =
    comes_advanced choice program call whole m0 m f0 f g todo old todo' next (Some r) room is comes adv ws rest
    ∙ ran_stop choice (around ws rest m g) (asked call r (view g)) fault (pending program call todo' finish) (refused ws rest)

-- nothing is left
pub comes_end : (choice : Choice) (program : Program) (call : Callee) (whole : Outcome State) (m0 m : Machine) (f0 f : Frame) (todo : List Todo)
    → length m.entered.keys ≤ 65536 → length todo ≡ 0 → Comes choice program call whole m0 f0 m f todo → RunsOn choice whole m0 f0 m f
comes_end choice program call whole m0 m f0 f [] room none comes ws rest =
    comes ws rest ∙ ran_done choice (around ws rest m f) (view f) (few_is (length m.entered.keys) room)
comes_end choice program call whole m0 m f0 f (t ∷ todo) room none comes ws rest = absurd (omega arith)

-- ---- calls

leaving_by : {A B : Type 0} (g : A → B) (b : Bool) (r : Result (A × Made) ElabFault) (q : Result (B × Made) ElabFault) → (r >>= λ p. Ok (g p.0, p.1)) ≡ q
    → cond b (Err TooManyInstances) q ≡ (cond b (Err TooManyInstances) r >>= λ p. Ok (g p.0, p.1))
leaving_by g true r q h = refl
leaving_by g false r q h = sym h

pub ran_leaving : {A B : Type 0} (choice : Choice) (m : Made) (g : A → B) (o : Outcome A) → ran choice m (leaving g o) ≡ (ran choice m o >>= λ p. Ok (g p.0, p.1))
ran_leaving {A} {B} choice m g (Done x a) = leaving_by g (many (make choice x m)) (Ok (a, make choice x m)) (Ok (g a, make choice x m)) refl
ran_leaving {A} {B} choice m g (Stopped x f) =
    let r : Result (A × Made) ElabFault = Err f in
    let q : Result (B × Made) ElabFault = Err f in
    leaving_by g (many (make choice x m)) r q refl

-- the caller gets a call item, folded
module _ (f g : Frame) (number : ℕ) (ws : List Wire) (body : g.body ≡ record f.body { items = with_folded f.body.items (item.Call number ws) }) where
  called_wires : wires_of g.body ≡ wires_of f.body
  called_wires =
      ap wires_of body ∙ (with_folded-stands f.body.items (item.Call number ws)).after f.body.params ∙ after_items-push f.body.params f.body.items (item.Call number ws)

  pub view_called : g ≡ record f { body = g.body } → view g ≡ view f
  view_called same = ap view same ∙ (λ i. record (view f) { next = called_wires i; width = both (called_wires i) })

  pub folds_called : IsFolded f.body.items → FoldsIn f.body.items (item.Call number ws ∷ []) g.body.items
  folds_called folded =
      subst (FoldsIn f.body.items (item.Call number ws ∷ [])) (sym (ap (λ (b : Contents). b.items) body)) (folds_one f.body.items (item.Call number ws) refl folded)

  pub calls_called : (deck : List Module) → CallsFit deck f.body.items → CallFits deck number ws → CallsFit deck g.body.items
  calls_called deck fit one =
      subst (CallsFit deck) (sym (ap (λ (b : Contents). b.items) body))
      ((with_folded-stands f.body.items (item.Call number ws)).call deck (calls_append deck f.body.items (item.Call number ws ∷ []) fit (one, tt)))

  pub room_called : g ≡ record f { body = g.body } → last_turns f.body.items + 1 + 64 * f.steps ≤ 64 * 1048576 → HasRoom g
  room_called same room =
      let turns : last_turns g.body.items ≤ last_turns f.body.items + 1 =
      subst (λ (l : List Item). last_turns l ≤ last_turns f.body.items + 1) (sym (ap (λ (b : Contents). b.items) body)) (turns_more f.body.items (item.Call number ws) refl) in
      let steps : g.steps ≡ f.steps = ap (λ (h : Frame). h.steps) same in
      omega arith

-- a call of a body that is there
pub call_fits : (deck : List Module) (number : ℕ) (key : Key) (ws : List Wire) → option_map key_of (slice_get deck number) ≡ Some key → map class_of ws ≡ param_classes key → CallFits deck number ws
call_fits deck number key ws is classes = by (slice_get deck number) is
  where
    by : (o : Option Module) → option_map key_of o ≡ Some key → IsSomeAnd o (λ m. map class_of ws ≡ param_classes m.key)
    by None e = absurd (let impossible : None ≡ Some key = e in cc)
    by (Some m) e = let same : m.key ≡ key = cc in classes ∙ ap param_classes (sym same)

-- what is said of a body that is being run speaks of what it is to the run
pub typed_same : (t : TypedSource) (f g : Frame) (todo : List Todo) → view g ≡ view f → IsTypedBody t f todo → IsTypedBody t g todo
typed_same t f g todo same h = record { names = h.names; typed = subst (IsTyped h.names) (sym same) h.typed; fine = h.fine }

pub call_runs : (choice : Choice) (call : Callee) (r : Request) (m m' : Machine) (f g : Frame) (number : ℕ)
    → IsCalled choice (call r.key) m number m' → g.body ≡ record f.body { items = with_folded f.body.items (item.Call number r.wires.items) } → g ≡ record f { body = g.body } → IsFolded f.body.items
    → RunsOn choice (asked call r (view f)) m f m' g
call_runs choice call r m m' f g number called body same folded ws rest =
    let back : Numbers × Made → Result (State × Made) ElabFault = λ p. Ok (back_in (view f) p.0, p.1) in
    let items : written g.body.items ≡ written f.body.items ++ item.Call number r.wires.items ∷ [] = (folds_called f g number r.wires.items body folded).stands in
    let v = view_called f g number r.wires.items body same in
    ran_leaving choice (around ws rest m f) (back_in (view f)) (call r.key r.wires.items (view f).next)
    ∙ ap (λ (x : Result (Numbers × Made) ElabFault). x >>= back) (called r.wires.items (view f).next (record { wires = ws; items = written f.body.items } ∷ rest))
    ∙ (λ i. Ok (sym v i, made ws (sym items i) rest (written_modules m'.deck) m'.entered.keys))

pub call_refused : (choice : Choice) (call : Callee) (r : Request) (m : Machine) (f : Frame) (fault : ElabFault)
    → IsRefusedCall choice (call r.key) m fault → IsRefusedOn choice (asked call r (view f)) m f fault
call_refused choice call r m f fault refused ws rest =
    let back : Numbers × Made → Result (State × Made) ElabFault = λ p. Ok (back_in (view f) p.0, p.1) in
    ran_leaving choice (around ws rest m f) (back_in (view f)) (call r.key r.wires.items (view f).next)
    ∙ ap (λ (x : Result (Numbers × Made) ElabFault). x >>= back) (refused r.wires.items (view f).next (record { wires = ws; items = written f.body.items } ∷ rest))
