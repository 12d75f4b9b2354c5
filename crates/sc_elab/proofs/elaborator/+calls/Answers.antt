use Rattle.std.proofs.Common.{◌≡◌, ℕ, ◌<◌, ◌≤◌, ◌-◌, List, [], ◌∷◌, ◌++◌, length, Option, Some, refl, sym, ap, ◌∙◌, subst, arith, length-append}
use Rattle.std.specs.Prelude.{map, slice_get, slice_index, IfSome, IfNone}
use Rattle.std.specs.FinMap.{empty}
use Rattle.std.specs.Option.{option_map}
use Rattle.std.proofs.lemmas.Result.{err_from_is_err_and, IfOk-weaker, IfErr-weaker}
use Rattle.sc_gate.specs.declared.gate.Wire.{Wire}
use Rattle.sc_gate.specs.Gates.{class_of, AreDistinct}
use Rattle.sc_gate.specs.Numbers.{AreThere}
use Rattle.sc_syntax.specs.declared.Stmt.{Stmt}
use Rattle.sc_syntax.specs.Alike.{pure_param, pure_stmt_list}
use Rattle.sc_value.specs.Scopes.{Scopes}
use Rattle.sc_deck.specs.declared.item.Item.TheVariants as item
use Rattle.sc_deck.specs.Bodies.{Contents, wires_of}
use Rattle.sc_deck.specs.Decks.{CallsFit, IsNewKey}
use Rattle.sc_deck.specs.Modules.{Module as Instance, key_of, heights_of}
use Rattle.sc_deck.specs.Turns.{with_folded}
use Rattle.sc_deck.proofs.CallLaws.{CallsFit-more}
use Rattle.sc_elab.specs.declared.callee.Callee.{Callee}
use Rattle.sc_elab.specs.declared.frame.Frame.{Frame}
use Rattle.sc_elab.specs.declared.todo.Todo.{Todo}
use Rattle.sc_elab.specs.declared.todo.Request.{Request}
use Rattle.sc_elab.specs.Callees.{definition_by}
use Rattle.sc_elab.specs.Folding.{IsFolded, HasRoomFor}
use Rattle.sc_elab.specs.Frames.{view, Advanced}
use Rattle.sc_elab.specs.Machines.{IsRefusedCall, RunsOn, IsRefusedOn}
use Rattle.sc_elab.specs.Pending.{doing, leaves}
use Rattle.sc_elab.specs.Typings.{Takes, IsTypedBody, IsTypedCall}
use Rattle.sc_meaning.specs.declared.fault.ElabFault.{ElabFault}
use Rattle.sc_meaning.specs.Definitions.{Definition}
use Rattle.sc_meaning.specs.Instances.{number_in_deck}
use Rattle.sc_meaning.specs.Kept.{In}
use Rattle.sc_meaning.specs.Local.{local}
use Rattle.sc_meaning.specs.Programs.{program_of, function_of}
use Rattle.sc_meaning.specs.Run.{acts}
use Rattle.sc_meaning.specs.States.{State}
use Rattle.sc_elab.proofs.Adding.{key_there, key_pushed, number_new}
use Rattle.sc_elab.proofs.Calling.{call_deep, call_many, call_refused_inside, call_made, call_kept, call_too_deep, keeps_entered, new_still, room_for, keeps_pushed, grows_none, grows_then, body_module, body_stopped, body_function, body_wide, called_at, refused_call_at}
use Rattle.sc_elab.proofs.Executing.{one_part_left, comes_begin, comes_on, comes_called, comes_stop, comes_refused, comes_end, view_called, folds_called, calls_called, room_called, call_fits, typed_same, call_runs, call_refused}
use Rattle.sc_elab.proofs.Keeping.{length_number_params}
use Rattle.sc_elab.proofs.elaborator.+calls.Goals as goal

-- ---- the statements of a body

pub exec-pending-init : goal.exec-pending-init
exec-pending-init t c =
    let program = program_of c.args.given.checked.now in
    let one = one_part_left c.push.new.todo.items c.new-todo.result.items c.args.stmts c.in_ok-push.ensures c.new-todo.ensures.items in
    record {
      kept = c.requires.kept;
      grows = grows_none c.args.machine.now.deck;
      typed = subst (IsTypedBody c.args.given.checked.now c.args.frame.now) (sym one) c.requires.typed;
      turns = c.requires.turns;
      folded = c.requires.folded;
      calls = c.requires.calls;
      params = refl;
      nested = subst (λ (ts : List Todo). leaves ts < length c.args.frame.now.numbers) (sym one) c.requires.scoped;
      comes = comes_begin c.args.given.choice program (local program c.args.depth) c.args.stmts c.args.machine.now c.args.frame.now c.push.new.todo.items one;
    }

pub exec-advance-requires-clause-typed : goal.exec-advance-requires-clause-typed
exec-advance-requires-clause-typed t c = subst (IsTypedBody c.args.given.checked.now c.pending.frame) c.in-Some.ensures.items c.pending.invariant.typed

pub exec-advance-requires-clause-nested : goal.exec-advance-requires-clause-nested
exec-advance-requires-clause-nested t c = subst (λ (ts : List Todo). leaves ts < length c.pending.frame.numbers) c.in-Some.ensures.items c.pending.invariant.nested

pub exec-returns-in_err-request-clause-err : goal.exec-returns-in_err-request-clause-err
exec-returns-in_err-request-clause-err t c =
    let program = program_of c.args.given.checked.now in
    let call = local program c.args.depth in
    let p = err_from_is_err_and c.from_residual-in_err-request.result c.from_residual-in_err-request.ensures.1 in
    rw (p.1, p.2) (λ other.
    comes_stop c.args.given.choice program call (acts program call (pure_stmt_list c.args.stmts.now) (view c.args.frame.now)) c.args.machine.now c.pending.machine c.args.frame.now c.pending.frame
    c.pending.todo.items c.pop.new.self.items c.in-Some.next _ c.pending.invariant.kept.few c.in-Some.ensures.items c.pending.invariant.comes (c.in_err-request.ensures.err other))

pub exec-pending-smaller-in_default-2 : goal.exec-pending-smaller-in_default-2
exec-pending-smaller-in_default-2 t c =
    let more = ap length c.in-Some.ensures.items ∙ length-append c.pop.new.self.items (c.in-Some.next ∷ []) in
    let falls = c.in_ok-request.ensures.falls in
    omega arith

pub exec-pending-preserved-in_default-2 : goal.exec-pending-preserved-in_default-2
exec-pending-preserved-in_default-2 t c =
    let program = program_of c.args.given.checked.now in
    let call = local program c.args.depth in
    let f = c.pending.frame in
    let g = c.advance.new.frame in
    let old = c.pop.new.self.items in
    let todo' = c.advance.new.todo.items in
    record {
      kept = c.pending.invariant.kept;
      grows = c.pending.invariant.grows;
      typed = c.in_ok-request.ensures.typed;
      turns = subst (λ (r : Option Request). HasRoomFor r g) c.in_default-2.is c.in_ok-request.ensures.turns;
      folded = c.in_ok-request.ensures.folded;
      calls = c.in_ok-request.ensures.calls c.pending.machine.deck c.pending.invariant.calls;
      params = c.in_ok-request.ensures.params ∙ c.pending.invariant.params;
      nested = c.in_ok-request.ensures.nested;
      comes = comes_on c.args.given.choice program call (acts program call (pure_stmt_list c.args.stmts.now) (view c.args.frame.now)) c.args.machine.now c.pending.machine c.args.frame.now f g
          c.pending.todo.items old todo' c.in-Some.next c.pending.invariant.kept.few c.in-Some.ensures.items c.pending.invariant.comes
          (subst (λ (r : Option Request). Advanced program c.args.given.choice (λ k. doing program k c.in-Some.next) f old r g todo') c.in_default-2.is c.in_ok-request.ensures.ok);
    }

pub exec-call_from-requires : goal.exec-call_from-requires
exec-call_from-requires t c =
    let called = subst (λ (r : Option Request). IfSome r (λ q. IsTypedCall c.args.given.checked.now c.advance.new.frame q)) c.in-Some-2.is c.in_ok-request.ensures.call in
    let turns = subst (λ (r : Option Request). HasRoomFor r c.advance.new.frame) c.in-Some-2.is c.in_ok-request.ensures.turns in
    let calls = c.in_ok-request.ensures.calls c.pending.machine.deck c.pending.invariant.calls in
    (omega arith, (c.requires.accepted, (c.requires.depth, (c.pending.invariant.kept, (called, (turns, (c.in_ok-request.ensures.folded, calls)))))))

pub exec-returns-in_err-call_from-clause-err : goal.exec-returns-in_err-call_from-clause-err
exec-returns-in_err-call_from-clause-err t c =
    let program = program_of c.args.given.checked.now in
    let call = local program c.args.depth in
    let f = c.pending.frame in
    let g = c.advance.new.frame in
    let old = c.pop.new.self.items in
    let todo' = c.advance.new.todo.items in
    let p = err_from_is_err_and c.from_residual-in_err-call_from.result c.from_residual-in_err-call_from.ensures.1 in
    rw (p.1, p.2) (λ other.
    comes_refused c.args.given.choice program call (acts program call (pure_stmt_list c.args.stmts.now) (view c.args.frame.now)) c.args.machine.now c.pending.machine c.args.frame.now f g
    c.pending.todo.items old todo' c.in-Some.next c.in-Some-2.request _ c.pending.invariant.kept.few c.in-Some.ensures.items c.pending.invariant.comes
    (subst (λ (r : Option Request). Advanced program c.args.given.choice (λ k. doing program k c.in-Some.next) f old r g todo') c.in-Some-2.is c.in_ok-request.ensures.ok)
    (c.in_err-call_from.ensures.err other))

pub exec-pending-smaller : goal.exec-pending-smaller
exec-pending-smaller t c =
    let more = ap length c.in-Some.ensures.items ∙ length-append c.pop.new.self.items (c.in-Some.next ∷ []) in
    let falls = c.in_ok-request.ensures.falls in
    let steps = ap (λ (h : Frame). h.steps) c.in_ok-call_from.ensures.others in
    omega arith

pub exec-pending-preserved : goal.exec-pending-preserved
exec-pending-preserved t c =
    let program = program_of c.args.given.checked.now in
    let call = local program c.args.depth in
    let f = c.pending.frame in
    let g = c.advance.new.frame in
    let h = c.call_from.new.frame in
    let old = c.pop.new.self.items in
    let todo' = c.advance.new.todo.items in
    record {
      kept = c.in_ok-call_from.ensures.kept;
      grows = grows_then c.args.machine.now.deck c.pending.machine.deck c.call_from.new.machine.deck c.pending.invariant.grows c.in_ok-call_from.ensures.grows;
      typed = typed_same c.args.given.checked.now g h todo' c.in_ok-call_from.ensures.view c.in_ok-request.ensures.typed;
      turns = c.in_ok-call_from.ensures.turns;
      folded = c.in_ok-call_from.ensures.folded;
      calls = c.in_ok-call_from.ensures.calls;
      params = c.in_ok-call_from.ensures.params ∙ c.in_ok-request.ensures.params ∙ c.pending.invariant.params;
      nested = subst (λ (n : Scopes). leaves todo' < length n) (sym (ap (λ (x : Frame). x.numbers) c.in_ok-call_from.ensures.others)) c.in_ok-request.ensures.nested;
      comes = comes_called c.args.given.choice program call (acts program call (pure_stmt_list c.args.stmts.now) (view c.args.frame.now)) c.args.machine.now c.pending.machine c.call_from.new.machine c.args.frame.now f g h
          c.pending.todo.items old todo' c.in-Some.next c.in-Some-2.request c.pending.invariant.kept.few c.in-Some.ensures.items c.pending.invariant.comes
          (subst (λ (r : Option Request). Advanced program c.args.given.choice (λ k. doing program k c.in-Some.next) f old r g todo') c.in-Some-2.is c.in_ok-request.ensures.ok)
          c.in_ok-call_from.ensures.ok;
    }

pub exec-returns-clause-ok : goal.exec-returns-clause-ok
exec-returns-clause-ok t c =
    let program = program_of c.args.given.checked.now in
    let call = local program c.args.depth in
    let none : length c.pending.todo.items ≡ 0 = let n = c.in_default.ensures.cases.0 in let k = c.pending.todo.ok.0 in omega arith in
    comes_end c.args.given.choice program call (acts program call (pure_stmt_list c.args.stmts.now) (view c.args.frame.now)) c.args.machine.now c.pending.machine c.args.frame.now c.pending.frame
    c.pending.todo.items c.pending.invariant.kept.few none c.pending.invariant.comes

-- ---- a call from a body

pub call_from-returns-in_err-number-clause-err : goal.call_from-returns-in_err-number-clause-err
call_from-returns-in_err-number-clause-err t c =
    let program = program_of c.args.given.checked.now in
    let p = err_from_is_err_and c.from_residual.result c.from_residual.ensures.1 in
    rw (p.1, p.2) (λ other. call_refused c.args.given.choice (local program c.args.depth) c.args.request c.args.machine.now c.args.frame.now _ (c.in_err-number.ensures.err other))

pub call_from-fold_call-requires-clause-distinct : goal.call_from-fold_call-requires-clause-distinct
call_from-fold_call-requires-clause-distinct t c = subst AreDistinct (sym c.deref.ensures.value) c.requires.call.distinct

pub call_from-fold_call-requires-clause-there : goal.call_from-fold_call-requires-clause-there
call_from-fold_call-requires-clause-there t c = subst (AreThere (wires_of c.args.frame.now.body)) (sym c.deref.ensures.value) c.requires.call.there

pub call_from-returns-clause-turns : goal.call_from-returns-clause-turns
call_from-returns-clause-turns t c =
    let f = c.args.frame.now in
    room_called f (record f { body = c.fold_call.new.self }) c.in_ok-number.number c.deref.result.now c.in_ok-fold_call.ensures.ok refl c.requires.turns

pub call_from-returns-clause-folded : goal.call_from-returns-clause-folded
call_from-returns-clause-folded t c =
    let f = c.args.frame.now in
    (folds_called f (record f { body = c.fold_call.new.self }) c.in_ok-number.number c.deref.result.now c.in_ok-fold_call.ensures.ok c.requires.folded).is_folded

pub call_from-returns-clause-calls : goal.call_from-returns-clause-calls
call_from-returns-clause-calls t c =
    let f = c.args.frame.now in
    let deck = c.call.new.machine.deck in
    let grown : CallsFit deck f.body.items =
    subst (λ (d : List Instance). CallsFit d f.body.items) (sym c.in_ok-number.ensures.grows.is) (CallsFit-more c.args.machine.now.deck c.in_ok-number.ensures.grows.more f.body.items c.requires.calls) in
    let one = call_fits deck c.in_ok-number.number c.args.request.key c.deref.result.now c.in_ok-number.ensures.key (ap (map class_of) c.deref.ensures.value ∙ c.requires.call.classes) in
    calls_called f (record f { body = c.fold_call.new.self }) c.in_ok-number.number c.deref.result.now c.in_ok-fold_call.ensures.ok deck grown one

pub call_from-returns-clause-params : goal.call_from-returns-clause-params
call_from-returns-clause-params t c = ap (λ (b : Contents). b.params) c.in_ok-fold_call.ensures.ok

pub call_from-returns-clause-view : goal.call_from-returns-clause-view
call_from-returns-clause-view t c =
    let f = c.args.frame.now in
    view_called f (record f { body = c.fold_call.new.self }) c.in_ok-number.number c.deref.result.now c.in_ok-fold_call.ensures.ok refl

pub call_from-returns-clause-ok : goal.call_from-returns-clause-ok
call_from-returns-clause-ok t c =
    let program = program_of c.args.given.checked.now in
    let f = c.args.frame.now in
    let body = c.in_ok-fold_call.ensures.ok ∙ ap (λ (ws : List Wire). record f.body { items = with_folded f.body.items (item.Call c.in_ok-number.number ws) }) c.deref.ensures.value in
    call_runs c.args.given.choice (local program c.args.depth) c.args.request c.args.machine.now c.call.new.machine f (record f { body = c.fold_call.new.self }) c.in_ok-number.number
    c.in_ok-number.ensures.ok body refl c.requires.folded

-- ---- the body of a key

pub body_of-start_frame-requires-clause-defined : goal.body_of-start_frame-requires-clause-defined
body_of-start_frame-requires-clause-defined t c = sym c.in-Some.ensures ∙ ap (λ (d : Callee). Some (definition_by d)) c.in-Module.is

pub body_of-exec-requires : goal.body_of-exec-requires
body_of-exec-requires t c =
    let f = c.in_ok-frame-in-Module.frame in
    let one : length f.numbers ≡ 1 =
    ap (λ (s : State). length s.numbers) c.in_ok-frame-in-Module.ensures.view ∙ length_number_params (map pure_param c.in-Module.called.now.params) c.args.key.now.args (empty ∷ []) in
    let none : f.body.items ≡ [] = c.in_ok-frame-in-Module.ensures.items in (
      omega arith,
      (
        c.requires.accepted,
        (
          c.requires.depth,
          (
            c.requires.kept,
            (
              omega arith,
              (c.in_ok-frame-in-Module.ensures.typed c.as_slice.result c.as_slice.ensures, (c.in_ok-frame-in-Module.ensures.turns, (subst IsFolded (sym none) refl, subst (CallsFit c.args.machine.now.deck) (sym none) tt))),
            ),
          ),
        ),
      ),
    )

pub body_of-returns-in_ok-exec-in-Module-clause-ok : goal.body_of-returns-in_ok-exec-in-Module-clause-ok
body_of-returns-in_ok-exec-in-Module-clause-ok t c =
    let program = program_of c.args.given.checked.now in
    let n = c.args.depth in
    let key = c.args.key.now in
    let m = c.args.machine.now in
    let called = c.in-Module.called.now in
    let is = sym c.in-Some.ensures ∙ ap (λ (d : Callee). Some (definition_by d)) c.in-Module.is in
    let f = c.in_ok-frame-in-Module.frame in
    let g = c.exec.new.frame in
    let start = c.in_ok-frame-in-Module.ensures.view in
    let runs = subst (λ (ss : List Stmt). RunsOn c.args.given.choice (acts program (local program n) (pure_stmt_list ss) (view f)) m f c.exec.new.machine g) c.as_slice.ensures c.in_ok-exec-in-Module.ensures.ok in
    record {
      own = (view g).next;
      runs = body_module c.args.given.choice program n key m c.exec.new.machine called.name (map pure_param called.params) (pure_stmt_list called.body) f g is start c.in_ok-frame-in-Module.ensures.items runs;
    }

pub body_of-returns-in_err-exec-in-Module-clause-err : goal.body_of-returns-in_err-exec-in-Module-clause-err
body_of-returns-in_err-exec-in-Module-clause-err t c =
    let program = program_of c.args.given.checked.now in
    let n = c.args.depth in
    let key = c.args.key.now in
    let m = c.args.machine.now in
    let called = c.in-Module.called.now in
    let is = sym c.in-Some.ensures ∙ ap (λ (d : Callee). Some (definition_by d)) c.in-Module.is in
    let f = c.in_ok-frame-in-Module.frame in
    let start = c.in_ok-frame-in-Module.ensures.view in
    let p = err_from_is_err_and c.from_residual-in_err-exec-in-Module.result c.from_residual-in_err-exec-in-Module.ensures.1 in
    rw (p.1, p.2) (λ other.
    body_stopped c.args.given.choice program n key m called.name (map pure_param called.params) (pure_stmt_list called.body) f _ is start c.in_ok-frame-in-Module.ensures.items
    (subst (λ (ss : List Stmt). IsRefusedOn c.args.given.choice (acts program (local program n) (pure_stmt_list ss) (view f)) m f c.in_err-exec-in-Module.field-0.0) c.as_slice.ensures (c.in_err-exec-in-Module.ensures.err other)))

pub body_of-function_body-requires : goal.body_of-function_body-requires
body_of-function_body-requires t c =
    let is = sym c.in-Some.ensures ∙ ap (λ (d : Callee). Some (definition_by d)) c.in-Words.is in
    subst (λ (o : Option Definition). Takes o c.args.key.now) is c.requires.entering.takes

pub body_of-returns-in-Words-clause-ok : goal.body_of-returns-in-Words-clause-ok
body_of-returns-in-Words-clause-ok t c =
    let program = program_of c.args.given.checked.now in
    let is = sym c.in-Some.ensures ∙ ap (λ (d : Callee). Some (definition_by d)) c.in-Words.is in
    IfOk-weaker c.function_body.result _ _
    (λ body h. record {
      own = wires_of body;
      runs = body_function c.args.given.choice program c.args.depth c.args.key.now c.args.machine.now c.in-Words.name.now (function_of c.in-Words.function.now) body is h c.requires.kept.few;
    })
    c.function_body.ensures.ok

pub body_of-returns-in-Words-clause-calls : goal.body_of-returns-in-Words-clause-calls
body_of-returns-in-Words-clause-calls t c = IfOk-weaker c.function_body.result _ _ (λ body h. h c.args.machine.now.deck) c.function_body.ensures.calls

pub body_of-returns-in-Words-clause-err : goal.body_of-returns-in-Words-clause-err
body_of-returns-in-Words-clause-err t c =
    let program = program_of c.args.given.checked.now in
    let is = sym c.in-Some.ensures ∙ ap (λ (d : Callee). Some (definition_by d)) c.in-Words.is in
    IfErr-weaker c.function_body.result _ _
    (λ f h other. body_wide c.args.given.choice program c.args.depth c.args.key.now c.args.machine.now c.in-Words.name.now (function_of c.in-Words.function.now) f is (h other) c.requires.kept.few)
    c.function_body.ensures.err

-- ---- a call of a key

pub call-returns-in_err-number-clause-err : goal.call-returns-in_err-number-clause-err
call-returns-in_err-number-clause-err t c =
    let p = err_from_is_err_and c.from_residual.result c.from_residual.ensures.1 in
    rw (p.1, p.2) (λ other.
    subst (λ (f : ElabFault). IsRefusedCall c.args.given.choice (local (program_of c.args.given.checked.now) c.args.depth c.args.key) c.args.machine.now f) (sym c.in_err-number.ensures.err)
    (call_too_deep c.args.given.checked.now c.args.machine.now c.requires.kept c.args.key c.requires.entering c.in_err-number.ensures.deep c.args.given.choice c.args.depth c.in_err-number.ensures.high))

pub call-returns-in-Some-clause-grows : goal.call-returns-in-Some-clause-grows
call-returns-in-Some-clause-grows t c = grows_none c.args.machine.now.deck

pub call-returns-in-Some-clause-key : goal.call-returns-in-Some-clause-key
call-returns-in-Some-clause-key t c =
    let deck = c.args.machine.now.deck in
    let number = subst (λ (o : Option ℕ). IfSome o (λ n. n ≡ number_in_deck deck c.args.key)) c.in-Some.is c.in_ok-number.ensures.number in
    let there = subst (λ (o : Option ℕ). IfSome o (λ n. In deck c.args.key)) c.in-Some.is c.in_ok-number.ensures.there in
    ap (λ (n : ℕ). option_map key_of (slice_get deck n)) number ∙ key_there deck c.args.key there

pub call-returns-in-Some-clause-ok : goal.call-returns-in-Some-clause-ok
call-returns-in-Some-clause-ok t c =
    let deck = c.args.machine.now.deck in
    let number = subst (λ (o : Option ℕ). IfSome o (λ n. n ≡ number_in_deck deck c.args.key)) c.in-Some.is c.in_ok-number.ensures.number in
    let there = subst (λ (o : Option ℕ). IfSome o (λ n. In deck c.args.key)) c.in-Some.is c.in_ok-number.ensures.there in
    let low = subst (λ (o : Option ℕ). IfSome o (λ n. slice_index (heights_of deck) n ≤ c.args.depth)) c.in-Some.is c.in_ok-number.ensures.low in
    call_kept c.args.given.checked.now c.args.machine.now c.requires.kept c.args.key c.requires.entering there c.requires.accepted c.args.given.choice c.in-Some.number c.args.depth number low c.requires.depth

pub call-returns-then-depth-eq0-clause-err : goal.call-returns-then-depth-eq0-clause-err
call-returns-then-depth-eq0-clause-err t c = λ other. rw c.if-depth-eq0.true (call_deep c.args.given.choice (program_of c.args.given.checked.now) c.args.key c.args.machine.now c.requires.kept.few)

pub call-returns-in_err-enter-clause-err : goal.call-returns-in_err-enter-clause-err
call-returns-in_err-enter-clause-err t c =
    let program = program_of c.args.given.checked.now in
    let p = err_from_is_err_and c.from_residual-in_err-enter.result c.from_residual-in_err-enter.ensures.1 in
    rw (p.1, p.2) (λ other.
    refused_call_at c.args.given.choice program c.args.depth c.args.key c.args.machine.now _ c.if-depth-eq0.false
    (call_many c.args.given.choice program (c.args.depth - 1) c.args.key c.args.machine.now _ (c.in_err-enter.ensures.err other)))

pub call-returns-in_err-body-clause-err : goal.call-returns-in_err-body-clause-err
call-returns-in_err-body-clause-err t c =
    let program = program_of c.args.given.checked.now in
    let p = err_from_is_err_and c.from_residual-in_err-body.result c.from_residual-in_err-body.ensures.1 in
    rw (p.1, p.2) (λ other.
    refused_call_at c.args.given.choice program c.args.depth c.args.key c.args.machine.now _ c.if-depth-eq0.false
    (call_refused_inside c.args.given.choice program (c.args.depth - 1) c.args.key c.args.machine.now c.enter.new.self _ c.in_ok-enter.ensures.ok c.in_ok-enter.ensures.deck c.in_ok-enter.ensures.few
    (c.in_err-body.ensures.err other)))

pub call-body_of-requires : goal.call-body_of-requires
call-body_of-requires t c =
    let keeps = keeps_entered c.args.given.checked.now c.args.machine.now c.enter.new.self c.args.key c.requires.kept c.in_ok-enter.ensures.ok c.in_ok-enter.ensures.deck c.in_ok-enter.ensures.few in
    let low = c.requires.depth in
    (omega arith, (c.requires.accepted, (omega arith, (keeps, c.requires.entering))))

pub call-push_body-requires : goal.call-push_body-requires
call-push_body-requires t c =
    let source = c.args.given.checked.now in
    let low : c.args.depth - 1 ≤ 256 = let l = c.requires.depth in omega arith in
    let none = subst (λ (o : Option ℕ). IfNone o (IsNewKey c.args.machine.now.deck c.args.key)) c.in_default.is c.in_ok-number.ensures.new in
    let new = new_still source c.requires.accepted c.args.given.choice (c.args.depth - 1) low c.args.key c.requires.entering c.args.machine.now c.enter.new.self c.body_of.new.machine c.in_ok-body.body.items c.in_ok-body.ensures.ok.own
    none c.in_ok-enter.ensures.ok c.in_ok-enter.ensures.deck c.in_ok-body.ensures.ok.runs c.in_ok-body.ensures.kept in
    let room = room_for source c.requires.accepted c.args.given.choice (c.args.depth - 1) low c.args.key c.requires.entering c.args.machine.now c.enter.new.self c.body_of.new.machine c.in_ok-body.body.items c.in_ok-body.ensures.ok.own
    none c.in_ok-enter.ensures.ok c.in_ok-enter.ensures.deck c.in_ok-body.ensures.ok.runs c.in_ok-body.ensures.kept c.len-number.ensures.sound in
    record {
      new = number_new c.body_of.new.machine.deck c.args.key new;
      lengths = c.requires.entering.lengths;
      params = c.in_ok-body.ensures.params;
      room = room;
      calls = c.in_ok-body.ensures.calls;
    }

pub call-returns-clause-kept : goal.call-returns-clause-kept
call-returns-clause-kept t c =
    let source = c.args.given.checked.now in
    let low : c.args.depth - 1 ≤ 256 = let l = c.requires.depth in omega arith in
    let none = subst (λ (o : Option ℕ). IfNone o (IsNewKey c.args.machine.now.deck c.args.key)) c.in_default.is c.in_ok-number.ensures.new in
    keeps_pushed source c.requires.accepted c.args.given.choice (c.args.depth - 1) low c.args.key c.requires.entering c.args.machine.now c.enter.new.self c.body_of.new.machine c.in_ok-body.body.items c.in_ok-body.ensures.ok.own
    none c.in_ok-enter.ensures.ok c.in_ok-enter.ensures.deck c.in_ok-body.ensures.ok.runs c.in_ok-body.ensures.kept
    (record c.body_of.new.machine { deck = c.push_body.new.self }) c.in_ok-push_body.ensures.pushed refl c.in_ok-body.ensures.folded

pub call-returns-clause-grows : goal.call-returns-clause-grows
call-returns-clause-grows t c =
    let grown = c.in_ok-body.ensures.grows in
    grows_then c.args.machine.now.deck c.body_of.new.machine.deck c.push_body.new.self
    (record { more = grown.more; is = grown.is ∙ ap (λ (d : List Instance). d ++ grown.more) c.in_ok-enter.ensures.deck })
    (record { more = record { key = c.args.key; items = c.in_ok-body.body.items } ∷ []; is = c.in_ok-push_body.ensures.pushed })

pub call-returns-clause-key : goal.call-returns-clause-key
call-returns-clause-key t c =
    let body : Instance = record { key = c.args.key; items = c.in_ok-body.body.items } in
    (λ i. option_map key_of (slice_get (c.in_ok-push_body.ensures.pushed i) (c.len-number.ensures.count i))) ∙ key_pushed c.body_of.new.machine.deck body

pub call-returns-clause-ok : goal.call-returns-clause-ok
call-returns-clause-ok t c =
    let source = c.args.given.checked.now in
    let low : c.args.depth - 1 ≤ 256 = let l = c.requires.depth in omega arith in
    let none = subst (λ (o : Option ℕ). IfNone o (IsNewKey c.args.machine.now.deck c.args.key)) c.in_default.is c.in_ok-number.ensures.new in
    let new = new_still source c.requires.accepted c.args.given.choice (c.args.depth - 1) low c.args.key c.requires.entering c.args.machine.now c.enter.new.self c.body_of.new.machine c.in_ok-body.body.items c.in_ok-body.ensures.ok.own
    none c.in_ok-enter.ensures.ok c.in_ok-enter.ensures.deck c.in_ok-body.ensures.ok.runs c.in_ok-body.ensures.kept in
    let last : _ = record c.body_of.new.machine { deck = c.push_body.new.self } in
    called_at c.args.given.choice (program_of source) c.args.depth c.args.key c.args.machine.now last c.len-number.result c.if-depth-eq0.false
    (call_made c.args.given.choice (program_of source) (c.args.depth - 1) c.args.key c.args.machine.now c.enter.new.self c.body_of.new.machine last c.len-number.result c.in_ok-body.body.items c.in_ok-body.ensures.ok.own
    c.in_ok-enter.ensures.ok c.in_ok-enter.ensures.deck c.in_ok-enter.ensures.few c.in_ok-body.ensures.ok.runs c.in_ok-body.ensures.kept.few new c.in_ok-push_body.ensures.pushed c.len-number.ensures.count refl)
