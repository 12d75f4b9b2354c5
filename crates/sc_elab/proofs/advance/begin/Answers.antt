use Rattle.std.proofs.Common.{None, refl, ap, length, arith}
use Rattle.std.specs.Prelude.{map, option_map}
use Rattle.std.specs.Option.{option_copied}
use Rattle.std.proofs.lemmas.Result.{err_from_is_err_and, on_ok_weaker, IfOk-weaker, IfErr-weaker}
use Rattle.sc_syntax.specs.declared.Act.{Set, Measure, Call, While, Empty}
use Rattle.sc_syntax.specs.Alike.{PureAct, pure_expr, pure_decl, pure_init, pure_act}
use Rattle.sc_elab.specs.Frames.{view}
use Rattle.sc_elab.specs.Gating.{measure_on, call_on}
use Rattle.sc_elab.specs.declared.todo.Rounds.{Rounds}
use Rattle.sc_elab.specs.Pending.{if_act, for_act, block_act, if_on, for_on, block_on}
use Rattle.sc_meaning.specs.Programs.{program_of}
use Rattle.sc_meaning.specs.Run.{act, declare_wires, declare_numbers, set_number}
use Rattle.sc_elab.proofs.Beginning.{begun_still, stops_from, act_wires, act_numbers, act_set, act_measure, act_empty, act_called, act_if, act_for, act_block}
use Rattle.sc_elab.proofs.BodyTyping.{act_is, act_alone, wires_done, numbers_done, set_done, still_typed, while_typed, wires_act_is, numbers_act_is, if_act_is, for_act_is, block_act_is}
use Rattle.sc_elab.proofs.CallParts.{measure_fits}
use Rattle.sc_elab.proofs.Keeping.{keeps_wires, keeps_numbers, keeps_set, begun_runs}
use Rattle.sc_elab.proofs.PendingLaws.{advanced_from}
use Rattle.sc_elab.proofs.PushedGates.{adds_none}
use Rattle.sc_elab.proofs.StatementParts.{always, act_done, act_refused, advanced_none, begun_others, while_advanced, while_begun}
use Rattle.sc_elab.proofs.TurnRoom.{turns_none}
use Rattle.sc_elab.proofs.advance.begin.Goals as goal

-- ---- wires

pub returns-in_ok-declare_wires-in-Wires-clause-ok : goal.returns-in_ok-declare_wires-in-Wires-clause-ok
returns-in_ok-declare_wires-in-Wires-clause-ok c =
    act_done (program_of c.args.given.checked.now) c.args.given.choice c.args.at c.args.task.now (declare_wires c.in-Wires.class (map pure_decl c.as_slice.result.now) (view c.args.frame.now))
    c.args.frame.now c.declare_wires.new.frame c.args.todo.now.items
    (λ call. act_wires (program_of c.args.given.checked.now) call c.args.at c.args.task.now c.in-Wires.class c.in-Wires.decls c.as_slice.result.now (view c.args.frame.now) c.in-Wires.is c.as_slice.ensures)
    (c.in_ok-declare_wires-in-Wires.ensures.ok c.args.given.choice)

pub returns-in_ok-declare_wires-in-Wires-clause-begun : goal.returns-in_ok-declare_wires-in-Wires-clause-begun
returns-in_ok-declare_wires-in-Wires-clause-begun c =
    let f = c.args.frame.now in
    begun_runs c.args.given.choice (declare_wires c.in-Wires.class (map pure_decl c.as_slice.result.now) (view f)) f c.declare_wires.new.frame c.args.todo.now.items
    (keeps_wires f.steps (length f.numbers) c.in-Wires.class (map pure_decl c.as_slice.result.now) (view f) refl refl)
    (c.in_ok-declare_wires-in-Wires.ensures.ok c.args.given.choice)

pub returns-in_ok-declare_wires-in-Wires-clause-typed : goal.returns-in_ok-declare_wires-in-Wires-clause-typed
returns-in_ok-declare_wires-in-Wires-clause-typed c =
    let f = c.args.frame.now in
    let xs = map pure_decl c.as_slice.result.now in
    wires_done c.args.given.checked.now c.args.given.choice f c.declare_wires.new.frame c.in-Wires.class xs c.args.todo.now.items (c.in_ok-declare_wires-in-Wires.ensures.ok c.args.given.choice)
    (act_is c.args.given.checked.now f (pure_act c.args.task.now) (PureAct.wires c.in-Wires.class xs) c.args.todo.now.items
    (wires_act_is c.args.task.now c.in-Wires.class c.in-Wires.decls c.as_slice.result.now c.in-Wires.is c.as_slice.ensures) c.requires.typed)

pub returns-in_err-declare_wires-in-Wires-clause-err : goal.returns-in_err-declare_wires-in-Wires-clause-err
returns-in_err-declare_wires-in-Wires-clause-err c =
    let p = err_from_is_err_and c.from_residual.result c.from_residual.ensures.1 in
    rw (p.1, p.2) (λ other.
    act_refused (program_of c.args.given.checked.now) c.args.given.choice c.args.at c.args.task.now (declare_wires c.in-Wires.class (map pure_decl c.as_slice.result.now) (view c.args.frame.now)) c.args.frame.now _
    (λ call. act_wires (program_of c.args.given.checked.now) call c.args.at c.args.task.now c.in-Wires.class c.in-Wires.decls c.as_slice.result.now (view c.args.frame.now) c.in-Wires.is c.as_slice.ensures)
    (c.in_err-declare_wires-in-Wires.ensures.err other c.args.given.choice))

-- ---- numbers

pub returns-in_ok-declare_numbers-in-Numbers-clause-ok : goal.returns-in_ok-declare_numbers-in-Numbers-clause-ok
returns-in_ok-declare_numbers-in-Numbers-clause-ok c =
    act_done (program_of c.args.given.checked.now) c.args.given.choice c.args.at c.args.task.now (declare_numbers c.in-Numbers.sort (map pure_init c.as_slice-in-Numbers.result.now) (view c.args.frame.now))
    c.args.frame.now c.declare_numbers.new.frame c.args.todo.now.items
    (λ call. act_numbers (program_of c.args.given.checked.now) call c.args.at c.args.task.now c.in-Numbers.sort c.in-Numbers.inits c.as_slice-in-Numbers.result.now (view c.args.frame.now) c.in-Numbers.is c.as_slice-in-Numbers.ensures)
    (c.in_ok-declare_numbers-in-Numbers.ensures.ok c.args.given.choice)

pub returns-in_ok-declare_numbers-in-Numbers-clause-begun : goal.returns-in_ok-declare_numbers-in-Numbers-clause-begun
returns-in_ok-declare_numbers-in-Numbers-clause-begun c =
    let f = c.args.frame.now in
    begun_runs c.args.given.choice (declare_numbers c.in-Numbers.sort (map pure_init c.as_slice-in-Numbers.result.now) (view f)) f c.declare_numbers.new.frame c.args.todo.now.items
    (keeps_numbers f.steps (length f.numbers) c.in-Numbers.sort (map pure_init c.as_slice-in-Numbers.result.now) (view f) refl refl)
    (c.in_ok-declare_numbers-in-Numbers.ensures.ok c.args.given.choice)

pub returns-in_ok-declare_numbers-in-Numbers-clause-typed : goal.returns-in_ok-declare_numbers-in-Numbers-clause-typed
returns-in_ok-declare_numbers-in-Numbers-clause-typed c =
    let f = c.args.frame.now in
    let xs = map pure_init c.as_slice-in-Numbers.result.now in
    numbers_done c.args.given.checked.now c.args.given.choice f c.declare_numbers.new.frame c.in-Numbers.sort xs c.args.todo.now.items (c.in_ok-declare_numbers-in-Numbers.ensures.ok c.args.given.choice)
    (act_is c.args.given.checked.now f (pure_act c.args.task.now) (PureAct.numbers c.in-Numbers.sort xs) c.args.todo.now.items
    (numbers_act_is c.args.task.now c.in-Numbers.sort c.in-Numbers.inits c.as_slice-in-Numbers.result.now c.in-Numbers.is c.as_slice-in-Numbers.ensures) c.requires.typed)

pub returns-in_ok-declare_numbers-in-Numbers-clause-adds : goal.returns-in_ok-declare_numbers-in-Numbers-clause-adds
returns-in_ok-declare_numbers-in-Numbers-clause-adds c =
    adds_none c.args.frame.now.body c.declare_numbers.new.frame.body c.in_ok-declare_numbers-in-Numbers.ensures.body

pub returns-in_err-declare_numbers-in-Numbers-clause-err : goal.returns-in_err-declare_numbers-in-Numbers-clause-err
returns-in_err-declare_numbers-in-Numbers-clause-err c =
    let p = err_from_is_err_and c.from_residual-in_err-declare_numbers-in-Numbers.result c.from_residual-in_err-declare_numbers-in-Numbers.ensures.1 in
    rw (p.1, p.2) (λ other.
    act_refused (program_of c.args.given.checked.now) c.args.given.choice c.args.at c.args.task.now (declare_numbers c.in-Numbers.sort (map pure_init c.as_slice-in-Numbers.result.now) (view c.args.frame.now)) c.args.frame.now _
    (λ call. act_numbers (program_of c.args.given.checked.now) call c.args.at c.args.task.now c.in-Numbers.sort c.in-Numbers.inits c.as_slice-in-Numbers.result.now (view c.args.frame.now) c.in-Numbers.is c.as_slice-in-Numbers.ensures)
    (c.in_err-declare_numbers-in-Numbers.ensures.err other c.args.given.choice))

-- ---- a setting and a measurement

pub returns-in_ok-set_number-in-Set-clause-ok : goal.returns-in_ok-set_number-in-Set-clause-ok
returns-in_ok-set_number-in-Set-clause-ok c =
    let t = c.in-Set.set in
    act_done (program_of c.args.given.checked.now) c.args.given.choice c.args.at c.args.task.now (set_number t.name t.op t.place (option_map pure_expr t.value) (view c.args.frame.now))
    c.args.frame.now c.set_number.new.frame c.args.todo.now.items
    (λ call. act_set (program_of c.args.given.checked.now) call c.args.at c.args.task.now t (view c.args.frame.now) c.in-Set.is)
    (c.in_ok-set_number-in-Set.ensures.ok c.args.given.choice)

pub returns-in_ok-set_number-in-Set-clause-begun : goal.returns-in_ok-set_number-in-Set-clause-begun
returns-in_ok-set_number-in-Set-clause-begun c =
    let f = c.args.frame.now in
    let t = c.in-Set.set in
    begun_runs c.args.given.choice (set_number t.name t.op t.place (option_map pure_expr t.value) (view f)) f c.set_number.new.frame c.args.todo.now.items
    (keeps_set f.steps (length f.numbers) t.name t.op t.place (option_map pure_expr t.value) (view f) refl refl)
    (c.in_ok-set_number-in-Set.ensures.ok c.args.given.choice)

pub returns-in_ok-set_number-in-Set-clause-typed : goal.returns-in_ok-set_number-in-Set-clause-typed
returns-in_ok-set_number-in-Set-clause-typed c =
    let f = c.args.frame.now in
    let t = c.in-Set.set in
    set_done c.args.given.checked.now c.args.given.choice f c.set_number.new.frame t.name t.op t.place (option_map pure_expr t.value) c.args.todo.now.items (c.in_ok-set_number-in-Set.ensures.ok c.args.given.choice)
    (act_is c.args.given.checked.now f (pure_act c.args.task.now) (pure_act (Set t)) c.args.todo.now.items (ap pure_act c.in-Set.is) c.requires.typed)

pub returns-in_ok-set_number-in-Set-clause-adds : goal.returns-in_ok-set_number-in-Set-clause-adds
returns-in_ok-set_number-in-Set-clause-adds c =
    adds_none c.args.frame.now.body c.set_number.new.frame.body c.in_ok-set_number-in-Set.ensures.body

pub returns-in_err-set_number-in-Set-clause-err : goal.returns-in_err-set_number-in-Set-clause-err
returns-in_err-set_number-in-Set-clause-err c =
    let p = err_from_is_err_and c.from_residual-in_err-set_number-in-Set.result c.from_residual-in_err-set_number-in-Set.ensures.1 in
    let t = c.in-Set.set in
    rw (p.1, p.2) (λ other.
    act_refused (program_of c.args.given.checked.now) c.args.given.choice c.args.at c.args.task.now (set_number t.name t.op t.place (option_map pure_expr t.value) (view c.args.frame.now)) c.args.frame.now _
    (λ call. act_set (program_of c.args.given.checked.now) call c.args.at c.args.task.now t (view c.args.frame.now) c.in-Set.is)
    (c.in_err-set_number-in-Set.ensures.err c.args.given.choice))

pub measure-requires-clause-fits : goal.measure-requires-clause-fits
measure-requires-clause-fits c =
    measure_fits c.args.given.checked.now c.args.frame.now c.in-Measure.task c.args.todo.now.items
    (act_is c.args.given.checked.now c.args.frame.now (pure_act c.args.task.now) (pure_act (Measure c.in-Measure.task)) c.args.todo.now.items (ap pure_act c.in-Measure.is) c.requires.typed)

pub returns-in_ok-measure-in-Measure-clause-ok : goal.returns-in_ok-measure-in-Measure-clause-ok
returns-in_ok-measure-in-Measure-clause-ok c =
    act_done (program_of c.args.given.checked.now) c.args.given.choice c.args.at c.args.task.now (measure_on c.in-Measure.task (view c.args.frame.now))
    c.args.frame.now c.measure.new.frame c.args.todo.now.items
    (λ call. act_measure (program_of c.args.given.checked.now) call c.args.at c.args.task.now c.in-Measure.task (view c.args.frame.now) c.in-Measure.is)
    c.in_ok-measure-in-Measure.ensures.ok

pub returns-in_ok-measure-in-Measure-clause-begun : goal.returns-in_ok-measure-in-Measure-clause-begun
returns-in_ok-measure-in-Measure-clause-begun c =
    begun_others c.args.frame.now c.measure.new.frame c.args.todo.now.items c.in_ok-measure-in-Measure.ensures.others

pub returns-in_ok-measure-in-Measure-clause-typed : goal.returns-in_ok-measure-in-Measure-clause-typed
returns-in_ok-measure-in-Measure-clause-typed c =
    let f = c.args.frame.now in
    let act = pure_act (Measure c.in-Measure.task) in
    still_typed c.args.given.checked.now f c.measure.new.frame act c.args.todo.now.items (λ here. refl) c.in_ok-measure-in-Measure.ensures.view
    (act_is c.args.given.checked.now f (pure_act c.args.task.now) act c.args.todo.now.items (ap pure_act c.in-Measure.is) c.requires.typed)

pub returns-in_err-measure-in-Measure-clause-err : goal.returns-in_err-measure-in-Measure-clause-err
returns-in_err-measure-in-Measure-clause-err c =
    let p = err_from_is_err_and c.from_residual-in_err-measure-in-Measure.result c.from_residual-in_err-measure-in-Measure.ensures.1 in
    rw (p.1, p.2) (λ other.
    act_refused (program_of c.args.given.checked.now) c.args.given.choice c.args.at c.args.task.now (measure_on c.in-Measure.task (view c.args.frame.now)) c.args.frame.now _
    (λ call. act_measure (program_of c.args.given.checked.now) call c.args.at c.args.task.now c.in-Measure.task (view c.args.frame.now) c.in-Measure.is)
    (c.in_err-measure-in-Measure.ensures.err other))

-- ---- a call

pub begin_call-requires-clause-typed : goal.begin_call-requires-clause-typed
begin_call-requires-clause-typed c =
    let f = c.args.frame.now in
    let act = pure_act (Call c.in-Call.call) in
    act_alone c.args.given.checked.now f act c.args.todo.now.items (act_is c.args.given.checked.now f (pure_act c.args.task.now) act c.args.todo.now.items (ap pure_act c.in-Call.is) c.requires.typed)

pub returns-in-Call-clause-ok : goal.returns-in-Call-clause-ok
returns-in-Call-clause-ok c =
    let program = program_of c.args.given.checked.now in
    let t = c.in-Call.call in
    IfOk-weaker c.begin_call.result _ _
    (λ r h. advanced_from program c.args.given.choice (λ k. act program k c.args.at (pure_act c.args.task.now)) (λ k. call_on program k t.callee (map pure_expr t.args)) c.args.frame.now c.args.frame.now c.begin_call.new.frame
    c.args.todo.now.items c.args.todo.now.items r refl (λ k. act_called program k c.args.at c.args.task.now t (view c.args.frame.now) c.in-Call.is) (h c.args.todo.now.items))
    c.begin_call.ensures.ok

pub returns-in-Call-clause-err : goal.returns-in-Call-clause-err
returns-in-Call-clause-err c =
    let program = program_of c.args.given.checked.now in
    let t = c.in-Call.call in
    IfErr-weaker c.begin_call.result _ _
    (λ fault h other. stops_from c.args.given.choice (λ k. act program k c.args.at (pure_act c.args.task.now)) (λ k. call_on program k t.callee (map pure_expr t.args)) c.args.frame.now c.args.frame.now fault refl
    (λ k. act_called program k c.args.at c.args.task.now t (view c.args.frame.now) c.in-Call.is) (h other))
    c.begin_call.ensures.err

pub returns-in-Call-clause-begun : goal.returns-in-Call-clause-begun
returns-in-Call-clause-begun c =
    always c.begin_call.result _ (begun_others c.args.frame.now c.begin_call.new.frame c.args.todo.now.items c.begin_call.ensures.others)

pub returns-in-Call-clause-typed : goal.returns-in-Call-clause-typed
returns-in-Call-clause-typed c =
    let f = c.args.frame.now in
    let act = pure_act (Call c.in-Call.call) in
    let h = act_is c.args.given.checked.now f (pure_act c.args.task.now) act c.args.todo.now.items (ap pure_act c.in-Call.is) c.requires.typed in
    on_ok_weaker c.begin_call.result (λ v. still_typed c.args.given.checked.now f c.begin_call.new.frame act c.args.todo.now.items (λ here. refl) v h) c.begin_call.ensures.view

pub returns-in-Call-clause-call : goal.returns-in-Call-clause-call
returns-in-Call-clause-call c = c.begin_call.ensures.call

pub returns-in-Call-clause-adds : goal.returns-in-Call-clause-adds
returns-in-Call-clause-adds c = c.begin_call.ensures.adds

-- ---- an `if`

pub returns-in_ok-begin_if-in-If-clause-ok : goal.returns-in_ok-begin_if-in-If-clause-ok
returns-in_ok-begin_if-in-If-clause-ok c =
    let program = program_of c.args.given.checked.now in
    let body = c.deref.result.now in
    let other = option_copied c.optional.result in
    advanced_from program c.args.given.choice (λ k. act program k c.args.at (pure_act c.args.task.now)) (λ k. if_on program k c.in-If.test body other) c.args.frame.now c.args.frame.now c.begin_if.new.frame
    c.args.todo.now.items c.begin_if.new.todo.items None refl
    (λ k. act_if program k c.args.at c.args.task.now c.in-If.test c.in-If.body c.in-If.other body other (view c.args.frame.now) c.in-If.is c.deref.ensures c.optional.ensures)
    c.in_ok-begin_if-in-If.ensures.ok

pub begin_if-requires : goal.begin_if-requires
begin_if-requires c =
    let body = c.deref.result.now in
    let other = option_copied c.optional.result in
    record {
      typed = act_is c.args.given.checked.now c.args.frame.now (pure_act c.args.task.now) (if_act c.in-If.test body other) c.args.todo.now.items
          (if_act_is c.args.task.now c.in-If.test c.in-If.body c.in-If.other body other c.in-If.is c.deref.ensures c.optional.ensures) c.requires.typed;
    }

pub returns-in_ok-begin_if-in-If-clause-adds : goal.returns-in_ok-begin_if-in-If-clause-adds
returns-in_ok-begin_if-in-If-clause-adds c =
    adds_none c.args.frame.now.body c.begin_if.new.frame.body c.in_ok-begin_if-in-If.ensures.body

pub returns-in_err-begin_if-in-If-clause-err : goal.returns-in_err-begin_if-in-If-clause-err
returns-in_err-begin_if-in-If-clause-err c =
    let program = program_of c.args.given.checked.now in
    let body = c.deref.result.now in
    let other = option_copied c.optional.result in
    let p = err_from_is_err_and c.from_residual-in_err-begin_if-in-If.result c.from_residual-in_err-begin_if-in-If.ensures.1 in
    rw (p.1, p.2) (λ known.
    stops_from c.args.given.choice (λ k. act program k c.args.at (pure_act c.args.task.now)) (λ k. if_on program k c.in-If.test body other) c.args.frame.now c.args.frame.now _ refl
    (λ k. act_if program k c.args.at c.args.task.now c.in-If.test c.in-If.body c.in-If.other body other (view c.args.frame.now) c.in-If.is c.deref.ensures c.optional.ensures)
    (c.in_err-begin_if-in-If.ensures.err known))

-- ---- loops

pub returns-in_ok-push-in-While-clause-ok : goal.returns-in_ok-push-in-While-clause-ok
returns-in_ok-push-in-While-clause-ok c =
    while_advanced (program_of c.args.given.checked.now) c.args.given.choice c.args.at c.args.task.now c.in-While.test c.in-While.body _ c.args.frame.now c.args.todo.now.items c.push.new.todo.items
    c.in-While.is refl refl c.deref-in-While.ensures refl c.in_ok-push-in-While.ensures

pub returns-in_ok-push-in-While-clause-begun : goal.returns-in_ok-push-in-While-clause-begun
returns-in_ok-push-in-While-clause-begun c =
    while_begun _ c.args.frame.now c.args.todo.now.items c.push.new.todo.items c.in_ok-push-in-While.ensures

pub returns-in_ok-push-in-While-clause-typed : goal.returns-in_ok-push-in-While-clause-typed
returns-in_ok-push-in-While-clause-typed c =
    let f = c.args.frame.now in
    while_typed c.args.given.checked.now f c.in-While.test c.in-While.body _ c.args.todo.now.items c.push.new.todo.items
    (act_is c.args.given.checked.now f (pure_act c.args.task.now) (pure_act (While c.in-While.test c.in-While.body)) c.args.todo.now.items (ap pure_act c.in-While.is) c.requires.typed)
    c.deref-in-While.ensures refl c.in_ok-push-in-While.ensures

pub returns-in_ok-push-in-While-clause-adds : goal.returns-in_ok-push-in-While-clause-adds
returns-in_ok-push-in-While-clause-adds c =
    adds_none c.args.frame.now.body c.args.frame.now.body refl

pub returns-in_ok-begin_for-in-For-clause-ok : goal.returns-in_ok-begin_for-in-For-clause-ok
returns-in_ok-begin_for-in-For-clause-ok c =
    let program = program_of c.args.given.checked.now in
    let first = option_copied c.optional-in-For-2.result in
    let rounds : Rounds = record { at = c.args.at; test = c.as_ref.result; body = c.deref-in-For.result; advance = c.optional-in-For.result } in
    advanced_from program c.args.given.choice (λ k. act program k c.args.at (pure_act c.args.task.now)) (λ k. for_on program k first rounds) c.args.frame.now c.args.frame.now c.begin_for.new.frame
    c.args.todo.now.items c.begin_for.new.todo.items None refl
    (λ k. act_for program k c.args.at c.args.task.now c.in-For.start c.in-For.test c.in-For.advance c.in-For.body first rounds (view c.args.frame.now) c.in-For.is c.optional-in-For-2.ensures refl c.as_ref.ensures.value
    c.deref-in-For.ensures c.optional-in-For.ensures)
    c.in_ok-begin_for-in-For.ensures.ok

pub begin_for-requires : goal.begin_for-requires
begin_for-requires c =
    let first = option_copied c.optional-in-For-2.result in
    let rounds : Rounds = record { at = c.args.at; test = c.as_ref.result; body = c.deref-in-For.result; advance = c.optional-in-For.result } in
    record {
      typed = act_is c.args.given.checked.now c.args.frame.now (pure_act c.args.task.now) (for_act first rounds) c.args.todo.now.items
          (for_act_is c.args.task.now c.in-For.start c.in-For.test c.in-For.advance c.in-For.body first rounds c.in-For.is c.optional-in-For-2.ensures c.as_ref.ensures.value c.deref-in-For.ensures
          c.optional-in-For.ensures) c.requires.typed;
    }

pub returns-in_ok-begin_for-in-For-clause-adds : goal.returns-in_ok-begin_for-in-For-clause-adds
returns-in_ok-begin_for-in-For-clause-adds c =
    adds_none c.args.frame.now.body c.begin_for.new.frame.body c.in_ok-begin_for-in-For.ensures.body

-- ---- a block, and nothing

pub returns-in_ok-begin_block-in-Block-clause-ok : goal.returns-in_ok-begin_block-in-Block-clause-ok
returns-in_ok-begin_block-in-Block-clause-ok c =
    let program = program_of c.args.given.checked.now in
    let xs = c.as_slice-in-Block.result.now in
    advanced_from program c.args.given.choice (λ k. act program k c.args.at (pure_act c.args.task.now)) (λ k. block_on program k xs) c.args.frame.now c.args.frame.now c.begin_block.new.frame
    c.args.todo.now.items c.begin_block.new.todo.items None refl
    (λ k. act_block program k c.args.at c.args.task.now c.in-Block.stmts xs (view c.args.frame.now) c.in-Block.is c.as_slice-in-Block.ensures.value)
    c.in_ok-begin_block-in-Block.ensures.ok

pub begin_block-requires : goal.begin_block-requires
begin_block-requires c =
    let xs = c.as_slice-in-Block.result.now in
    record {
      typed = act_is c.args.given.checked.now c.args.frame.now (pure_act c.args.task.now) (block_act xs) c.args.todo.now.items
          (block_act_is c.args.task.now c.in-Block.stmts xs c.in-Block.is c.as_slice-in-Block.ensures.value) c.requires.typed;
    }

pub returns-in_ok-begin_block-in-Block-clause-adds : goal.returns-in_ok-begin_block-in-Block-clause-adds
returns-in_ok-begin_block-in-Block-clause-adds c =
    adds_none c.args.frame.now.body c.begin_block.new.frame.body c.in_ok-begin_block-in-Block.ensures.body

pub returns-in-Empty-clause-ok : goal.returns-in-Empty-clause-ok
returns-in-Empty-clause-ok c =
    let program = program_of c.args.given.checked.now in
    advanced_none program c.args.given.choice (λ k. act program k c.args.at (pure_act c.args.task.now)) c.args.frame.now c.args.frame.now c.args.todo.now.items refl
    (λ k. act_empty program k c.args.at c.args.task.now (view c.args.frame.now) c.in-Empty.is)

pub returns-in-Empty-clause-begun : goal.returns-in-Empty-clause-begun
returns-in-Empty-clause-begun c =
    begun_still c.args.frame.now c.args.frame.now c.args.todo.now.items refl refl

pub returns-in-Empty-clause-typed : goal.returns-in-Empty-clause-typed
returns-in-Empty-clause-typed c =
    let f = c.args.frame.now in
    still_typed c.args.given.checked.now f f (pure_act Empty) c.args.todo.now.items (λ here. refl) refl
    (act_is c.args.given.checked.now f (pure_act c.args.task.now) (pure_act Empty) c.args.todo.now.items (ap pure_act c.in-Empty.is) c.requires.typed)

pub returns-in-Empty-clause-adds : goal.returns-in-Empty-clause-adds
returns-in-Empty-clause-adds c =
    adds_none c.args.frame.now.body c.args.frame.now.body refl

-- ---- the turns of the last item

pub returns-in_ok-declare_wires-in-Wires-clause-turns : goal.returns-in_ok-declare_wires-in-Wires-clause-turns
returns-in_ok-declare_wires-in-Wires-clause-turns c =
    let few = c.in_ok-declare_wires-in-Wires.ensures.turns in
    omega arith

pub returns-in_ok-declare_numbers-in-Numbers-clause-turns : goal.returns-in_ok-declare_numbers-in-Numbers-clause-turns
returns-in_ok-declare_numbers-in-Numbers-clause-turns c = turns_none c.args.frame.now.body c.declare_numbers.new.frame.body c.in_ok-declare_numbers-in-Numbers.ensures.body

pub returns-in_ok-set_number-in-Set-clause-turns : goal.returns-in_ok-set_number-in-Set-clause-turns
returns-in_ok-set_number-in-Set-clause-turns c = turns_none c.args.frame.now.body c.set_number.new.frame.body c.in_ok-set_number-in-Set.ensures.body

pub returns-in-Call-clause-turns : goal.returns-in-Call-clause-turns
returns-in-Call-clause-turns c = c.begin_call.ensures.turns

pub returns-in_ok-begin_if-in-If-clause-turns : goal.returns-in_ok-begin_if-in-If-clause-turns
returns-in_ok-begin_if-in-If-clause-turns c = turns_none c.args.frame.now.body c.begin_if.new.frame.body c.in_ok-begin_if-in-If.ensures.body

pub returns-in_ok-push-in-While-clause-turns : goal.returns-in_ok-push-in-While-clause-turns
returns-in_ok-push-in-While-clause-turns c = turns_none c.args.frame.now.body c.args.frame.now.body refl

pub returns-in_ok-begin_for-in-For-clause-turns : goal.returns-in_ok-begin_for-in-For-clause-turns
returns-in_ok-begin_for-in-For-clause-turns c = turns_none c.args.frame.now.body c.begin_for.new.frame.body c.in_ok-begin_for-in-For.ensures.body

pub returns-in_ok-begin_block-in-Block-clause-turns : goal.returns-in_ok-begin_block-in-Block-clause-turns
returns-in_ok-begin_block-in-Block-clause-turns c = turns_none c.args.frame.now.body c.begin_block.new.frame.body c.in_ok-begin_block-in-Block.ensures.body

pub returns-in-Empty-clause-turns : goal.returns-in-Empty-clause-turns
returns-in-Empty-clause-turns c = turns_none c.args.frame.now.body c.args.frame.now.body refl
