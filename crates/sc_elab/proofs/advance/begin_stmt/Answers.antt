use Rattle.std.proofs.Common.{sym, subst}
use Rattle.std.proofs.lemmas.Result.{err_from_is_err_and, on_ok_weaker, IfOk-weaker, IfErr-weaker}
use Rattle.sc_meaning.specs.Programs.{program_of}
use Rattle.sc_deck.specs.Bodies.{Contents}
use Rattle.sc_elab.specs.Folding.{IsFolded, HasRoomFor}
use Rattle.sc_elab.proofs.BodyTyping.{act_first}
use Rattle.sc_elab.proofs.LoopParts.{stepped_body}
use Rattle.sc_elab.proofs.PushedGates.{adds_none, adds_both}
use Rattle.sc_elab.proofs.StatementParts.{step_room, stmt_advanced, stmt_stops, stmt_long, stmt_scopes, stmt_falls}
use Rattle.sc_elab.proofs.TurnRoom.{step_room_for, on_ok_both}
use Rattle.sc_elab.proofs.advance.begin_stmt.Goals as goal

pub returns-in_err-take_step-clause-err : goal.returns-in_err-take_step-clause-err
returns-in_err-take_step-clause-err c =
    let p = err_from_is_err_and c.from_residual.result c.from_residual.ensures.1 in
    rw (p.1, p.2) (λ other. stmt_long (program_of c.args.given.checked.now) c.args.given.choice c.args.stmt c.args.frame.now c.take_step.new.frame _ c.in_err-take_step.ensures)

pub begin-requires-clause-typed : goal.begin-requires-clause-typed
begin-requires-clause-typed c =
    act_first c.args.given.checked.now c.args.frame.now c.take_step.new.frame c.args.stmt _ c.args.todo.now.items c.in_ok-take_step.ensures c.requires.typed

pub begin-requires-clause-turns : goal.begin-requires-clause-turns
begin-requires-clause-turns c = step_room c.args.frame.now c.take_step.new.frame c.args.stmt.now.place _ c.in_ok-take_step.ensures c.requires.turns

pub begin-requires-clause-folded : goal.begin-requires-clause-folded
begin-requires-clause-folded c =
    subst (λ (b : Contents). IsFolded b.items) (sym (stepped_body c.args.frame.now c.take_step.new.frame c.args.stmt.now.place _ c.in_ok-take_step.ensures)) c.requires.folded

pub returns-clause-turns : goal.returns-clause-turns
returns-clause-turns c =
    on_ok_both c.begin.result _ _ (λ r. HasRoomFor r c.begin.new.frame)
    (λ r begun few. step_room_for c.args.frame.now c.take_step.new.frame c.begin.new.frame c.args.stmt.now.place _ c.in_ok-take_step.ensures c.requires.turns begun.steps few r)
    c.begin.ensures.begun c.begin.ensures.turns

pub returns-clause-ok : goal.returns-clause-ok
returns-clause-ok c =
    IfOk-weaker c.begin.result _ _
    (λ r h. stmt_advanced (program_of c.args.given.checked.now) c.args.given.choice c.args.stmt c.args.frame.now c.take_step.new.frame c.begin.new.frame _ c.args.todo.now.items c.begin.new.todo.items r c.in_ok-take_step.ensures h)
    c.begin.ensures.ok

pub returns-clause-typed : goal.returns-clause-typed
returns-clause-typed c = c.begin.ensures.typed

pub returns-clause-call : goal.returns-clause-call
returns-clause-call c = c.begin.ensures.call

pub returns-clause-adds : goal.returns-clause-adds
returns-clause-adds c =
    let f = c.args.frame.now.body in
    let g = c.take_step.new.frame.body in
    on_ok_weaker c.begin.result
    (adds_both f g c.begin.new.frame.body (adds_none f g (stepped_body c.args.frame.now c.take_step.new.frame c.args.stmt.now.place _ c.in_ok-take_step.ensures)))
    c.begin.ensures.adds

pub returns-clause-err : goal.returns-clause-err
returns-clause-err c =
    IfErr-weaker c.begin.result _ _
    (λ f h other. stmt_stops (program_of c.args.given.checked.now) c.args.given.choice c.args.stmt c.args.frame.now c.take_step.new.frame _ f c.in_ok-take_step.ensures (h other))
    c.begin.ensures.err

pub returns-clause-scopes : goal.returns-clause-scopes
returns-clause-scopes c =
    on_ok_weaker c.begin.result
    (stmt_scopes c.args.frame.now c.take_step.new.frame c.begin.new.frame c.args.stmt.now.place _ c.args.todo.now.items c.begin.new.todo.items c.in_ok-take_step.ensures)
    c.begin.ensures.begun

pub returns-clause-falls : goal.returns-clause-falls
returns-clause-falls c =
    on_ok_weaker c.begin.result
    (stmt_falls c.args.frame.now c.take_step.new.frame c.begin.new.frame c.args.stmt.now.place _ c.args.todo.now.items c.begin.new.todo.items c.in_ok-take_step.ensures)
    c.begin.ensures.begun
