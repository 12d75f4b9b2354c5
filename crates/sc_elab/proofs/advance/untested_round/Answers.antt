use Rattle.std.proofs.Common.{[], ◌∷◌, ◌++◌, refl, sym, subst}
use Rattle.std.proofs.lemmas.Result.{on_ok_weaker, IfOk-weaker, IfErr-weaker}
use Rattle.sc_elab.specs.declared.todo.Todo.TheVariants.{Do, Loop}
use Rattle.sc_deck.specs.Bodies.{Contents}
use Rattle.sc_elab.specs.Folding.{IsFolded}
use Rattle.sc_meaning.specs.Programs.{program_of}
use Rattle.sc_elab.proofs.BodyTyping.{typed_last, round_typed}
use Rattle.sc_elab.proofs.PushedGates.{adds_none, adds_both}
use Rattle.sc_elab.proofs.StatementParts.{body_advanced, body_stops, body_scopes, body_falls, scope_room}
use Rattle.sc_elab.proofs.advance.untested_round.Goals as goal

pub begin_stmt-requires-clause-typed : goal.begin_stmt-requires-clause-typed
begin_stmt-requires-clause-typed c =
    round_typed c.args.given.checked.now c.args.frame.now c.enter_round.new.frame c.args.rounds c.args.todo.now.items c.enter_round.new.todo.items (c.enter_round.new.todo.items ++ Do c.args.rounds.body ∷ [])
    c.in_ok-enter_round.ensures.view c.in_ok-enter_round.ensures.todo refl
    (typed_last c.args.given.checked.now c.args.frame.now c.args.todo.now.items (Loop c.args.rounds) c.requires.typed)

pub begin_stmt-requires-clause-turns : goal.begin_stmt-requires-clause-turns
begin_stmt-requires-clause-turns c = scope_room c.args.frame.now c.enter_round.new.frame c.in_ok-enter_round.ensures.view c.in_ok-enter_round.ensures.body c.requires.turns

pub begin_stmt-requires-clause-folded : goal.begin_stmt-requires-clause-folded
begin_stmt-requires-clause-folded c = subst (λ (b : Contents). IsFolded b.items) (sym c.in_ok-enter_round.ensures.body) c.requires.folded

pub returns-clause-turns : goal.returns-clause-turns
returns-clause-turns c = c.begin_stmt.ensures.turns

pub returns-clause-ok : goal.returns-clause-ok
returns-clause-ok c =
    IfOk-weaker c.begin_stmt.result _ _
    (λ r h. body_advanced (program_of c.args.given.checked.now) c.args.given.choice c.args.rounds c.args.frame.now c.enter_round.new.frame c.begin_stmt.new.frame
    c.args.todo.now.items c.enter_round.new.todo.items c.begin_stmt.new.todo.items r c.requires.test c.in_ok-enter_round.ensures.view c.in_ok-enter_round.ensures.body c.in_ok-enter_round.ensures.todo h)
    c.begin_stmt.ensures.ok

pub returns-clause-typed : goal.returns-clause-typed
returns-clause-typed c = c.begin_stmt.ensures.typed

pub returns-clause-call : goal.returns-clause-call
returns-clause-call c = c.begin_stmt.ensures.call

pub returns-clause-adds : goal.returns-clause-adds
returns-clause-adds c =
    let f = c.args.frame.now.body in
    let g = c.enter_round.new.frame.body in
    on_ok_weaker c.begin_stmt.result (adds_both f g c.begin_stmt.new.frame.body (adds_none f g c.in_ok-enter_round.ensures.body)) c.begin_stmt.ensures.adds

pub returns-clause-err : goal.returns-clause-err
returns-clause-err c =
    IfErr-weaker c.begin_stmt.result _ _
    (λ f h other. body_stops (program_of c.args.given.checked.now) c.args.given.choice c.args.rounds c.args.frame.now c.enter_round.new.frame f c.requires.test
    c.in_ok-enter_round.ensures.view c.in_ok-enter_round.ensures.body (h other))
    c.begin_stmt.ensures.err

pub returns-clause-scopes : goal.returns-clause-scopes
returns-clause-scopes c =
    on_ok_weaker c.begin_stmt.result
    (body_scopes c.args.rounds c.args.frame.now c.enter_round.new.frame c.begin_stmt.new.frame c.args.todo.now.items c.enter_round.new.todo.items c.begin_stmt.new.todo.items
    c.in_ok-enter_round.ensures.view c.in_ok-enter_round.ensures.todo)
    c.begin_stmt.ensures.scopes

pub returns-clause-falls : goal.returns-clause-falls
returns-clause-falls c =
    on_ok_weaker c.begin_stmt.result
    (body_falls c.args.rounds c.args.frame.now c.enter_round.new.frame c.begin_stmt.new.frame c.args.todo.now.items c.enter_round.new.todo.items c.begin_stmt.new.todo.items
    c.in_ok-enter_round.ensures.view c.in_ok-enter_round.ensures.todo)
    c.begin_stmt.ensures.falls
