use Rattle.std.proofs.Common.{true, false, refl, sym}
use Rattle.std.specs.Option.{option_copied}
use Rattle.std.proofs.lemmas.Result.{err_from_is_err_and}
use Rattle.sc_syntax.specs.Alike.{pure_expr}
use Rattle.sc_meaning.specs.Programs.{program_of}
use Rattle.sc_elab.specs.declared.todo.Todo.TheVariants.{Do}
use Rattle.sc_elab.specs.Pending.{if_act}
use Rattle.sc_elab.specs.Stepping.{holds}
use Rattle.sc_elab.proofs.Beginning.{begun_still}
use Rattle.sc_elab.proofs.BodyTyping.{still_typed, if_typed, else_typed}
use Rattle.sc_elab.proofs.StatementParts.{truth_is, if_advanced, else_advanced, no_else_advanced, if_stops, if_begun}
use Rattle.sc_elab.proofs.advance.begin_if.Goals as goal

pub returns-in_err-chosen-clause-err : goal.returns-in_err-chosen-clause-err
returns-in_err-chosen-clause-err c =
    let p = err_from_is_err_and c.from_residual.result c.from_residual.ensures.1 in
    rw (p.1, p.2) (λ other. if_stops (program_of c.args.given.checked.now) c.args.given.choice c.args.test.now c.args.body.now (option_copied c.args.other) c.args.frame.now _ (sym c.in_err-chosen.ensures))

pub returns-then-chosen-clause-ok : goal.returns-then-chosen-clause-ok
returns-then-chosen-clause-ok c =
    if_advanced (program_of c.args.given.checked.now) c.args.given.choice c.args.test.now c.args.body (option_copied c.args.other) c.args.frame.now c.push_inside.new.frame c.args.todo.now.items c.push_inside.new.todo.items
    (truth_is (holds c.args.frame.now.numbers (pure_expr c.args.test.now)) c.in_ok-chosen.chosen true c.in_ok-chosen.ensures c.if-chosen.true)
    c.in_ok-push_inside.ensures.view c.in_ok-push_inside.ensures.body c.in_ok-push_inside.ensures.todo

pub returns-then-chosen-clause-begun : goal.returns-then-chosen-clause-begun
returns-then-chosen-clause-begun c =
    if_begun (Do c.args.body) c.args.frame.now c.push_inside.new.frame c.args.todo.now.items c.push_inside.new.todo.items refl c.in_ok-push_inside.ensures.view c.in_ok-push_inside.ensures.todo

pub returns-then-chosen-clause-typed : goal.returns-then-chosen-clause-typed
returns-then-chosen-clause-typed c =
    if_typed c.args.given.checked.now c.args.frame.now c.push_inside.new.frame c.args.test.now c.args.body (option_copied c.args.other) c.args.todo.now.items c.push_inside.new.todo.items c.requires.typed
    c.in_ok-push_inside.ensures.view c.in_ok-push_inside.ensures.todo

pub returns-in_ok-push_inside-in-Some-clause-ok : goal.returns-in_ok-push_inside-in-Some-clause-ok
returns-in_ok-push_inside-in-Some-clause-ok c =
    else_advanced (program_of c.args.given.checked.now) c.args.given.choice c.args.test.now c.args.body.now c.args.other c.in-Some.other c.args.frame.now c.push_inside-in-Some.new.frame c.args.todo.now.items c.push_inside-in-Some.new.todo.items
    c.in-Some.is (truth_is (holds c.args.frame.now.numbers (pure_expr c.args.test.now)) c.in_ok-chosen.chosen false c.in_ok-chosen.ensures c.if-chosen.false)
    c.in_ok-push_inside-in-Some.ensures.view c.in_ok-push_inside-in-Some.ensures.body c.in_ok-push_inside-in-Some.ensures.todo

pub returns-in_ok-push_inside-in-Some-clause-begun : goal.returns-in_ok-push_inside-in-Some-clause-begun
returns-in_ok-push_inside-in-Some-clause-begun c =
    if_begun (Do c.in-Some.other) c.args.frame.now c.push_inside-in-Some.new.frame c.args.todo.now.items c.push_inside-in-Some.new.todo.items refl
    c.in_ok-push_inside-in-Some.ensures.view c.in_ok-push_inside-in-Some.ensures.todo

pub returns-in_ok-push_inside-in-Some-clause-typed : goal.returns-in_ok-push_inside-in-Some-clause-typed
returns-in_ok-push_inside-in-Some-clause-typed c =
    else_typed c.args.given.checked.now c.args.frame.now c.push_inside-in-Some.new.frame c.args.test.now c.args.body.now c.args.other c.in-Some.other c.args.todo.now.items c.push_inside-in-Some.new.todo.items
    c.in-Some.is c.requires.typed c.in_ok-push_inside-in-Some.ensures.view c.in_ok-push_inside-in-Some.ensures.todo

pub returns-in-None-clause-ok : goal.returns-in-None-clause-ok
returns-in-None-clause-ok c =
    no_else_advanced (program_of c.args.given.checked.now) c.args.given.choice c.args.test.now c.args.body.now c.args.other c.args.frame.now c.args.todo.now.items c.in-None.is
    (truth_is (holds c.args.frame.now.numbers (pure_expr c.args.test.now)) c.in_ok-chosen.chosen false c.in_ok-chosen.ensures c.if-chosen.false)

pub returns-in-None-clause-begun : goal.returns-in-None-clause-begun
returns-in-None-clause-begun c = begun_still c.args.frame.now c.args.frame.now c.args.todo.now.items refl refl

pub returns-in-None-clause-typed : goal.returns-in-None-clause-typed
returns-in-None-clause-typed c =
    still_typed c.args.given.checked.now c.args.frame.now c.args.frame.now (if_act c.args.test.now c.args.body.now (option_copied c.args.other)) c.args.todo.now.items (λ here. refl) refl c.requires.typed
