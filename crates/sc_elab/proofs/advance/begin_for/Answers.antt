use Rattle.std.proofs.lemmas.Result.{on_ok_weaker}
use Rattle.sc_meaning.specs.Programs.{program_of}
use Rattle.sc_elab.proofs.BodyTyping.{for_typed}
use Rattle.sc_elab.proofs.StatementParts.{always, for_advanced, for_begun}
use Rattle.sc_elab.proofs.advance.begin_for.Goals as goal

pub returns-clause-ok : goal.returns-clause-ok
returns-clause-ok c =
    on_ok_weaker c.push_optional.result
    (for_advanced (program_of c.args.given.checked.now) c.args.given.choice c.args.start c.args.rounds c.args.frame.now c.enter.new.self c.args.todo.now.items c.push.new.todo.items c.push-2.new.todo.items c.push_optional.new.todo.items
    c.in_ok-enter.ensures.view c.in_ok-enter.ensures.body c.in_ok-push.ensures c.in_ok-push-2.ensures)
    c.push_optional.ensures

pub returns-clause-begun : goal.returns-clause-begun
returns-clause-begun c =
    on_ok_weaker c.push_optional.result
    (for_begun c.args.start c.args.rounds c.args.frame.now c.enter.new.self c.args.todo.now.items c.push.new.todo.items c.push-2.new.todo.items c.push_optional.new.todo.items
    c.in_ok-enter.ensures.view c.in_ok-push.ensures c.in_ok-push-2.ensures)
    c.push_optional.ensures

pub returns-clause-typed : goal.returns-clause-typed
returns-clause-typed c =
    on_ok_weaker c.push_optional.result
    (for_typed c.args.given.checked.now c.args.frame.now c.enter.new.self c.args.start c.args.rounds c.args.todo.now.items c.push.new.todo.items c.push-2.new.todo.items c.push_optional.new.todo.items
    c.requires.typed c.in_ok-enter.ensures.view c.in_ok-push.ensures c.in_ok-push-2.ensures)
    c.push_optional.ensures

pub returns-clause-body : goal.returns-clause-body
returns-clause-body c = always c.push_optional.result _ c.in_ok-enter.ensures.body
