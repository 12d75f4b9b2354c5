use Rattle.std.proofs.lemmas.Result.{on_ok_weaker}
use Rattle.sc_meaning.specs.Programs.{program_of}
use Rattle.sc_elab.proofs.BodyTyping.{block_typed}
use Rattle.sc_elab.proofs.StatementParts.{always, block_advanced, block_begun}
use Rattle.sc_elab.proofs.advance.begin_block.Goals as goal

pub returns-clause-ok : goal.returns-clause-ok
returns-clause-ok c =
    on_ok_weaker c.push-2.result
    (block_advanced (program_of c.args.given.checked.now) c.args.given.choice c.args.stmts c.args.frame.now c.enter.new.self c.args.todo.now.items c.push.new.todo.items c.push-2.new.todo.items
    c.in_ok-enter.ensures.view c.in_ok-enter.ensures.body c.in_ok-push.ensures)
    c.push-2.ensures

pub returns-clause-begun : goal.returns-clause-begun
returns-clause-begun c =
    on_ok_weaker c.push-2.result
    (block_begun c.args.stmts c.args.frame.now c.enter.new.self c.args.todo.now.items c.push.new.todo.items c.push-2.new.todo.items c.in_ok-enter.ensures.view c.in_ok-push.ensures)
    c.push-2.ensures

pub returns-clause-typed : goal.returns-clause-typed
returns-clause-typed c =
    on_ok_weaker c.push-2.result
    (block_typed c.args.given.checked.now c.args.frame.now c.enter.new.self c.args.stmts c.args.todo.now.items c.push.new.todo.items c.push-2.new.todo.items
    c.requires.typed c.in_ok-enter.ensures.view c.in_ok-push.ensures)
    c.push-2.ensures

pub returns-clause-body : goal.returns-clause-body
returns-clause-body c = always c.push-2.result _ c.in_ok-enter.ensures.body
