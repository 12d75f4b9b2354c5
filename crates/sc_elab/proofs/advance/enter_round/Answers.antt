use Rattle.std.proofs.lemmas.Result.{on_ok_weaker}
use Rattle.sc_elab.proofs.StatementParts.{always, round_todo}
use Rattle.sc_elab.proofs.advance.enter_round.Goals as goal

pub returns-clause-view : goal.returns-clause-view
returns-clause-view c = always c.push-2.result _ c.in_ok-enter.ensures.view

pub returns-clause-body : goal.returns-clause-body
returns-clause-body c = always c.push-2.result _ c.in_ok-enter.ensures.body

pub returns-clause-todo : goal.returns-clause-todo
returns-clause-todo c =
    on_ok_weaker c.push-2.result
    (round_todo c.args.rounds c.args.todo.now.items c.push.new.todo.items c.push_optional.new.todo.items c.push-2.new.todo.items c.in_ok-push.ensures c.in_ok-push_optional.ensures)
    c.push-2.ensures
