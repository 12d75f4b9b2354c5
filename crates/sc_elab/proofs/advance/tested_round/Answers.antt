use Rattle.std.proofs.Common.{true, false, sym, ◌∙◌}
use Rattle.std.proofs.lemmas.Result.{err_from_is_err_and}
use Rattle.sc_syntax.specs.Alike.{pure_expr}
use Rattle.sc_meaning.specs.Programs.{program_of}
use Rattle.sc_elab.specs.declared.todo.Todo.TheVariants.{Loop}
use Rattle.sc_elab.specs.Stepping.{holds}
use Rattle.sc_elab.proofs.BodyTyping.{typed_last, part_stepped, round_typed, ends_typed}
use Rattle.sc_elab.proofs.LoopParts.{stepped_body}
use Rattle.sc_elab.proofs.StatementParts.{truth_is, round_advanced, round_ends, round_fault, round_long, round_scopes, round_falls, ends_scopes, ends_falls}
use Rattle.sc_elab.proofs.TurnRoom.{ends_room, round_room}
use Rattle.sc_elab.proofs.advance.tested_round.Goals as goal

pub returns-in_err-take_step-clause-err : goal.returns-in_err-take_step-clause-err
returns-in_err-take_step-clause-err c =
    let p = err_from_is_err_and c.from_residual.result c.from_residual.ensures.1 in
    rw (p.1, p.2) (λ other.
    round_long (program_of c.args.given.checked.now) c.args.given.choice c.args.rounds c.args.test c.args.frame.now c.take_step.new.frame _ c.requires.test c.in_err-take_step.ensures)

pub returns-in_err-again-clause-err : goal.returns-in_err-again-clause-err
returns-in_err-again-clause-err c =
    let p = err_from_is_err_and c.from_residual-in_err-again.result c.from_residual-in_err-again.ensures.1 in
    rw (p.1, p.2) (λ other.
    round_fault (program_of c.args.given.checked.now) c.args.given.choice c.args.rounds c.args.test c.args.frame.now c.take_step.new.frame _ _ c.requires.test c.in_ok-take_step.ensures (sym c.in_err-again.ensures))

pub returns-then-again-clause-ok : goal.returns-then-again-clause-ok
returns-then-again-clause-ok c =
    round_advanced (program_of c.args.given.checked.now) c.args.given.choice c.args.rounds c.args.test c.args.frame.now c.take_step.new.frame c.enter_round.new.frame _
    c.args.todo.now.items c.enter_round.new.todo.items c.push.new.todo.items c.requires.test c.in_ok-take_step.ensures
    (truth_is (holds c.take_step.new.frame.numbers (pure_expr c.args.test.now)) c.in_ok-again.again true c.in_ok-again.ensures c.if-again.true)
    c.in_ok-enter_round.ensures.view c.in_ok-enter_round.ensures.body c.in_ok-enter_round.ensures.todo c.in_ok-push.ensures

pub returns-then-again-clause-typed : goal.returns-then-again-clause-typed
returns-then-again-clause-typed c =
    round_typed c.args.given.checked.now c.take_step.new.frame c.enter_round.new.frame c.args.rounds c.args.todo.now.items c.enter_round.new.todo.items c.push.new.todo.items
    c.in_ok-enter_round.ensures.view c.in_ok-enter_round.ensures.todo c.in_ok-push.ensures
    (part_stepped c.args.given.checked.now c.args.frame.now c.take_step.new.frame c.args.rounds.at _ (Loop c.args.rounds) c.args.todo.now.items c.in_ok-take_step.ensures
    (typed_last c.args.given.checked.now c.args.frame.now c.args.todo.now.items (Loop c.args.rounds) c.requires.typed))

pub returns-then-again-clause-body : goal.returns-then-again-clause-body
returns-then-again-clause-body c = c.in_ok-enter_round.ensures.body ∙ stepped_body c.args.frame.now c.take_step.new.frame c.args.rounds.at _ c.in_ok-take_step.ensures

pub returns-then-again-clause-scopes : goal.returns-then-again-clause-scopes
returns-then-again-clause-scopes c =
    round_scopes c.args.rounds c.args.frame.now c.take_step.new.frame c.enter_round.new.frame _ c.args.todo.now.items c.enter_round.new.todo.items c.push.new.todo.items
    c.in_ok-take_step.ensures c.in_ok-enter_round.ensures.view c.in_ok-enter_round.ensures.todo c.in_ok-push.ensures

pub returns-then-again-clause-falls : goal.returns-then-again-clause-falls
returns-then-again-clause-falls c =
    round_falls c.args.rounds c.args.frame.now c.take_step.new.frame c.enter_round.new.frame _ c.args.todo.now.items c.enter_round.new.todo.items c.push.new.todo.items
    c.in_ok-take_step.ensures c.in_ok-enter_round.ensures.view c.in_ok-enter_round.ensures.todo c.in_ok-push.ensures

pub returns-clause-ok : goal.returns-clause-ok
returns-clause-ok c =
    round_ends (program_of c.args.given.checked.now) c.args.given.choice c.args.rounds c.args.test c.args.frame.now c.take_step.new.frame _ c.args.todo.now.items c.requires.test c.in_ok-take_step.ensures
    (truth_is (holds c.take_step.new.frame.numbers (pure_expr c.args.test.now)) c.in_ok-again.again false c.in_ok-again.ensures c.if-again.false)

pub returns-clause-scopes : goal.returns-clause-scopes
returns-clause-scopes c = ends_scopes c.args.rounds c.args.frame.now c.take_step.new.frame _ c.args.todo.now.items c.in_ok-take_step.ensures

pub returns-clause-falls : goal.returns-clause-falls
returns-clause-falls c = ends_falls c.args.rounds c.args.frame.now c.take_step.new.frame _ c.args.todo.now.items c.in_ok-take_step.ensures

pub returns-clause-typed : goal.returns-clause-typed
returns-clause-typed c =
    ends_typed c.args.given.checked.now c.take_step.new.frame c.args.rounds c.args.todo.now.items
    (part_stepped c.args.given.checked.now c.args.frame.now c.take_step.new.frame c.args.rounds.at _ (Loop c.args.rounds) c.args.todo.now.items c.in_ok-take_step.ensures
    (typed_last c.args.given.checked.now c.args.frame.now c.args.todo.now.items (Loop c.args.rounds) c.requires.typed))

pub returns-clause-body : goal.returns-clause-body
returns-clause-body c = stepped_body c.args.frame.now c.take_step.new.frame c.args.rounds.at _ c.in_ok-take_step.ensures

pub returns-then-again-clause-turns : goal.returns-then-again-clause-turns
returns-then-again-clause-turns c =
    round_room c.args.frame.now c.take_step.new.frame c.enter_round.new.frame c.args.rounds.at _ c.in_ok-take_step.ensures
    c.in_ok-enter_round.ensures.view c.in_ok-enter_round.ensures.body c.requires.turns

pub returns-clause-turns : goal.returns-clause-turns
returns-clause-turns c = ends_room c.args.frame.now c.take_step.new.frame c.args.rounds.at _ c.in_ok-take_step.ensures c.requires.turns
