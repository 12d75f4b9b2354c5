use Rattle.std.proofs.Common.{length, refl, sym, ap, subst, arith}
use Rattle.std.proofs.lemmas.Result.{on_ok_weaker}
use Rattle.sc_deck.specs.Bodies.{Contents}
use Rattle.sc_deck.specs.Decks.{CallsFit}
use Rattle.sc_meaning.specs.Programs.{program_of}
use Rattle.sc_elab.specs.declared.todo.Todo.TheVariants.{Do, Loop, Rest}
use Rattle.sc_elab.specs.Folding.{IsFolded}
use Rattle.sc_elab.proofs.BodyTyping.{leave_scope_typed}
use Rattle.sc_elab.proofs.StatementParts.{leave_advanced, nested_on, scope_last, nested_off}
use Rattle.sc_elab.proofs.TurnRoom.{left_room}
use Rattle.sc_elab.proofs.advance.advance.Goals as goal

-- ---- a statement

pub returns-in-Do-clause-ok : goal.returns-in-Do-clause-ok
returns-in-Do-clause-ok c = rw c.in-Do.is c.begin_stmt.ensures.ok

pub begin_stmt-requires-clause-typed : goal.begin_stmt-requires-clause-typed
begin_stmt-requires-clause-typed c = rw c.in-Do.is at c.requires.typed

pub returns-in-Do-clause-typed : goal.returns-in-Do-clause-typed
returns-in-Do-clause-typed c = c.begin_stmt.ensures.typed

pub returns-in-Do-clause-call : goal.returns-in-Do-clause-call
returns-in-Do-clause-call c = c.begin_stmt.ensures.call

pub returns-in-Do-clause-calls : goal.returns-in-Do-clause-calls
returns-in-Do-clause-calls c = λ deck fit. on_ok_weaker c.begin_stmt.result (λ a. a.calls deck fit) c.begin_stmt.ensures.adds

pub returns-in-Do-clause-params : goal.returns-in-Do-clause-params
returns-in-Do-clause-params c = on_ok_weaker c.begin_stmt.result (λ a. a.params) c.begin_stmt.ensures.adds

pub returns-in-Do-clause-turns : goal.returns-in-Do-clause-turns
returns-in-Do-clause-turns c = c.begin_stmt.ensures.turns

pub returns-in-Do-clause-folded : goal.returns-in-Do-clause-folded
returns-in-Do-clause-folded c = on_ok_weaker c.begin_stmt.result (λ a. a.folded c.requires.folded) c.begin_stmt.ensures.adds

pub returns-in-Do-clause-err : goal.returns-in-Do-clause-err
returns-in-Do-clause-err c = rw c.in-Do.is c.begin_stmt.ensures.err

pub returns-in-Do-clause-nested : goal.returns-in-Do-clause-nested
returns-in-Do-clause-nested c =
    let nested = rw c.in-Do.is at c.requires.nested in
    on_ok_weaker c.begin_stmt.result (nested_on c.args.frame.now c.begin_stmt.new.frame c.begin_stmt.new.todo.items c.args.todo.now.items (Do c.in-Do.stmt) nested refl) c.begin_stmt.ensures.scopes

pub returns-in-Do-clause-falls : goal.returns-in-Do-clause-falls
returns-in-Do-clause-falls c = on_ok_weaker c.begin_stmt.result (λ h. omega arith) c.begin_stmt.ensures.falls

-- ---- the rounds of a loop

pub returns-in-Loop-clause-ok : goal.returns-in-Loop-clause-ok
returns-in-Loop-clause-ok c = rw c.in-Loop.is c.next_round.ensures.ok

pub next_round-requires-clause-typed : goal.next_round-requires-clause-typed
next_round-requires-clause-typed c = rw c.in-Loop.is at c.requires.typed

pub returns-in-Loop-clause-typed : goal.returns-in-Loop-clause-typed
returns-in-Loop-clause-typed c = c.next_round.ensures.typed

pub returns-in-Loop-clause-call : goal.returns-in-Loop-clause-call
returns-in-Loop-clause-call c = c.next_round.ensures.call

pub returns-in-Loop-clause-calls : goal.returns-in-Loop-clause-calls
returns-in-Loop-clause-calls c = λ deck fit. on_ok_weaker c.next_round.result (λ a. a.calls deck fit) c.next_round.ensures.adds

pub returns-in-Loop-clause-params : goal.returns-in-Loop-clause-params
returns-in-Loop-clause-params c = on_ok_weaker c.next_round.result (λ a. a.params) c.next_round.ensures.adds

pub returns-in-Loop-clause-turns : goal.returns-in-Loop-clause-turns
returns-in-Loop-clause-turns c = c.next_round.ensures.turns

pub returns-in-Loop-clause-folded : goal.returns-in-Loop-clause-folded
returns-in-Loop-clause-folded c = on_ok_weaker c.next_round.result (λ a. a.folded c.requires.folded) c.next_round.ensures.adds

pub returns-in-Loop-clause-err : goal.returns-in-Loop-clause-err
returns-in-Loop-clause-err c = rw c.in-Loop.is c.next_round.ensures.err

pub returns-in-Loop-clause-nested : goal.returns-in-Loop-clause-nested
returns-in-Loop-clause-nested c =
    let nested = rw c.in-Loop.is at c.requires.nested in
    on_ok_weaker c.next_round.result (nested_on c.args.frame.now c.next_round.new.frame c.next_round.new.todo.items c.args.todo.now.items (Loop c.in-Loop.rounds) nested refl) c.next_round.ensures.scopes

-- ---- statements one after another

pub returns-in-Rest-clause-ok : goal.returns-in-Rest-clause-ok
returns-in-Rest-clause-ok c = rw c.in-Rest.is c.next_statement.ensures.ok

pub next_statement-requires-clause-typed : goal.next_statement-requires-clause-typed
next_statement-requires-clause-typed c = rw c.in-Rest.is at c.requires.typed

pub returns-in-Rest-clause-typed : goal.returns-in-Rest-clause-typed
returns-in-Rest-clause-typed c = c.next_statement.ensures.typed

pub returns-in-Rest-clause-call : goal.returns-in-Rest-clause-call
returns-in-Rest-clause-call c = c.next_statement.ensures.call

pub returns-in-Rest-clause-calls : goal.returns-in-Rest-clause-calls
returns-in-Rest-clause-calls c = λ deck fit. on_ok_weaker c.next_statement.result (λ a. a.calls deck fit) c.next_statement.ensures.adds

pub returns-in-Rest-clause-params : goal.returns-in-Rest-clause-params
returns-in-Rest-clause-params c = on_ok_weaker c.next_statement.result (λ a. a.params) c.next_statement.ensures.adds

pub returns-in-Rest-clause-turns : goal.returns-in-Rest-clause-turns
returns-in-Rest-clause-turns c = c.next_statement.ensures.turns

pub returns-in-Rest-clause-folded : goal.returns-in-Rest-clause-folded
returns-in-Rest-clause-folded c = on_ok_weaker c.next_statement.result (λ a. a.folded c.requires.folded) c.next_statement.ensures.adds

pub returns-in-Rest-clause-err : goal.returns-in-Rest-clause-err
returns-in-Rest-clause-err c = rw c.in-Rest.is c.next_statement.ensures.err

pub returns-in-Rest-clause-nested : goal.returns-in-Rest-clause-nested
returns-in-Rest-clause-nested c =
    let nested = rw c.in-Rest.is at c.requires.nested in
    on_ok_weaker c.next_statement.result (nested_on c.args.frame.now c.next_statement.new.frame c.next_statement.new.todo.items c.args.todo.now.items (Rest c.in-Rest.stmts) nested refl) c.next_statement.ensures.scopes

-- ---- the end of a scope

pub leave-requires : goal.leave-requires
leave-requires c =
    let nested = rw c.in-Leave.is at c.requires.nested in
    scope_last c.args.todo.now.items (length c.args.frame.now.numbers) nested

pub returns-in-Leave-clause-ok : goal.returns-in-Leave-clause-ok
returns-in-Leave-clause-ok c =
    rw c.in-Leave.is (leave_advanced (program_of c.args.given.checked.now) c.args.given.choice c.args.frame.now c.leave.new.self c.args.todo.now.items c.leave.ensures.view c.leave.ensures.body)

pub returns-in-Leave-clause-typed : goal.returns-in-Leave-clause-typed
returns-in-Leave-clause-typed c =
    let h = rw c.in-Leave.is at c.requires.typed in
    leave_scope_typed c.args.given.checked.now c.args.frame.now c.leave.new.self c.args.todo.now.items c.leave.ensures.view h

pub returns-in-Leave-clause-calls : goal.returns-in-Leave-clause-calls
returns-in-Leave-clause-calls c = λ deck fit. subst (λ (b : Contents). CallsFit deck b.items) (sym c.leave.ensures.body) fit

pub returns-in-Leave-clause-params : goal.returns-in-Leave-clause-params
returns-in-Leave-clause-params c = ap (λ (b : Contents). b.params) c.leave.ensures.body

pub returns-in-Leave-clause-turns : goal.returns-in-Leave-clause-turns
returns-in-Leave-clause-turns c = left_room c.args.frame.now c.leave.new.self c.leave.ensures.view c.leave.ensures.body c.requires.turns

pub returns-in-Leave-clause-folded : goal.returns-in-Leave-clause-folded
returns-in-Leave-clause-folded c = subst (λ (b : Contents). IsFolded b.items) (sym c.leave.ensures.body) c.requires.folded

pub returns-in-Leave-clause-nested : goal.returns-in-Leave-clause-nested
returns-in-Leave-clause-nested c =
    let nested = rw c.in-Leave.is at c.requires.nested in
    nested_off c.args.frame.now c.leave.new.self c.args.todo.now.items nested c.leave.ensures.view

pub returns-in-Leave-clause-falls : goal.returns-in-Leave-clause-falls
returns-in-Leave-clause-falls c =
    let same = ap (λ s. s.steps) c.leave.ensures.view in
    omega arith
