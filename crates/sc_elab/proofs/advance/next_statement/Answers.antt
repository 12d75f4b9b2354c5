use Rattle.std.proofs.Common.{List, length, arith}
use Rattle.std.specs.Borrow.{Bor}
use Rattle.std.specs.List.{between}
use Rattle.std.proofs.lemmas.Result.{on_ok_weaker, IfOk-weaker, IfErr-weaker}
use Rattle.sc_syntax.specs.declared.Stmt.{Stmt}
use Rattle.sc_meaning.specs.Programs.{program_of}
use Rattle.sc_elab.proofs.Beginning.{first_is}
use Rattle.sc_elab.proofs.BodyTyping.{rest_typed, none_typed}
use Rattle.sc_elab.proofs.Lengths.{none_left}
use Rattle.sc_elab.proofs.StatementParts.{rest_advanced, rest_stops, rest_scopes, rest_falls}
use Rattle.sc_elab.proofs.advance.next_statement.Goals as goal

pub begin_stmt-requires-clause-typed : goal.begin_stmt-requires-clause-typed
begin_stmt-requires-clause-typed c =
    let is = first_is c.args.stmts.now c.first-item.result (omega arith) c.first-item.is in
    rest_typed c.args.given.checked.now c.args.frame.now c.args.stmts _ _ c.args.todo.now.items c.push.new.todo.items is c.in_ok-push.ensures c.requires.typed

pub returns-in_default-clause-typed : goal.returns-in_default-clause-typed
returns-in_default-clause-typed c =
    none_typed c.args.given.checked.now c.args.frame.now c.args.stmts c.args.todo.now.items (none_left c.args.stmts.now c.in_default.len_below) c.requires.typed

pub returns-clause-ok : goal.returns-clause-ok
returns-clause-ok c =
    let first : Bor Stmt = record { ref_ptr = c.args.stmts.ref_ptr; now = c.first-item.result } in
    let is = first_is c.args.stmts.now c.first-item.result (omega arith) c.first-item.is in
    IfOk-weaker c.begin_stmt.result _ _
    (λ r h. rest_advanced (program_of c.args.given.checked.now) c.args.given.choice c.args.stmts first _ c.args.frame.now c.begin_stmt.new.frame c.args.todo.now.items c.push.new.todo.items c.begin_stmt.new.todo.items r
    is c.in_ok-push.ensures h)
    c.begin_stmt.ensures.ok

pub returns-clause-typed : goal.returns-clause-typed
returns-clause-typed c = c.begin_stmt.ensures.typed

pub returns-clause-turns : goal.returns-clause-turns
returns-clause-turns c = c.begin_stmt.ensures.turns

pub returns-clause-call : goal.returns-clause-call
returns-clause-call c = c.begin_stmt.ensures.call

pub returns-clause-adds : goal.returns-clause-adds
returns-clause-adds c = c.begin_stmt.ensures.adds

pub returns-clause-err : goal.returns-clause-err
returns-clause-err c =
    let first : Bor Stmt = record { ref_ptr = c.args.stmts.ref_ptr; now = c.first-item.result } in
    let rest : Bor (List Stmt) = record { ref_ptr = c.args.stmts.ref_ptr; now = between 1 (length c.args.stmts.now) c.args.stmts.now } in
    let is = first_is c.args.stmts.now c.first-item.result (omega arith) c.first-item.is in
    IfErr-weaker c.begin_stmt.result _ _
    (λ f h other. rest_stops (program_of c.args.given.checked.now) c.args.given.choice c.args.stmts first rest c.args.frame.now f is (h other))
    c.begin_stmt.ensures.err

pub returns-clause-scopes : goal.returns-clause-scopes
returns-clause-scopes c =
    on_ok_weaker c.begin_stmt.result (rest_scopes c.args.frame.now c.begin_stmt.new.frame _ c.args.todo.now.items c.push.new.todo.items c.begin_stmt.new.todo.items c.in_ok-push.ensures) c.begin_stmt.ensures.scopes

pub returns-clause-falls : goal.returns-clause-falls
returns-clause-falls c =
    on_ok_weaker c.begin_stmt.result (rest_falls c.args.frame.now c.begin_stmt.new.frame _ c.args.todo.now.items c.push.new.todo.items c.begin_stmt.new.todo.items c.in_ok-push.ensures) c.begin_stmt.ensures.falls
