use Rattle.std.proofs.Common.{refl, sym}
use Rattle.std.proofs.lemmas.Result.{err_from_is_err_and}
use Rattle.sc_elab.specs.Callees.{definition_by}
use Rattle.sc_meaning.specs.Programs.{program_of}
use Rattle.sc_elab.proofs.CallParts.{gate_advanced, gate_stops, nothing_advanced, named_advanced, named_stops, gate_fits, named_typed}
use Rattle.sc_elab.proofs.PushedGates.{adds_none}
use Rattle.sc_elab.proofs.TurnRoom.{turns_none}
use Rattle.sc_elab.proofs.advance.begin_call.Goals as goal

pub call_gate-requires-clause-fits : goal.call_gate-requires-clause-fits
call_gate-requires-clause-fits c =
    gate_fits c.args.given.checked.now c.args.frame.now c.args.call.now c.in-Gate.gate c.as_slice-args.result.now c.in-Gate.is c.as_slice-args.ensures c.requires.typed

pub returns-in_ok-call_gate-in-Gate-clause-ok : goal.returns-in_ok-call_gate-in-Gate-clause-ok
returns-in_ok-call_gate-in-Gate-clause-ok c = λ todo.
    gate_advanced (program_of c.args.given.checked.now) c.args.given.choice c.args.call.now.callee c.in-Gate.gate c.args.call.now.args c.as_slice-args.result.now c.args.frame.now c.call_gate.new.frame todo
    c.in-Gate.is c.as_slice-args.ensures c.in_ok-call_gate-in-Gate.ensures.ok

pub returns-in_err-call_gate-in-Gate-clause-err : goal.returns-in_err-call_gate-in-Gate-clause-err
returns-in_err-call_gate-in-Gate-clause-err c =
    let p = err_from_is_err_and c.from_residual.result c.from_residual.ensures.1 in
    rw (p.1, p.2) (λ other.
    gate_stops (program_of c.args.given.checked.now) c.args.given.choice c.args.call.now.callee c.in-Gate.gate c.args.call.now.args c.as_slice-args.result.now c.args.frame.now _
    c.in-Gate.is c.as_slice-args.ensures (c.in_err-call_gate-in-Gate.ensures.err other))

pub returns-in-None-clause-ok : goal.returns-in-None-clause-ok
returns-in-None-clause-ok c = λ todo.
    nothing_advanced (program_of c.args.given.checked.now) c.args.given.choice c.args.call.now.callee c.in-Named.name c.args.call.now.args c.args.frame.now todo c.in-Named.is (sym c.in-None.ensures)

pub returns-in-None-clause-adds : goal.returns-in-None-clause-adds
returns-in-None-clause-adds c = adds_none c.args.frame.now.body c.args.frame.now.body refl

pub returns-in_ok-request-in-Some-clause-ok : goal.returns-in_ok-request-in-Some-clause-ok
returns-in_ok-request-in-Some-clause-ok c = λ todo.
    named_advanced (program_of c.args.given.checked.now) c.args.given.choice c.args.call.now.callee c.in-Named.name (definition_by c.in-Some.callee) c.args.call.now.args c.as_slice-args.result.now c.args.frame.now todo
    c.in_ok-request-in-Some.request c.in-Named.is c.as_slice-args.ensures (sym c.in-Some.ensures) c.in_ok-request-in-Some.ensures.ok

pub returns-in_ok-request-in-Some-clause-call : goal.returns-in_ok-request-in-Some-clause-call
returns-in_ok-request-in-Some-clause-call c =
    named_typed c.args.given.checked.now c.args.frame.now c.args.call.now c.in-Named.name (definition_by c.in-Some.callee) c.as_slice-args.result.now c.in_ok-request-in-Some.request
    c.requires.accepted c.is_narrow.ensures c.in-Named.is c.as_slice-args.ensures (sym c.in-Some.ensures) c.requires.typed c.in_ok-request-in-Some.ensures.ok

pub returns-in_ok-request-in-Some-clause-adds : goal.returns-in_ok-request-in-Some-clause-adds
returns-in_ok-request-in-Some-clause-adds c = adds_none c.args.frame.now.body c.args.frame.now.body refl

pub returns-in_err-request-in-Some-clause-err : goal.returns-in_err-request-in-Some-clause-err
returns-in_err-request-in-Some-clause-err c =
    let p = err_from_is_err_and c.from_residual-in_err-request-in-Some.result c.from_residual-in_err-request-in-Some.ensures.1 in
    rw (p.1, p.2) (λ other.
    named_stops (program_of c.args.given.checked.now) c.args.given.choice c.args.call.now.callee c.in-Named.name (definition_by c.in-Some.callee) c.args.call.now.args c.as_slice-args.result.now c.args.frame.now _
    c.in-Named.is c.as_slice-args.ensures (sym c.in-Some.ensures) (c.in_err-request-in-Some.ensures.err other))

pub returns-in-None-clause-turns : goal.returns-in-None-clause-turns
returns-in-None-clause-turns c = turns_none c.args.frame.now.body c.args.frame.now.body refl

pub returns-in_ok-request-in-Some-clause-turns : goal.returns-in_ok-request-in-Some-clause-turns
returns-in_ok-request-in-Some-clause-turns c = turns_none c.args.frame.now.body c.args.frame.now.body refl
