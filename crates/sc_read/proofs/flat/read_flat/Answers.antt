use Rattle.std.proofs.Common.{Option, refl, subst, ℕ}
use Rattle.sc_read.specs.FlatReads.{GatesFront}
use Rattle.sc_read.proofs.FlatLines.{title_bad, qubits_not_there, cbits_not_there, gates_not_there, too_many, text_there, fault_there, has_qubits, has_cbits, none_of}
use Rattle.sc_read.proofs.flat.read_flat.Goals as goal

pub returns-in_default-clause-fault : goal.returns-in_default-clause-fault
returns-in_default-clause-fault c = title_bad c.args.text.now c.in_default.ensures.none

pub returns-in_default-take_wire_count-clause-fault : goal.returns-in_default-take_wire_count-clause-fault
returns-in_default-take_wire_count-clause-fault c =
    qubits_not_there c.args.text.now c.in-Some.after_title.now c.in-Some.ensures.some c.in_default-take_wire_count.ensures.none

pub returns-in_default-take_wire_count-2-clause-fault : goal.returns-in_default-take_wire_count-2-clause-fault
returns-in_default-take_wire_count-2-clause-fault c =
    cbits_not_there c.args.text.now c.in-Some-take_wire_count.qubits c.in-Some-take_wire_count.after_qubits.now
    (has_qubits _ _ _ _ c.in-Some.ensures.some c.in-Some-take_wire_count.ensures.allowed c.in-Some-take_wire_count.ensures.some) c.in_default-take_wire_count-2.ensures.none

pub returns-in_default-take_gates_line-clause-fault : goal.returns-in_default-take_gates_line-clause-fault
returns-in_default-take_gates_line-clause-fault c =
    gates_not_there c.args.text.now c.in-Some-take_wire_count.qubits c.in-Some-take_wire_count-2.cbits c.in-Some-take_wire_count-2.after_cbits.now
    (has_cbits _ _ _ _ _ (has_qubits _ _ _ _ c.in-Some.ensures.some c.in-Some-take_wire_count.ensures.allowed c.in-Some-take_wire_count.ensures.some)
    c.in-Some-take_wire_count-2.ensures.allowed c.in-Some-take_wire_count-2.ensures.some) c.in_default-take_gates_line.ensures.none

pub returns-in_default-count-clause-fault : goal.returns-in_default-count-clause-fault
returns-in_default-count-clause-fault c =
    too_many c.args.text.now c.in-Some-take_wire_count.qubits c.in-Some-take_wire_count-2.cbits c.in-Some-take_wire_count-2.after_cbits.now c.in-Some-take_gates_line.body.now
    (has_cbits _ _ _ _ _ (has_qubits _ _ _ _ c.in-Some.ensures.some c.in-Some-take_wire_count.ensures.allowed c.in-Some-take_wire_count.ensures.some)
    c.in-Some-take_wire_count-2.ensures.allowed c.in-Some-take_wire_count-2.ensures.some)
    (subst (λ (z : Option ℕ). GatesFront c.in-Some-take_wire_count-2.after_cbits.now z c.in-Some-take_gates_line.body.now) (none_of c.in-Some-take_gates_line.count c.in_default-count.not-Some)
    c.in-Some-take_gates_line.ensures.some)

pub returns-in-Ok-clause-ok : goal.returns-in-Ok-clause-ok
returns-in-Ok-clause-ok c =
    text_there c.args.text.now c.in-Some-take_wire_count.qubits c.in-Some-take_wire_count-2.cbits c.in-Some-take_wire_count-2.after_cbits.now c.in-Some-count.count c.in-Some-take_gates_line.body.now
    (record { qubits = c.in-Some-take_wire_count.qubits; cbits = c.in-Some-take_wire_count-2.cbits; gates = c.in-Ok.gates })
    (has_cbits _ _ _ _ _ (has_qubits _ _ _ _ c.in-Some.ensures.some c.in-Some-take_wire_count.ensures.allowed c.in-Some-take_wire_count.ensures.some)
    c.in-Some-take_wire_count-2.ensures.allowed c.in-Some-take_wire_count-2.ensures.some)
    (subst (λ (z : Option ℕ). GatesFront c.in-Some-take_wire_count-2.after_cbits.now z c.in-Some-take_gates_line.body.now) c.in-Some-count.is c.in-Some-take_gates_line.ensures.some)
    refl refl c.in-Ok.ensures.ok

pub returns-in-Err-clause-fault : goal.returns-in-Err-clause-fault
returns-in-Err-clause-fault c =
    fault_there c.args.text.now c.in-Some-take_wire_count.qubits c.in-Some-take_wire_count-2.cbits c.in-Some-take_wire_count-2.after_cbits.now c.in-Some-count.count c.in-Some-take_gates_line.body.now
    c.in-Err.fault
    (has_cbits _ _ _ _ _ (has_qubits _ _ _ _ c.in-Some.ensures.some c.in-Some-take_wire_count.ensures.allowed c.in-Some-take_wire_count.ensures.some)
    c.in-Some-take_wire_count-2.ensures.allowed c.in-Some-take_wire_count-2.ensures.some)
    (subst (λ (z : Option ℕ). GatesFront c.in-Some-take_wire_count-2.after_cbits.now z c.in-Some-take_gates_line.body.now) c.in-Some-count.is c.in-Some-take_gates_line.ensures.some)
    c.in-Err.ensures.fault
