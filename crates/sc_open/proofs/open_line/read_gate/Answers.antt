use Rattle.std.proofs.Common.{codes, arith, true≢false, sym, ◌∙◌, subst}
use Rattle.sc_gate.specs.Gates.{IsWellFormed}
use Rattle.sc_open.specs.Lowering.{back_line}
use Rattle.sc_open.proofs.LineParts.{behind_angle, parts_there, no_operand, was_read, only_gate, gate_read, not_alike, not_differ}
use Rattle.sc_open.proofs.open_line.read_gate.Goals as goal

pub returns-in_default-clause-none : goal.returns-in_default-clause-none
returns-in_default-clause-none c = λ l p.
    c.in_default.ensures.none (back_line l).kind (behind_angle (back_line l))
    (parts_there c.args.registers.qubits c.args.registers.cbits c.args.registers.spare c.args.name c.args.bytes.now l c.requires.no_measurement p).angle

pub returns-in_default-take_operand-clause-none : goal.returns-in_default-take_operand-clause-none
returns-in_default-take_operand-clause-none c = λ l p.
    no_operand c.args.registers.qubits c.args.name c.args.bytes.now c.in-Some.kind c.in-Some.after_angle.now (back_line l) c.in-Some.ensures.some c.in_default-take_operand.ensures.none
    (parts_there c.args.registers.qubits c.args.registers.cbits c.args.registers.spare c.args.name c.args.bytes.now l c.requires.no_measurement p)

pub returns-then-ne-clause-none : goal.returns-then-ne-clause-none
returns-then-ne-clause-none c = λ l p.
    let found = only_gate c.args.registers.qubits c.args.name c.args.bytes.now c.in-Some.kind c.in-Some-take_operand.a c.take_next-b.result.0 c.take_next-c.result.0 c.take_next-c.result.1.now (back_line l) (omega arith)
    (was_read c.in-Some.ensures.some c.in-Some-take_operand.ensures.some c.take_next-b.ensures.joined c.take_next-b.ensures.one c.take_next-b.ensures.only c.take_next-b.ensures.nothing
    c.take_next-c.ensures.joined c.take_next-c.ensures.one c.take_next-c.ensures.only c.take_next-c.ensures.nothing)
    (parts_there c.args.registers.qubits c.args.registers.cbits c.args.registers.spare c.args.name c.args.bytes.now l c.requires.no_measurement p) in
    not_alike c.take_next-c.result.1.now c.as_slice.result.now (codes ";\n") c.ne.result c.ne.ensures c.if-ne.true c.as_slice.ensures found.end_is

pub returns-then-well_formed-clause-some : goal.returns-then-well_formed-clause-some
returns-then-well_formed-clause-some c =
    gate_read c.args.registers.qubits c.args.registers.cbits c.args.registers.spare c.args.name c.args.bytes.now c.in-Some.kind c.in-Some-take_operand.a c.take_next-b.result.0 c.take_next-c.result.0
    c.take_next-c.result.1.now c.line_of.result (omega arith)
    (was_read c.in-Some.ensures.some c.in-Some-take_operand.ensures.some c.take_next-b.ensures.joined c.take_next-b.ensures.one c.take_next-b.ensures.only c.take_next-b.ensures.nothing
    c.take_next-c.ensures.joined c.take_next-c.ensures.one c.take_next-c.ensures.only c.take_next-c.ensures.nothing)
    (not_differ c.take_next-c.result.1.now c.as_slice.result.now (codes ";\n") c.ne.result c.ne.ensures c.if-ne.false c.as_slice.ensures)
    (c.well_formed-2.ensures.0 c.if-well_formed.true) c.line_of.ensures.gate (c.line_of.ensures.formed c.args.registers.spare) c.line_of.ensures.text

pub returns-else-well_formed-clause-none : goal.returns-else-well_formed-clause-none
returns-else-well_formed-clause-none c = λ l p.
    let found = only_gate c.args.registers.qubits c.args.name c.args.bytes.now c.in-Some.kind c.in-Some-take_operand.a c.take_next-b.result.0 c.take_next-c.result.0 c.take_next-c.result.1.now (back_line l) (omega arith)
    (was_read c.in-Some.ensures.some c.in-Some-take_operand.ensures.some c.take_next-b.ensures.joined c.take_next-b.ensures.one c.take_next-b.ensures.only c.take_next-b.ensures.nothing
    c.take_next-c.ensures.joined c.take_next-c.ensures.one c.take_next-c.ensures.only c.take_next-c.ensures.nothing)
    (parts_there c.args.registers.qubits c.args.registers.cbits c.args.registers.spare c.args.name c.args.bytes.now l c.requires.no_measurement p) in
    let formed = subst IsWellFormed (sym found.gate_is) (parts_there c.args.registers.qubits c.args.registers.cbits c.args.registers.spare c.args.name c.args.bytes.now l c.requires.no_measurement p).formed in
    true≢false (sym (c.well_formed-2.ensures.1 formed) ∙ c.if-well_formed.false)
