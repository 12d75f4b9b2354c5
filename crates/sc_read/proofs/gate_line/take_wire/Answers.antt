use Rattle.std.proofs.Common.{arith}
use Rattle.sc_read.proofs.GateParts.{wire_too_large}
use Rattle.sc_read.proofs.gate_line.take_wire.Goals as goal

pub returns-then-number-wires_of-clause-none : goal.returns-then-number-wires_of-clause-none
returns-then-number-wires_of-clause-none c =
    wire_too_large c.args.qubits c.args.cbits c.args.bytes.now c.in-Some.digits.now c.in-Some.class c.in-Some-take_number.number c.in-Some-take_number.rest.now c.wires_of.result
    (omega arith) (omega arith) c.in-Some.ensures.some c.in-Some-take_number.ensures.some c.in-Some-take_number.ensures.small c.in-Some-take_number.ensures.ends c.wires_of.ensures
    c.if-number-wires_of.true
