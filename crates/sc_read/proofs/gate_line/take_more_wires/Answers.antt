use Rattle.std.proofs.Common.{arith}
use Rattle.sc_read.proofs.GateParts.{only_none, only_one, only_two}
use Rattle.sc_read.proofs.gate_line.take_more_wires.Goals as goal

pub returns-in-None-clause-only : goal.returns-in-None-clause-only
returns-in-None-clause-only c = only_none c.args.qubits c.args.cbits c.args.bytes.now c.in-None.ensures.none

pub returns-in-None-take_next_wire-clause-only : goal.returns-in-None-take_next_wire-clause-only
returns-in-None-take_next_wire-clause-only c =
    only_one c.args.qubits c.args.cbits c.args.bytes.now c.in-Some.b c.in-Some.after_b.now (omega arith) (omega arith) c.in-Some.ensures.some c.in-None-take_next_wire.ensures.none

pub returns-in-Some-take_next_wire-clause-only : goal.returns-in-Some-take_next_wire-clause-only
returns-in-Some-take_next_wire-clause-only c =
    only_two c.args.qubits c.args.cbits c.args.bytes.now c.in-Some.b c.in-Some.after_b.now c.in-Some-take_next_wire.c c.in-Some-take_next_wire.after_c.now (omega arith) (omega arith)
    c.in-Some.ensures.some c.in-Some-take_next_wire.ensures.some
