use Rattle.std.proofs.Common.{arith}
use Rattle.sc_open.proofs.LineParts.{no_arrow, no_bit, measure_there, measure_read}
use Rattle.sc_open.proofs.open_line.read_measure.Goals as goal

pub returns-in_default-take_text-clause-none : goal.returns-in_default-take_text-clause-none
returns-in_default-take_text-clause-none c = λ l p.
    no_arrow c.args.registers.qubits c.args.registers.cbits c.args.registers.spare c.args.bytes.now c.in-Some.qubit c.in-Some.after_qubit.now l (omega arith) c.in-Some.ensures.some
    c.in_default-take_text.ensures.none (measure_there c.args.registers.qubits c.args.registers.cbits c.args.registers.spare c.args.bytes.now l p)

pub returns-in-Some-read_bit-clause-some : goal.returns-in-Some-read_bit-clause-some
returns-in-Some-read_bit-clause-some c =
    measure_read c.args.registers.qubits c.args.registers.cbits c.args.registers.spare c.args.bytes.now c.in-Some.qubit c.in-Some.after_qubit.now c.in-Some-take_text.after_arrow.now
    c.in-Some-read_bit.bit (omega arith) (omega arith) c.in-Some.ensures.some c.in-Some-take_text.ensures.some c.in-Some-read_bit.ensures.some c.in-Some-read_bit.ensures.is_bit

pub returns-in-None-clause-none : goal.returns-in-None-clause-none
returns-in-None-clause-none c = λ l p.
    no_bit c.args.registers.qubits c.args.registers.cbits c.args.registers.spare c.args.bytes.now c.in-Some.qubit c.in-Some.after_qubit.now c.in-Some-take_text.after_arrow.now l (omega arith)
    c.in-Some.ensures.some c.in-Some-take_text.ensures.some c.in-None.ensures.none (measure_there c.args.registers.qubits c.args.registers.cbits c.args.registers.spare c.args.bytes.now l p)
