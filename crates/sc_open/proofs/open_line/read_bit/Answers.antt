use Rattle.std.proofs.Common.{codes, arith}
use Rattle.sc_open.proofs.LineParts.{differ, no_bit_there}
use Rattle.sc_open.proofs.open_line.read_bit.Goals as goal

pub returns-else-eq-2-clause-none : goal.returns-else-eq-2-clause-none
returns-else-eq-2-clause-none c =
    no_bit_there c.args.cbits c.args.spare c.args.bytes.now c.in-Some.bit c.in-Some.rest.now (omega arith)
    (differ c.args.bytes.now c.as_slice.result.now (codes "u[0];\n") c.eq.result c.eq.ensures c.if-eq.false c.as_slice.ensures)
    c.in-Some.ensures.some (differ c.in-Some.rest.now c.as_slice-2.result.now (codes ";\n") c.eq-2.result c.eq-2.ensures c.if-eq-2.false c.as_slice-2.ensures)
