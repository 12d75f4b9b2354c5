use Rattle.sc_read.proofs.GateParts.{space_past}
use Rattle.sc_read.proofs.gate_line.cut_space.Goals as goal

pub returns-clause-none : goal.returns-clause-none
returns-clause-none c = space_past c.args.bytes.now c.loop-i.i c.loop-i-test.false c.loop-i.invariant
