use Rattle.std.proofs.Common.{length}
use Rattle.sc_read.proofs.HierItems.{OperandsRead}
use Rattle.sc_read.proofs.item_line.operands_of.Given as goal

abbrev pub invariant-loop-wire : goal.invariant-loop-wire
invariant-loop-wire l = OperandsRead l.qubits l.cbits l.fn.bytes l.rest l.wires

abbrev pub decreases-loop-wire : goal.decreases-loop-wire
decreases-loop-wire l = length l.rest
