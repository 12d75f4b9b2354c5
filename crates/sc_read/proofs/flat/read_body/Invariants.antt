use Rattle.std.proofs.Common.{length}
use Rattle.sc_read.specs.GateFronts.{counts}
use Rattle.sc_read.proofs.FlatBody.{BodyRead}
use Rattle.sc_read.proofs.flat.read_body.Given as goal

abbrev pub invariant-loop-line : goal.invariant-loop-line
invariant-loop-line l = BodyRead (counts l.qubits l.cbits) l.count l.text l.gates l.left l.lines.rest.now l.lines.number

abbrev pub decreases-loop-line : goal.decreases-loop-line
decreases-loop-line l = length l.lines.rest.now
