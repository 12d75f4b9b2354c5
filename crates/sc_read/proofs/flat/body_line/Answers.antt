use Rattle.std.proofs.Common.{arith}
use Rattle.sc_read.specs.GateFronts.{counts}
use Rattle.sc_read.proofs.FlatBody.{gate_goes}
use Rattle.sc_read.proofs.flat.body_line.Goals as goal

pub returns-in-Some-clause-some : goal.returns-in-Some-clause-some
returns-in-Some-clause-some c = λ gates.
    gate_goes (counts c.args.qubits c.args.cbits) c.args.left gates c.args.line.now c.in-Some.gate c.in-Some.field-0-1.now (omega arith) c.requires c.in-Some.ensures.some
