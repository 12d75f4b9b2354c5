-- The test tells of a wire of both.
use Rattle.sc_gate.proofs.WireLemmas.{shares_tells}
use Rattle.sc_gate.proofs.gate.depends.Goals as goal

pub returns-clause-wire : goal.returns-clause-wire
returns-clause-wire c = rw c.has_operand_of.ensures (shares_tells c.args.a.now c.args.b.now)
