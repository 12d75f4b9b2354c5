use Rattle.sc_hier.proofs.LengthLemmas.{short_line}
use Rattle.sc_hier.proofs.gate_line.gate_is_short.Goals as goal

pub returns : goal.returns
returns c = short_line c.args.gate.now c.wire_is_short.ensures c.operand_is_short.ensures c.operand_is_short-2.ensures c.value_is_short.ensures
