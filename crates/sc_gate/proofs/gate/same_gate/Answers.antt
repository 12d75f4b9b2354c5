-- Gates of one kind and of the same operands are equal.
use Rattle.sc_gate.proofs.SameGates.{equal_parts, other_kinds}
use Rattle.sc_gate.proofs.gate.same_gate.Goals as goal

pub returns-then-same_kind : goal.returns-then-same_kind
returns-then-same_kind c = equal_parts c.args.a.now c.args.b.now (c.same_kind.ensures.0 c.if-same_kind.true) c.same_operands.ensures

pub returns-else-same_kind : goal.returns-else-same_kind
returns-else-same_kind c = other_kinds c.args.a.now c.args.b.now c.same_kind.ensures c.if-same_kind.false
