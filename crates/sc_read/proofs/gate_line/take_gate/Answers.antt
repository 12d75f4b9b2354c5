use Rattle.std.proofs.Common.{arith, true≢false, sym, ◌∙◌}
use Rattle.sc_read.proofs.GateParts.{wires_read, no_gate-kind, no_gate-feed, no_gate-formed, gate_read}
use Rattle.sc_read.proofs.gate_line.take_gate.Goals as goal

pub returns-in_default-take_kind-clause-none : goal.returns-in_default-take_kind-clause-none
returns-in_default-take_kind-clause-none c = no_gate-kind c.args.qubits c.args.cbits _ _ _ _ _ _ (omega arith) (omega arith)
    (wires_read c.in-Some.name c.in-Some.ensures.some c.in-Some-take_wire.ensures.some c.take_more_wires-b.ensures.front c.take_more_wires-b.ensures.only) c.in_default-take_kind.ensures.none

pub returns-in_default-take_text-clause-none : goal.returns-in_default-take_text-clause-none
returns-in_default-take_text-clause-none c =
    no_gate-feed c.args.qubits c.args.cbits _ _ _ _ _ _ c.in-Some-take_kind.kind c.in-Some-take_kind.after_kind.now (omega arith) (omega arith)
    (wires_read c.in-Some.name c.in-Some.ensures.some c.in-Some-take_wire.ensures.some c.take_more_wires-b.ensures.front c.take_more_wires-b.ensures.only) c.in-Some-take_kind.ensures.some c.in_default-take_text.ensures.none

pub returns-then-well_formed-clause-some : goal.returns-then-well_formed-clause-some
returns-then-well_formed-clause-some c =
    gate_read c.args.qubits c.args.cbits _ _ _ _ _ _ c.in-Some-take_kind.kind c.in-Some-take_kind.after_kind.now c.in-Some-take_text.rest.now (omega arith) (omega arith)
    (wires_read c.in-Some.name c.in-Some.ensures.some c.in-Some-take_wire.ensures.some c.take_more_wires-b.ensures.front c.take_more_wires-b.ensures.only) c.in-Some-take_kind.ensures.some c.in-Some-take_text.ensures.some
    (c.well_formed-2.ensures.0 c.if-well_formed.true)

pub returns-else-well_formed-clause-none : goal.returns-else-well_formed-clause-none
returns-else-well_formed-clause-none c =
    no_gate-formed c.args.qubits c.args.cbits _ _ _ _ _ _ c.in-Some-take_kind.kind c.in-Some-take_kind.after_kind.now (omega arith) (omega arith)
    (wires_read c.in-Some.name c.in-Some.ensures.some c.in-Some-take_wire.ensures.some c.take_more_wires-b.ensures.front c.take_more_wires-b.ensures.only) c.in-Some-take_kind.ensures.some
    (λ formed. true≢false (sym (c.well_formed-2.ensures.1 formed) ∙ c.if-well_formed.false))
