use Rattle.std.proofs.Common.{◌∷◌, [], ◌++◌, List, sym, ap, ◌∙◌, subst, arith}
use Rattle.sc_gate.specs.declared.gate.Wire.{Wire}
use Rattle.sc_read.proofs.HierItems.{OperandsRead, operands_begin, operands_more}
use Rattle.sc_read.proofs.item_line.operands_of.Goals as goal

pub loop-wire-init : goal.loop-wire-init
loop-wire-init c =
    subst (λ (z : List Wire). OperandsRead c.args.qubits c.args.cbits c.args.bytes.now c.in-Some-take_wire.after_wire.now z)
    (sym (c.in_ok-push.ensures.ok ∙ ap (λ (z : List Wire). z ++ c.in-Some-take_wire.wire ∷ []) c.new-wires.ensures))
    (operands_begin c.args.qubits c.args.cbits c.args.bytes.now c.in-Some.after_space.now c.in-Some-take_wire.wire c.in-Some-take_wire.after_wire.now (omega arith) (omega arith)
    c.in-Some.ensures.some c.in-Some-take_wire.ensures.some)

pub loop-wire-preserved : goal.loop-wire-preserved
loop-wire-preserved c = rw c.in_ok-push-2.ensures.ok
    (operands_more c.args.qubits c.args.cbits c.args.bytes.now c.loop-wire.rest.now c.loop-wire.wires c.in-Some-take_next_wire.wire c.in-Some-take_next_wire.after_wire.now (omega arith) (omega arith)
    c.loop-wire.invariant c.in-Some-take_next_wire.ensures.some)
