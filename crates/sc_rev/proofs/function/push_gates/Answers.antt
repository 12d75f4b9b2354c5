use Rattle.std.proofs.Common.{ap, ◌∙◌}
use Rattle.sc_deck.specs.Bodies.{Contents}
use Rattle.sc_rev.proofs.Whole.{gates_more, wires_stay}
use Rattle.sc_rev.proofs.function.push_gates.Goals as goal

pub loop-gate-preserved : goal.loop-gate-preserved
loop-gate-preserved c = record {
  items = gates_more c.args.gates.now c.loop-gate.gate-index _ c.loop-gate.body c.push_gate.new.self c.gate.result _ c.loop-gate-test.true c.gate.ensures c.in_ok-push_gate.ensures.ok c.loop-gate.invariant.items;
  params = ap (λ (b : Contents). b.params) c.in_ok-push_gate.ensures.ok ∙ c.loop-gate.invariant.params;
  wires = wires_stay c.loop-gate.body c.push_gate.new.self c.gate.result c.in_ok-push_gate.ensures.ok ∙ c.loop-gate.invariant.wires;
}
