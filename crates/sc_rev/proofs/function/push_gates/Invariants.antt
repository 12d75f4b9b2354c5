use Rattle.std.proofs.Common.{◌≡◌, ◌++◌, drop, map}
use Rattle.sc_deck.specs.Bodies.{wires_of}
use Rattle.sc_rev.specs.BitBodies.{gate_items}
use Rattle.sc_rev.specs.Cells.{gate_of}
use Rattle.sc_rev.proofs.function.push_gates.Given as goal

abbrev pub invariant-loop-gate : goal.invariant-loop-gate
invariant-loop-gate l = record {
  items : l.body.items ++ gate_items (map gate_of (drop l.gate-index l.gates)) ≡ l.initial.body.items ++ gate_items (map gate_of l.gates);
  params : l.body.params ≡ l.initial.body.params;
  wires : wires_of l.body ≡ wires_of l.initial.body;
}
