use Rattle.std.proofs.Common.{take}
use Rattle.sc_deck.specs.Bodies.{wires_of}
use Rattle.sc_gate.specs.Numbers.{AreThere}
use Rattle.tests_path.proofs.bodies.has_wires.Given as goal

abbrev pub invariant-loop-wire : goal.invariant-loop-wire
invariant-loop-wire l = AreThere (wires_of l.body) (take l.wire-index l.wires)
