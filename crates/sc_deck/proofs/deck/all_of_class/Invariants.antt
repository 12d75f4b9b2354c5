use Rattle.std.proofs.Common.{◌≡◌, take, map, replicate}
use Rattle.sc_gate.specs.Gates.{class_of}
use Rattle.sc_deck.proofs.deck.all_of_class.Given as goal

abbrev pub invariant-loop-wire : goal.invariant-loop-wire
invariant-loop-wire l = map class_of (take l.wire-index l.wires) ≡ replicate l.wire-index l.class
