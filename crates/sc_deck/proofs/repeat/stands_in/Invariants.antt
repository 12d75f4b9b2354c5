use Rattle.std.proofs.Common.{take}
use Rattle.sc_gate.specs.Gates.{IsNew}
use Rattle.sc_deck.proofs.repeat.stands_in.Given as goal

abbrev pub invariant-loop-other : goal.invariant-loop-other
invariant-loop-other l = IsNew l.wire (take l.other-index l.wires)
