use Rattle.std.proofs.Common.{take}
use Rattle.sc_gate.specs.Gates.{AreDistinct}
use Rattle.sc_deck.proofs.repeat.first_repeat_by_search.Given as goal

abbrev pub invariant-loop-i : goal.invariant-loop-i
invariant-loop-i l = AreDistinct (take l.i l.wires)
