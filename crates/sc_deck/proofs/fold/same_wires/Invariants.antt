use Rattle.std.proofs.Common.{◌≡◌, take}
use Rattle.sc_deck.proofs.fold.same_wires.Given as goal

abbrev pub invariant-loop-i : goal.invariant-loop-i
invariant-loop-i l = take l.i l.wires ≡ take l.i l.others
