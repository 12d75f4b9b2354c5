use Rattle.std.proofs.Common.{◌≡◌, ◌++◌, map, take}
use Rattle.sc_deck.specs.Unfolding.{of_class}
use Rattle.sc_path.specs.Places.{row_number}
use Rattle.sc_path.proofs.body.push_class.Given as goal

abbrev pub invariant-loop-wire : goal.invariant-loop-wire
invariant-loop-wire l = l.out.items ≡ l.initial.out.items ++ map (row_number l.qubits) (of_class l.class (take l.wire-index l.wires))
