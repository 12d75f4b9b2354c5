use Rattle.std.proofs.Common.{◌≡◌, ◌≤◌, fold, take}
use Rattle.sc_gate.specs.Numbers.{number_of, no_wires}
use Rattle.sc_deck.specs.Keys.{with_arg}
use Rattle.sc_read.proofs.hier.params_within.Given as goal

abbrev pub invariant-loop-arg : goal.invariant-loop-arg
invariant-loop-arg l = (l.sum ≤ 65536) × (number_of l.class (fold with_arg no_wires (take l.arg-index l.args)) ≡ l.sum)
