use Rattle.std.proofs.Common.{◌≡◌, ◌++◌}
use Rattle.sc_deck.specs.Unfolding.{wires_from}
use Rattle.sc_elab.proofs.arguments.push_span.Given as goal

abbrev pub invariant-loop-i : goal.invariant-loop-i
invariant-loop-i l = l.wires.items ≡ l.fn.wires.items ++ wires_from l.span.class l.span.first l.i
