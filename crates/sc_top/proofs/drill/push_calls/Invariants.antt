use Rattle.std.proofs.Common.{◌≡◌, ◌+◌, ◌++◌}
use Rattle.sc_top.specs.Drills.{call_line}
use Rattle.sc_top.proofs.DrillParts.{for_each}
use Rattle.sc_top.proofs.drill.push_calls.Given as goal

abbrev pub invariant-loop-i : goal.invariant-loop-i
invariant-loop-i l = l.text ++ for_each call_line l.i (l.n + 1) ≡ l.initial.text ++ for_each call_line 1 (l.n + 1)
