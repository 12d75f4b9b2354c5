use Rattle.std.proofs.Common.{◌≡◌, ◌+◌, ◌-◌, ◌≤◌, ◌++◌}
use Rattle.sc_rev.specs.Cells.{wires_from}
use Rattle.sc_rev.proofs.draft.Draft.push_fresh.Given as goal

abbrev pub invariant-loop-i : goal.invariant-loop-i
invariant-loop-i l = record { word_is : l.word.items ++ wires_from (l.first + l.i) (l.n - l.i) ≡ l.initial.word.items ++ wires_from l.first l.n; within : l.i ≤ l.n }
