use Rattle.std.proofs.Common.{◌≡◌, ◌+◌, ◌-◌, ◌≤◌, length, drop}
use Rattle.std.specs.List.{prefix_len}
use Rattle.sc_syntax.specs.Cuts.{in_class}
use Rattle.sc_syntax.proofs.piece.run_end.Given as goal

abbrev pub invariant-loop-end : goal.invariant-loop-end
invariant-loop-end l =
    (l.end + prefix_len (in_class l.class) (drop l.end l.text) ≡ l.from + prefix_len (in_class l.class) (drop l.from l.text)) × (l.from ≤ l.end) × (l.end ≤ length l.text)

abbrev pub decreases-loop-end : goal.decreases-loop-end
decreases-loop-end l = length l.text - l.end
