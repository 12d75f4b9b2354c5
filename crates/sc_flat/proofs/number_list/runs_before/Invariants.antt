use Rattle.std.proofs.Common.{◌-◌, ◌<◌, ◌≤◌, length, get_or}
use Rattle.sc_flat.specs.declared.number_list.Run.{Run}
use Rattle.sc_flat.proofs.number_list.runs_before.Given as goal

abbrev pub invariant-loop-low : goal.invariant-loop-low
invariant-loop-low l = record {
  order : l.low ≤ l.high;
  within : l.high ≤ length l.runs;
  before : (d : Run) → 0 < l.low → (get_or l.runs (l.low - 1) d).start < l.length;
  after : (d : Run) → l.high < length l.runs → l.length ≤ (get_or l.runs l.high d).start;
}

abbrev pub decreases-loop-low : goal.decreases-loop-low
decreases-loop-low l = l.high - l.low
