use Rattle.std.proofs.Common.{◌-◌, ◌≤◌, All}
use Rattle.sc_syntax.specs.TokenLists.{IsRead}
use Rattle.sc_syntax.proofs.Scanning.{ScansOn}
use Rattle.sc_syntax.proofs.define.scan.Given as goal

abbrev pub invariant-loop-at : goal.invariant-loop-at
invariant-loop-at l = record {
  scans_on : ScansOn l.source l.place l.from l.to l.at l.tokens;
  within : l.at ≤ l.to;
  read : All (IsRead l.source) l.tokens;
}

abbrev pub decreases-loop-at : goal.decreases-loop-at
decreases-loop-at l = l.to - l.at
