use Rattle.std.proofs.Common.{◌≡◌, length, take}
use Rattle.sc_cancel.specs.Cancelling.{marks_after}
use Rattle.sc_cancel.specs.Keeping.{IsKept}
use Rattle.sc_cancel.proofs.shortening.cancel.Given as goal

abbrev pub invariant-loop-gate : goal.invariant-loop-gate
invariant-loop-gate l = record {
  many : length l.kept.links.items ≡ l.gate-index;
  kept : IsKept l.kept (marks_after (take l.gate-index l.gates));
}
