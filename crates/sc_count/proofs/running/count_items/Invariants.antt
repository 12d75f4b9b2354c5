use Rattle.std.proofs.Common.{◌≡◌, take, fold}
use Rattle.sc_count.specs.Callees.{with_item, nothing_yet}
use Rattle.sc_count.specs.Limits.{IsSoundSoFar}
use Rattle.sc_count.proofs.running.count_items.Given as goal

abbrev pub invariant-loop-item : goal.invariant-loop-item
invariant-loop-item l = record {
  counted : l.running ≡ fold (with_item l.times l.callees) nothing_yet (take l.item-index l.items);
  sound : IsSoundSoFar l.running;
}
