use Rattle.std.proofs.Common.{◌≡◌, ◌≤◌, false, take}
use Rattle.std.specs.Prelude.{flat_map}
use Rattle.sc_deck.specs.Hierarchical.{item_line}
use Rattle.sc_hier.specs.Gathering.{Gathers}
use Rattle.sc_hier.proofs.item.push_items.Given as goal

abbrev pub invariant-loop-item : goal.invariant-loop-item
invariant-loop-item g l = record {
  open_still : g.O.Sink.is_ended l.out ≡ false;
  later : g.O.Sink.faults l.fn.out ≤ g.O.Sink.faults l.out;
  gathered : Gathers g.O.Sink.tells g.O.Sink.bytes l.fn.out l.out l.fn.held l.held (flat_map item_line (take l.item-index l.items));
}
