use Rattle.std.proofs.Common.{◌≡◌, take, map}
use Rattle.sc_deck.specs.Modules.{greatest_called}
use Rattle.sc_deck.specs.Entries.{height_in, reach_in}
use Rattle.sc_deck.proofs.deck.called_by_all.Given as goal

abbrev pub invariant-loop-item : goal.invariant-loop-item
invariant-loop-item l = record {
  height : l.height ≡ greatest_called (map height_in l.entries.entries) (take l.item-index l.items);
  reach : l.reach ≡ greatest_called (map reach_in l.entries.entries) (take l.item-index l.items);
}
