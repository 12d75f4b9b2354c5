use Rattle.std.proofs.Common.{◌≡◌, ◌+◌, length}
use Rattle.sc_deck.specs.Bodies.{wires_of}
use Rattle.sc_gate.specs.Numbers.{both}
use Rattle.sc_path.specs.Fronts.{Bounded}
use Rattle.sc_path.specs.Places.{StandsAt}
use Rattle.sc_path.proofs.body.add_items.Given as goal

abbrev pub invariant-loop-at : goal.invariant-loop-at
invariant-loop-at l = record {
  rows : length l.front.rows.items ≡ both (wires_of l.body);
  lasts : length l.front.last.items ≡ both l.body.params + 1;
  bounded : Bounded l.front.rows.items (length l.front.last.items);
  stands : StandsAt l.tables l.times l.body 0 l.initial.front.rows.items l.initial.front.last.items → StandsAt l.tables l.times l.body l.at l.front.rows.items l.front.last.items;
}
