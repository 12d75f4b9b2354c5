use Rattle.std.proofs.Common.{◌≡◌, ◌*◌, ◌≤◌, take}
use Rattle.std.specs.Prelude.{flat_map}
use Rattle.sc_deck.specs.Turns.{last_turns, folded}
use Rattle.sc_elab.specs.FunctionBodies.{chosen_items}
use Rattle.sc_elab.proofs.function.folded_body.Given as goal

abbrev pub invariant-loop-item : goal.invariant-loop-item
invariant-loop-item l = record {
  params : l.body.params ≡ l.kept.params;
  items : l.body.items ≡ folded (flat_map (chosen_items l.choice) (take l.item-index l.items));
  turns : last_turns l.body.items ≤ 64 * l.item-index;
}
