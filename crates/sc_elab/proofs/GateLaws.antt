-- Gates leave the wires of a body.
use Rattle.std.proofs.Common.{◌≡◌, List, [], ◌∷◌, ◌++◌, refl, ap, ◌∙◌}
use Rattle.std.specs.Prelude.{map}
use Rattle.sc_gate.specs.declared.gate.Gate.{Gate}
use Rattle.sc_gate.specs.Numbers.{Numbers}
use Rattle.sc_deck.specs.declared.item.Item.{Item}
use Rattle.sc_deck.specs.declared.item.Item.TheVariants as item
use Rattle.sc_deck.specs.Bodies.{Contents, after_items}
use Rattle.sc_deck.specs.Items.{after_item}
use Rattle.sc_meaning.specs.declared.choice.Choice.{Choice}
use Rattle.sc_elab.specs.declared.frame.Frame.{Frame}
use Rattle.sc_elab.specs.Folding.{written, IsFolded}
use Rattle.sc_elab.specs.Frames.{view, Runs}
use Rattle.sc_meaning.specs.Instances.{chosen}
use Rattle.sc_meaning.specs.Run.{apply}
use Rattle.sc_elab.proofs.Folding.{folds_gates}
use Rattle.sc_elab.proofs.Going.{runs_gate}
use Rattle.sc_elab.proofs.PushedGates.{pushed, gates_view}

pub after_both : (numbers : Numbers) (xs ys : List Item) → after_items numbers (xs ++ ys) ≡ after_items (after_items numbers xs) ys
after_both numbers [] ys = refl
after_both numbers (x ∷ xs) ys = after_both (after_item numbers x) xs ys

pub after_gates : (numbers : Numbers) (gs : List Gate) → after_items numbers (map item.Gate gs) ≡ numbers
after_gates numbers [] = refl
after_gates numbers (g ∷ gs) = after_gates numbers gs

-- a gate that is folded in is applied
pub gate_runs : (choice : Choice) (gate : Gate) (f g : Frame) → IsFolded f.body.items → g.body ≡ record f.body { items = pushed f.body.items (chosen choice gate) } → g ≡ record f { body = g.body }
    → Runs choice (apply (view f) gate) f g
gate_runs choice gate f g is_folded body same =
    let stands : written g.body.items ≡ written f.body.items ++ map item.Gate (chosen choice gate) =
    ap (λ (b : Contents). written b.items) body ∙ (folds_gates f.body.items (chosen choice gate) is_folded).stands in
    runs_gate choice gate (view f) f g stands (gates_view f g (chosen choice gate) body same)
