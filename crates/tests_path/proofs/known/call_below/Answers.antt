use Rattle.std.proofs.Common.{◌<◌, [], ◌∷◌, rules, subst}
use Rattle.std.specs.Prelude.{IsTrue}
use Rattle.std.specs.List.{AllByRecursion}
use Rattle.sc_deck.specs.declared.item.Item.{Item}
use Rattle.sc_deck.specs.Items.{callees_of}
use Rattle.tests_path.proofs.Walked.{callees_more}
use Rattle.tests_path.proofs.known.call_below.Goals as goal

pub loop-item-preserved : goal.loop-item-preserved
loop-item-preserved c =
    let below : IsTrue c.calls_below.result = search rules in
    callees_more (λ j. j < c.args.n) c.args.items.now c.loop-item.item-index c.item-item.result c.loop-item-test.true c.loop-item.invariant
    (subst (λ (i : Item). AllByRecursion (λ j. j < c.args.n) (callees_of (i ∷ []))) c.item-item.is (c.calls_below.ensures below))
