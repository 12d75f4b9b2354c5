use Rattle.sc_deck.specs.declared.item.Item.TheVariants as item
use Rattle.sc_deck.proofs.BodyLemmas.{counts_more, counted_narrow}
use Rattle.sc_deck.proofs.body.Body.push_call.Goals as goal

pub invariant_of-self-2 : goal.invariant_of-self-2
invariant_of-self-2 c =
    counts_more _ _ (item.Call c.args.callee c.args.wires.now) _ _ c.self.invariant c.self.view_is (rw c.in_ok-operands.ensures at c.in_ok-push.ensures.ok)
    (record { distinct = c.requires.distinct; there = c.requires.there }) tt (counted_narrow _ _ c.self.invariant)
