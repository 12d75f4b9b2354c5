use Rattle.sc_deck.specs.declared.item.Item.TheVariants as item
use Rattle.sc_deck.proofs.BodyLemmas.{counts_more, counted_narrow}
use Rattle.sc_deck.proofs.body.Body.push_gate.Goals as goal

pub invariant_of-self-2 : goal.invariant_of-self-2
invariant_of-self-2 c =
    counts_more _ _ (item.Gate c.args.gate) _ _ c.self.invariant c.self.view_is c.in_ok-push.ensures.ok
    (record { well_formed = c.requires.well_formed; there = c.requires.there }) c.kind_has_range.ensures (counted_narrow _ _ c.self.invariant)
