use Rattle.std.proofs.Common.{refl}
use Rattle.sc_deck.specs.declared.item.Item.TheVariants as item
use Rattle.sc_deck.proofs.JoinLemmas.{counts_folded}
use Rattle.sc_deck.proofs.body.Body.fold_call.Goals as goal

pub invariant_of-self-2 : goal.invariant_of-self-2
invariant_of-self-2 c =
    counts_folded _ _ (item.Call c.args.callee c.args.wires.now) _ _ c.self.invariant c.self.view_is c.in_ok-fold_call.ensures.ok (record { distinct = c.requires.distinct; there = c.requires.there }) (λ n. refl) c.in_ok-fold_call.ensures.range
