use Rattle.std.proofs.Common.{refl}
use Rattle.sc_deck.specs.declared.item.Item.TheVariants as item
use Rattle.sc_deck.proofs.JoinLemmas.{counts_folded}
use Rattle.sc_deck.proofs.body.Body.fold_gate.Goals as goal

pub invariant_of-self-2 : goal.invariant_of-self-2
invariant_of-self-2 c =
    counts_folded _ _ (item.Gate c.args.gate) _ _ c.self.invariant c.self.view_is c.in_ok-fold_gate.ensures.ok (record { well_formed = c.requires.well_formed; there = c.requires.there }) (λ n. refl) c.in_ok-fold_gate.ensures.range
