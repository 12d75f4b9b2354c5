use Rattle.std.proofs.Common.{arith}
use Rattle.sc_base.specs.declared.names.Class.TheVariants.{Q, C}
use Rattle.sc_deck.specs.declared.item.Item.TheVariants as item
use Rattle.sc_deck.proofs.BodyLemmas.{counts_more, room_left}
use Rattle.sc_deck.proofs.body.Body.push_fresh.Goals as goal

pub invariant_of-self-in-Q : goal.invariant_of-self-in-Q
invariant_of-self-in-Q c =
    counts_more _ _ (item.Fresh Q c.args.n) _ _ c.self.invariant c.self.view_is (rw c.in-Q.is at c.in_ok-push.ensures.ok) c.requires.some tt
    (omega (arith, room_left _ _ _ c.args.n c.self.invariant c.self.view_is c.requires.room))

pub invariant_of-self-in-C : goal.invariant_of-self-in-C
invariant_of-self-in-C c =
    counts_more _ _ (item.Fresh C c.args.n) _ _ c.self.invariant c.self.view_is (rw c.in-C.is at c.in_ok-push.ensures.ok) c.requires.some tt
    (omega (arith, room_left _ _ _ c.args.n c.self.invariant c.self.view_is c.requires.room))
