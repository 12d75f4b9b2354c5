use Rattle.std.proofs.Common.{ℕ, ◌+◌, ◌≤◌, ◌∙◌, List, ap, length, sym, subst, drop}
use Rattle.sc_deck.specs.declared.item.Item.{Item}
use Rattle.sc_coarse.specs.Building.{IsBuilt}
use Rattle.sc_coarse.specs.CoarseRule.{parts_from, parts_of}
use Rattle.sc_coarse.proofs.Built.{drop_at}
use Rattle.sc_coarse.proofs.WideAndLong.{long_after, long_next, width_here}
use Rattle.sc_coarse.proofs.building.blocks_of.Goals as goal

pub add_item-requires-clause-narrow : goal.add_item-requires-clause-narrow
add_item-requires-clause-narrow g c =
    subst (λ (n : ℕ). n ≤ c.args.d) (width_here c.args.items.now c.loop-at.at c.index-items-at.result c.loop-at-test.true c.index-items-at.is) (c.requires.narrow c.loop-at.at)

pub loop-at-preserved : goal.loop-at-preserved
loop-at-preserved g c = record {
  built = c.in_ok-add_item.ensures.built (parts_of c.args.items.now) (drop (c.loop-at.at + 1) c.args.items.now)
      (subst (λ (items : List Item). IsBuilt (g.P.Priority.comes c.args.order.now) c.args.k c.args.d (parts_of c.args.items.now) c.loop-at.at items c.loop-at.building)
      (drop_at c.args.items.now c.loop-at.at c.index-items-at.result c.loop-at-test.true c.index-items-at.is) c.loop-at.invariant.built);
  can = c.in_ok-add_item.ensures.can;
  rest = ap (λ (n : ℕ). long_after n (parts_from (c.loop-at.at + 1) (drop (c.loop-at.at + 1) c.args.items.now))) c.in_ok-add_item.ensures.many
      ∙ (sym (long_next c.args.items.now c.loop-at.at (length c.loop-at.building.gates.items) c.index-items-at.result c.loop-at-test.true c.index-items-at.is c.loop-at.invariant.can.few) ∙ c.loop-at.invariant.rest);
}
