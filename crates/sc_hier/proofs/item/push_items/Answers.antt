use Rattle.std.proofs.Common.{◌≤◌, ap, length, sym, arith}
use Rattle.sc_deck.specs.Hierarchical.{item_line}
use Rattle.sc_hier.proofs.GatherLemmas.{gathers_step, gathers_fault, gathers_done, prefix_all}
use Rattle.sc_hier.proofs.item.push_items.Goals as goal

pub returns-in_err-push_item-clause-prefix : goal.returns-in_err-push_item-clause-prefix
returns-in_err-push_item-clause-prefix g c =
    gathers_fault item_line c.args.items.now c.loop-item.item-index _ _ c.loop-item-test.true (ap item_line (sym c.item-item.is))
    c.loop-item.invariant.gathered c.push_item.ensures.prefix

pub loop-item-preserved : goal.loop-item-preserved
loop-item-preserved g c = record {
  open_still = c.in_ok-push_item.ensures.«open»;
  later = omega (arith, c.loop-item.invariant.later, c.in_ok-push_item.ensures.cause.later);
  gathered = gathers_step item_line c.args.items.now c.loop-item.item-index _ _ c.loop-item-test.true (ap item_line (sym c.item-item.is))
      c.loop-item.invariant.gathered c.in_ok-push_item.ensures.gathered;
}

pub returns-clause-gathered : goal.returns-clause-gathered
returns-clause-gathered g c =
    let over : length c.args.items.now ≤ c.loop-item.item-index = omega arith in
    gathers_done item_line c.args.items.now c.loop-item.item-index over c.loop-item.invariant.gathered

pub returns-clause-prefix : goal.returns-clause-prefix
returns-clause-prefix g c = prefix_all (returns-clause-gathered g c)
