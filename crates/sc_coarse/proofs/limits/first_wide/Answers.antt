use Rattle.std.proofs.Common.{length, arith, inl, inr}
use Rattle.std.proofs.lemmas.Bool.{cases_lt}
use Rattle.sc_coarse.proofs.WideAndLong.{few_items, body_fits, width_found, width_none, narrow_more}
use Rattle.sc_coarse.proofs.limits.first_wide.Goals as goal

pub first_wide_item-requires : goal.first_wide_item-requires
first_wide_item-requires c = few_items c.items_at.result.now (body_fits c.args.deck.now c.loop-i.i c.items_at.result.now c.items_at.ensures c.requires)

pub returns-in-Some-clause-first : goal.returns-in-Some-clause-first
returns-in-Some-clause-first c = record {
  wide = (let e = width_found c.args.deck.now c.loop-i.i c.items_at.result.now c.in-Some.x c.items_at.ensures in omega (arith, e, c.in-Some.ensures.wide));
  first_instance = c.loop-i.invariant;
  first_item = λ y l. (let e = width_found c.args.deck.now c.loop-i.i c.items_at.result.now y c.items_at.ensures in let f = c.in-Some.ensures.first y l in omega (arith, e, f));
}

pub loop-i-preserved : goal.loop-i-preserved
loop-i-preserved c = narrow_more c.args.deck.now c.loop-i.i c.items_at.result.now c.args.d c.items_at.ensures c.loop-i.invariant c.in_default.ensures.none

pub returns-clause-none : goal.returns-clause-none
returns-clause-none c = λ i x. elim (cases_lt i (length c.args.deck.now)) [
  | inl l ↦ c.loop-i.invariant i x (omega arith)
  | inr g ↦ (let e = width_none c.args.deck.now i x g in omega (arith, e))
]
