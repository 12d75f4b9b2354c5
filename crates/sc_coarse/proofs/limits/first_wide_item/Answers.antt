use Rattle.std.proofs.Common.{◌≡◌, ◌<◌, ◌≤◌, ℕ, List, length, get_or, below_more, arith, inl, inr}
use Rattle.std.proofs.lemmas.Bool.{cases_lt}
use Rattle.sc_deck.specs.declared.item.Item.{Item}
use Rattle.sc_coarse.specs.Refusals.{item_width, width_in}
use Rattle.sc_coarse.proofs.WideAndLong.{width_here, width_past}
use Rattle.sc_coarse.proofs.limits.first_wide_item.Goals as goal

narrow_here : (items : List Item) (x d n : ℕ) (i : Item) → x < length items → i ≡ get_or items x i → n ≡ item_width i → n ≤ d → width_in items x ≤ d
narrow_here items x d n i l is e h = omega (arith, width_here items x i l is, e, h)

pub loop-x-preserved : goal.loop-x-preserved
loop-x-preserved c = below_more _ _ c.loop-x.invariant (narrow_here c.args.items.now c.loop-x.x c.args.d c.width.result _ c.loop-x-test.true c.index-items-x.is c.width.ensures c.if-width-d.false)

pub returns-then-width-d-clause-wide : goal.returns-then-width-d-clause-wide
returns-then-width-d-clause-wide c = (let e = width_here c.args.items.now c.loop-x.x c.index-items-x.result c.loop-x-test.true c.index-items-x.is in omega (arith, e, c.width.ensures, c.if-width-d.true))

pub returns-then-width-d-clause-first : goal.returns-then-width-d-clause-first
returns-then-width-d-clause-first c = c.loop-x.invariant

pub returns-clause-none : goal.returns-clause-none
returns-clause-none c = λ y. elim (cases_lt y (length c.args.items.now)) [
  | inl l ↦ c.loop-x.invariant y (omega arith)
  | inr g ↦ (let z = width_past c.args.items.now y g in omega (arith, z))
]
