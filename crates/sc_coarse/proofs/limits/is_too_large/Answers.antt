use Rattle.std.proofs.Common.{◌≤◌, length, sym, ap, ◌∙◌, arith}
use Rattle.std.proofs.lemmas.List.{take_all}
use Rattle.sc_coarse.specs.Refusals.{deck_too_large}
use Rattle.sc_coarse.proofs.WideAndLong.{large_at, none_large_more}
use Rattle.sc_coarse.proofs.limits.is_too_large.Goals as goal

pub returns-then-body_is_too_large : goal.returns-then-body_is_too_large
returns-then-body_is_too_large c = sym (large_at c.args.deck.now c.loop-i.i _ c.items_at.ensures (sym c.body_is_too_large.ensures ∙ c.if-body_is_too_large.true))

pub loop-i-preserved : goal.loop-i-preserved
loop-i-preserved c = none_large_more c.args.deck.now c.loop-i.i _ c.items_at.ensures c.loop-i.invariant (sym c.body_is_too_large.ensures ∙ c.if-body_is_too_large.false)

pub returns : goal.returns
returns c =
    let over : length c.args.deck.now ≤ c.loop-i.i = omega arith in
    sym (sym (ap deck_too_large (take_all c.loop-i.i c.args.deck.now over)) ∙ c.loop-i.invariant)
