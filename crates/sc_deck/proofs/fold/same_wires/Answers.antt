use Rattle.std.proofs.Common.{sym, refl, arith, true≢false}
use Rattle.sc_deck.proofs.JoinLemmas.{same_more, same_end, same_at}
use Rattle.sc_deck.proofs.fold.same_wires.Goals as goal

pub returns-then-not-is_same : goal.returns-then-not-is_same
returns-then-not-is_same c = (
  (λ t. absurd (true≢false (sym t))),
  (λ e. c.if-not-is_same.ensures.1 (same_at c.args.wires.now c.args.others.now c.loop-i.i _ _ c.loop-i-test.true e)),
)

pub loop-i-preserved : goal.loop-i-preserved
loop-i-preserved c = same_more c.args.wires.now c.args.others.now c.loop-i.i _ _ (omega arith) c.loop-i-test.true c.loop-i.invariant (c.if-not-is_same.ensures.0 refl)

pub returns : goal.returns
returns c = ((λ _. same_end c.args.wires.now c.args.others.now c.loop-i.i (omega arith) (omega arith) c.loop-i.invariant), (λ _. refl))
