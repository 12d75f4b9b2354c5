use Rattle.std.proofs.Common.{◌<◌, sym, ◌∙◌, length, below_more, arith}
use Rattle.sc_gate.specs.WireTables.{number_at}
use Rattle.sc_check.proofs.Lowest.{lowest_found, lowest_none_at}
use Rattle.sc_check.proofs.TooEarly.{early_found, last_next, last_inside}
use Rattle.sc_check.proofs.early.first_early.Goals as goal

pub is_early-requires : goal.is_early-requires
is_early-requires c = λ w p e.
    let inside : p < length c.args.gates.now = last_inside c.args.gates.now w c.loop-x.x p (number_at c.loop-x.last w) (c.loop-x.invariant.last w) (omega arith) e in
    omega arith

pub returns-then-is_early : goal.returns-then-is_early
returns-then-is_early c =
    sym (lowest_found _ _ c.loop-x.x c.loop-x-test.true c.loop-x.invariant.in_order
    (sym (early_found c.args.gates.now c.args.places.now c.loop-x.x _ (number_at c.loop-x.last) _ _ c.loop-x-test.true c.loop-x.invariant.last c.loop-x.invariant.in_order c.step_of.ensures c.is_early.ensures) ∙ c.if-is_early.true))

pub loop-x-preserved : goal.loop-x-preserved
loop-x-preserved c = record {
  last = λ w. last_next c.args.gates.now c.loop-x.x _ w _ _ c.loop-x-test.true (c.in_ok-put_gate.ensures w) (c.loop-x.invariant.last w);
  in_order = below_more _ _ c.loop-x.invariant.in_order
      (sym (early_found c.args.gates.now c.args.places.now c.loop-x.x _ (number_at c.loop-x.last) _ _ c.loop-x-test.true c.loop-x.invariant.last c.loop-x.invariant.in_order c.step_of.ensures c.is_early.ensures) ∙ c.if-is_early.false);
}

pub returns : goal.returns
returns c = sym (lowest_none_at _ (length c.args.gates.now) c.loop-x.x (omega arith) c.loop-x.invariant.in_order)
