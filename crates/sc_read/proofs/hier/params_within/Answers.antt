use Rattle.std.proofs.Common.{◌≤◌, length, arith}
use Rattle.sc_read.proofs.HierModules.{sum_more, sum_past, sum_all}
use Rattle.sc_read.proofs.hier.params_within.Goals as goal

pub loop-arg-preserved : goal.loop-arg-preserved
loop-arg-preserved c = (
  omega arith,
  sum_more c.args.class c.args.args.now c.loop-arg.arg-index _ c.loop-arg.sum c.wires_for-count.result c.loop-arg-test.true c.loop-arg.invariant.1 c.wires_for-count.ensures,
)

pub returns-then-count-sum-clause-past : goal.returns-then-count-sum-clause-past
returns-then-count-sum-clause-past c = λ past.
    sum_past c.args.class c.args.args.now c.loop-arg.arg-index _ c.loop-arg.sum c.wires_for-count.result c.loop-arg-test.true c.loop-arg.invariant.1 c.wires_for-count.ensures
    (omega (arith, c.if-count-sum.true, c.loop-arg.invariant.0))

pub returns-clause-exact : goal.returns-clause-exact
returns-clause-exact c =
    let over : length c.args.args.now ≤ c.loop-arg.arg-index = omega arith in
    λ small. sum_all c.args.class c.args.args.now c.loop-arg.arg-index c.loop-arg.sum over c.loop-arg.invariant.1
