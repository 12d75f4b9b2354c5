use Rattle.std.proofs.Common.{◌≤◌, length, arith}
use Rattle.sc_coarse.proofs.WideAndLong.{walk_begins, walk_goes_on, walk_fails, walk_ends, too_many_items}
use Rattle.sc_coarse.proofs.limits.body_is_too_large.Goals as goal

pub returns-then-items-gt-MOST_POSITIONS : goal.returns-then-items-gt-MOST_POSITIONS
returns-then-items-gt-MOST_POSITIONS c = too_many_items c.args.items.now (omega arith)

pub loop-item-init : goal.loop-item-init
loop-item-init c = walk_begins c.args.items.now (omega arith)

pub loop-item-preserved : goal.loop-item-preserved
loop-item-preserved c = walk_goes_on c.args.items.now c.loop-item.item-index c.loop-item.gates _ _ c.loop-item-test.true c.item-item.is c.gates_with-gates.ensures (omega arith) c.loop-item.invariant

pub returns-then-gates-gt-MOST_GATES : goal.returns-then-gates-gt-MOST_GATES
returns-then-gates-gt-MOST_GATES c = walk_fails c.args.items.now c.loop-item.item-index c.loop-item.gates _ _ c.loop-item-test.true c.item-item.is c.gates_with-gates.ensures (omega arith) c.loop-item.invariant

pub returns : goal.returns
returns c =
    let over : length c.args.items.now ≤ c.loop-item.item-index = omega arith in
    walk_ends c.args.items.now c.loop-item.item-index c.loop-item.gates over c.loop-item.invariant
