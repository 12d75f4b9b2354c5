use Rattle.std.proofs.Common.{◌+◌, ◌*◌, ◌<◌, ◌^◌, ◌∙◌, sym, get_or, arith}
use Rattle.sc_count.proofs.KindNumbers.{turns-all, turns-below}
use Rattle.sc_count.proofs.running.add_kinds.Goals as goal

pub overflow_mul-sums : goal.overflow_mul-sums
overflow_mul-sums c =
    let fits : get_or c.args.kinds.now c.loop-i.i 0 + c.from.result * get_or c.args.each.now c.loop-i.i 0 < 2 ^ 128 = turns-below (2 ^ 128) c.args.turns c.from.result c.args.kinds.now c.args.each.now c.loop-i.i c.from.ensures c.requires (omega arith) (c.told-each ∙ sym c.told-kinds) in
    omega arith

pub overflow_add-sums : goal.overflow_add-sums
overflow_add-sums c =
    let fits : get_or c.args.kinds.now c.loop-i.i 0 + c.from.result * get_or c.args.each.now c.loop-i.i 0 < 2 ^ 128 = turns-below (2 ^ 128) c.args.turns c.from.result c.args.kinds.now c.args.each.now c.loop-i.i c.from.ensures c.requires (omega arith) (c.told-each ∙ sym c.told-kinds) in
    omega arith

pub returns : goal.returns
returns c =
    turns-all c.args.turns c.args.kinds.now c.args.each.now c.loop-i.sums (c.told-each ∙ sym c.told-kinds) (c.loop-i.invariant.0 ∙ sym c.told-kinds)
    (λ i below. c.loop-i.invariant.1 i (omega arith))
