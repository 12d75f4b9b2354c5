use Rattle.std.proofs.Common.{arith}
use Rattle.sc_deck.proofs.CallLemmas.{ranges_more, ranges_end}
use Rattle.sc_deck.proofs.range.args_have_ranges.Goals as goal

pub loop-arg-preserved : goal.loop-arg-preserved
loop-arg-preserved c = ranges_more c.args.args.now c.loop-arg.arg-index _ c.loop-arg-test.true c.loop-arg.invariant c.arg_has_range.ensures

pub returns : goal.returns
returns c = ranges_end c.args.args.now c.loop-arg.arg-index (omega arith) c.loop-arg.invariant
