use Rattle.sc_deck.proofs.RepeatLemmas.{AreDistinct-more}
use Rattle.sc_deck.proofs.repeat.first_repeat_by_search.Goals as goal

pub loop-i-preserved : goal.loop-i-preserved
loop-i-preserved c = AreDistinct-more c.args.wires.now c.loop-i.i _ c.loop-i-test.true c.loop-i.invariant c.if-stands_in.ensures
