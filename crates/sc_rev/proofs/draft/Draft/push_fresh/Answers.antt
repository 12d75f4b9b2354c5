use Rattle.std.proofs.Common.{arith}
use Rattle.sc_rev.proofs.Emitting.{fresh_more}
use Rattle.sc_rev.proofs.draft.Draft.push_fresh.Goals as goal

pub loop-i-preserved : goal.loop-i-preserved
loop-i-preserved c = record {
  word_is = fresh_more c.args.self.now.next c.loop-i.i c.args.n c.loop-i.word.items c.push.new.self.items _ c.loop-i-test.true c.in_ok-push.ensures.items c.loop-i.invariant.word_is;
  within = omega arith;
}
