use Rattle.std.proofs.Common.{◌∙◌, arith}
use Rattle.sc_rev.proofs.Emitting.{picks_more, picks_done}
use Rattle.sc_rev.proofs.draft.Draft.put_picks.Goals as goal

pub loop-i-preserved : goal.loop-i-preserved
loop-i-preserved c = record {
  gates = picks_more c.args.test c.args.f.now c.args.g.now c.loop-i.i 0 0 c.args.d c.args.s c.loop-i.self.gates.items c.put_one_pick.new.self.gates.items _ (omega arith) (omega arith) c.in_ok-put_one_pick.ensures.gates c.loop-i.invariant.gates;
  next = c.in_ok-put_one_pick.ensures.next ∙ c.loop-i.invariant.next;
  within = (omega arith, omega arith);
}

pub returns-clause-gates : goal.returns-clause-gates
returns-clause-gates c = picks_done c.args.test c.args.f.now c.args.g.now c.loop-i.i _ _ _ _ _ c.loop-i-test.false c.shorter-count.ensures.one c.loop-i.invariant.gates
