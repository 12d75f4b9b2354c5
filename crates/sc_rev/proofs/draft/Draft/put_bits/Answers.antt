use Rattle.std.proofs.Common.{◌∙◌}
use Rattle.sc_rev.proofs.Emitting.{bits_more, bits_done}
use Rattle.sc_rev.proofs.draft.Draft.put_bits.Goals as goal

pub loop-i-preserved : goal.loop-i-preserved
loop-i-preserved c = record {
  gates = bits_more c.args.width c.loop-i.i c.loop-i.rest c.args.s c.loop-i.self.gates.items c.put_bit.new.self.gates.items _ c.loop-i-test.true c.in_ok-put_bit.ensures.gates c.loop-i.invariant.gates;
  next = c.in_ok-put_bit.ensures.next ∙ c.loop-i.invariant.next;
}

pub returns-clause-gates : goal.returns-clause-gates
returns-clause-gates c = bits_done c.args.width c.loop-i.i c.loop-i.rest _ _ _ c.loop-i-test.false c.loop-i.invariant.gates
