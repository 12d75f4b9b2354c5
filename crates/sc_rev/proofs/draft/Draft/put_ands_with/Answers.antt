use Rattle.std.proofs.Common.{◌++◌, [], ◌∷◌, ap, ◌∙◌}
use Rattle.sc_rev.proofs.Emitting.{with_more, with_done}
use Rattle.sc_rev.proofs.draft.Draft.put_ands_with.Goals as goal

pub loop-i-preserved : goal.loop-i-preserved
loop-i-preserved c = record {
  gates = with_more c.args.e.now c.args.count c.loop-i.i 0 c.args.f c.args.s c.loop-i.self.gates.items c.push.new.self.gates.items _ c.loop-i-test.true c.requires.within
      (c.in_ok-push.ensures.gates ∙ ap (λ g. c.loop-i.self.gates.items ++ g ∷ []) c.and_gate.ensures) c.loop-i.invariant.gates;
  next = c.in_ok-push.ensures.next ∙ c.loop-i.invariant.next;
}

pub returns-clause-gates : goal.returns-clause-gates
returns-clause-gates c = with_done c.args.e.now c.args.count c.loop-i.i c.args.f _ _ _ c.loop-i-test.false c.requires.within c.loop-i.invariant.gates
