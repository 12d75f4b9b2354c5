use Rattle.std.proofs.Common.{arith, ◌∙◌}
use Rattle.sc_rev.proofs.Emitting.{back_more, front_more, longer}
use Rattle.sc_rev.proofs.draft.Draft.put_back.Goals as goal

pub loop-i-preserved : goal.loop-i-preserved
loop-i-preserved c =
    let k = c.loop-i.invariant in
    let xs = c.args.self.now.gates.items in
    let a = c.loop-i.self.gates.items in
    let b = c.push.new.self.gates.items in
    let gate = c.index-gate.result.now in
    record {
      gates = back_more xs a b _ c.args.count c.loop-i.i gate gate c.loop-i-test.true c.requires k.begins c.index-gate.ensures c.in_ok-push.ensures.gates k.gates;
      begins = front_more xs a b c.args.count gate k.long k.begins c.in_ok-push.ensures.gates;
      long = longer a b c.args.count gate k.long c.in_ok-push.ensures.gates;
      within = omega arith;
      next = c.in_ok-push.ensures.next ∙ k.next;
    }
