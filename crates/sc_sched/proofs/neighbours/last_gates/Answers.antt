use Rattle.std.proofs.Common.{◌≡◌, ◌<◌, length, sym, ◌∙◌, arith, rules}
use Rattle.sc_gate.specs.WireTables.{number_at}
use Rattle.sc_gate.specs.LastGates.{IsLastOn}
use Rattle.sc_gate.proofs.LastOn.{last_is}
use Rattle.sc_sched.proofs.NextGates.{last_more, last_pushed, get_below, held_below}
use Rattle.sc_sched.proofs.neighbours.last_gates.Goals as goal

pub pack-requires : goal.pack-requires
pack-requires c = λ z k.
    let b = held_below (number_at c.loop-x.table) _ _ _ _ (length c.args.gates.now) c.operand_numbers.ensures (λ w q e. (let r : IsLastOn c.args.gates.now w c.loop-x.x q = last_is c.args.gates.now w c.loop-x.x q (sym (c.loop-x.invariant.table w) ∙ e) in
    omega (arith, r.below, c.loop-x-test.true))) z k in
    omega (arith, b, c.requires)

pub loop-x-preserved : goal.loop-x-preserved
loop-x-preserved c = record {
  table = λ w. last_more c.args.gates.now c.loop-x.x _ w _ _ c.loop-x-test.true (c.in_ok-put_gate.ensures w) (c.loop-x.invariant.table w);
  many = search rules;
  last = last_pushed c.args.gates.now c.loop-x.x _ (number_at c.loop-x.table) c.loop-x.last.items c.push.new.self.items c.pack.result c.loop-x-test.true c.loop-x.invariant.many c.in_ok-push.ensures.items (c.pack.ensures ∙ c.operand_numbers.ensures) c.loop-x.invariant.table c.loop-x.invariant.last;
}

pub returns : goal.returns
returns c =
    let all : c.loop-x.x ≡ length c.args.gates.now = omega (arith, c.loop-x-test.false, c.loop-x.auto.x-end) in
    record {
      many = c.loop-x.invariant.many ∙ all;
      is = λ x gate e. (let b : x < length c.args.gates.now = get_below c.args.gates.now x gate e in c.loop-x.invariant.last x gate (omega (arith, b, all)) e);
    }
