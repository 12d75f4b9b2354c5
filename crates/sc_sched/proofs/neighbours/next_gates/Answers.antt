use Rattle.std.proofs.Common.{◌≡◌, ℕ, suc, ◌-◌, ◌<◌, length, ◌∙◌, arith}
use Rattle.std.proofs.lemmas.Option.{slice_get-get_or}
use Rattle.std.proofs.lemmas.List.{length-set}
use Rattle.sc_gate.specs.WireTables.{number_at}
use Rattle.sc_sched.proofs.NextGates.{first_more, next_more, next_done, held_below}
use Rattle.sc_sched.proofs.neighbours.next_gates.Goals as goal

pub pack-requires : goal.pack-requires
pack-requires c = λ z k.
    let b = held_below (number_at c.loop-x.table) _ _ _ _ (length c.args.gates.now) c.operand_numbers.ensures c.loop-x.invariant.first.inside z k in
    omega (arith, b, c.requires)

pub loop-x-preserved : goal.loop-x-preserved
loop-x-preserved c =
    let x : ℕ = c.loop-x.x - 1 in
    let e : c.loop-x.x ≡ suc x = omega (arith, c.loop-x-test.true) in
    let b : x < length c.args.gates.now = omega (arith, e, c.loop-x.invariant.within) in
    record {
      within = omega (arith, b);
      many = length-set c.loop-x.next.items x _ ∙ c.loop-x.invariant.many;
      first = first_more c.args.gates.now x _ (number_at c.loop-x.table) (number_at c.put_gate.new.self) b (slice_get-get_or c.args.gates.now x _ b) c.in_ok-put_gate.ensures (rw e at c.loop-x.invariant.first);
      next = next_more c.args.gates.now x _ (number_at c.loop-x.table) c.loop-x.next.items c.pack.result (slice_get-get_or c.args.gates.now x _ b) (rw c.loop-x.invariant.many b) (c.pack.ensures ∙ c.operand_numbers.ensures) (rw e at c.loop-x.invariant.first) (rw e at c.loop-x.invariant.next);
    }

pub returns : goal.returns
returns c = next_done c.args.gates.now c.loop-x.x c.loop-x.next.items c.loop-x-test.false c.loop-x.invariant.many c.loop-x.invariant.next
