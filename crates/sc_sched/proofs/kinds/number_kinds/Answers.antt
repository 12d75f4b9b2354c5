use Rattle.std.proofs.Common.{◌≡◌, ℕ, ◌+◌, Some, None, length, sym, ap, ◌∙◌, subst, arith}
use Rattle.sc_sched.specs.Numbering.{number_of, AreNumbered}
use Rattle.sc_sched.proofs.Lawful.{kind_here}
use Rattle.sc_sched.proofs.KindNumbers.{numbers_next}
use Rattle.sc_sched.proofs.kinds.number_kinds.Goals as goal

pub loop-gate-preserved : goal.loop-gate-preserved
loop-gate-preserved c =
    let r = numbers_next c.args.gates.now c.loop-gate.gate-index c.args.d c.loop-gate.kind.items c.loop-gate.room.items (number_of c.loop-gate.table) c.loop-gate.invariant.numbered c.loop-gate.invariant.table
    c.number.new.room.items c.push.new.self.items _ c.in_ok-number.field-0 (number_of c.number.new.table) (c.loop-gate.gate-index + 1) (kind_here c.args.gates.now c.loop-gate.gate-index _ c.loop-gate-test.true)
    c.in_ok-number.ensures.known c.in_ok-number.ensures.room c.in-Ok-push.ensures.items c.in_ok-number.ensures.table (omega arith) in
    record { numbered = r.0; table = r.1 }

pub returns : goal.returns
returns c =
    let e : c.loop-gate.gate-index ≡ length c.args.gates.now = omega arith in
    subst (λ (n : ℕ). AreNumbered c.args.gates.now n c.args.d c.loop-gate.kind.items c.loop-gate.room.items) e c.loop-gate.invariant.numbered

none_some : (n : ℕ) → None ≡ Some n → ⊥
none_some n h = cc

pub loop-gate-init : goal.loop-gate-init
loop-gate-init c = record {
  numbered = record {
    many_kinds = ap length c.in-Ok.ensures.items;
    below = λ x l. absurd (omega (arith, l));
    apart = λ x y l m e. absurd (omega (arith, l));
    alike = λ x y l m e. absurd (omega (arith, l));
    rooms = λ x l. absurd (omega (arith, l));
    used = λ n l. absurd (omega (arith, l, ap length c.new-room.ensures.items));
    few = omega (arith, ap length c.new-room.ensures.items);
  };
  table = record { known = λ x k l e. absurd (omega (arith, l)); only = λ k n e. absurd (none_some n (sym (c.new-table.ensures k) ∙ e)) };
}
