use Rattle.std.proofs.Common.{◌≡◌, ℕ, ◌<◌, List, length, ap, subst, arith}
use Rattle.sc_sched.specs.PrioritySchedules.{IsRankOrder}
use Rattle.sc_sched.specs.Laid.{rank_at, before_by}
use Rattle.sc_sched.specs.Places.{AreInverse, AreSlots}
use Rattle.sc_sched.proofs.PlaceLemmas.{IsPositionOrder, permuted, many_permuted, position_order}
use Rattle.sc_sched.proofs.Layouts.{layout_is, laid_is}
use Rattle.sc_sched.proofs.layout.lay_out.Goals as goal

-- what the parts say of the lists that they were given
inverse_of : (xs ys back : List ℕ) → ys ≡ xs → AreInverse ys back → AreInverse xs back
inverse_of xs ys back e h = subst (λ (z : List ℕ). AreInverse z back) e h

slots_of : (xs ys us vs : List ℕ) (m n : ℕ) (gate_in slot start : List ℕ) → ys ≡ xs → vs ≡ us → n ≡ m → AreSlots ys vs n gate_in slot start → AreSlots xs us m gate_in slot start
slots_of xs ys us vs m n gate_in slot start e f g h =
    subst (λ (z : List ℕ). AreSlots z us m gate_in slot start) e (subst (λ (z : List ℕ). AreSlots ys z m gate_in slot start) f (subst (λ (k : ℕ). AreSlots ys vs k gate_in slot start) g h))

pub inverse-requires-clause-few : goal.inverse-requires-clause-few
inverse-requires-clause-few g c =
    let e = many_permuted (length c.args.ranks.now) c.in_ok-gate_at.gate_at.items c.in_ok-gate_at.ensures.permutation in
    omega (arith, ap (λ (z : List ℕ). length z) c.deref.ensures.value, e, c.requires.ranks, c.requires.few)

pub inverse-requires-clause-permutation : goal.inverse-requires-clause-permutation
inverse-requires-clause-permutation g c = permuted (length c.args.ranks.now) c.in_ok-gate_at.gate_at.items c.deref.result.now c.in_ok-gate_at.ensures.permutation c.deref.ensures.value

pub fill_slots-requires-clause-few : goal.fill_slots-requires-clause-few
fill_slots-requires-clause-few g c =
    let e = many_permuted (length c.args.ranks.now) c.in_ok-gate_at.gate_at.items c.in_ok-gate_at.ensures.permutation in
    omega (arith, ap (λ (z : List ℕ). length z) c.deref-2.ensures.value, e, c.requires.ranks, c.requires.few)

pub fill_slots-requires-clause-permutation : goal.fill_slots-requires-clause-permutation
fill_slots-requires-clause-permutation g c = permuted (length c.args.ranks.now) c.in_ok-gate_at.gate_at.items c.deref-2.result.now c.in_ok-gate_at.ensures.permutation c.deref-2.ensures.value

pub fill_slots-requires-clause-many : goal.fill_slots-requires-clause-many
fill_slots-requires-clause-many g c =
    let e = many_permuted (length c.args.ranks.now) c.in_ok-gate_at.gate_at.items c.in_ok-gate_at.ensures.permutation in
    omega (arith, ap (λ (z : List ℕ). length z) c.deref-2.ensures.value, ap (λ (z : List ℕ). length z) c.deref-3.ensures.value, e, c.requires.ranks, c.in_ok-kind.ensures.many_kinds)

pub invariant_of-board : goal.invariant_of-board
invariant_of-board g c =
    let e = many_permuted (length c.args.ranks.now) c.in_ok-gate_at.gate_at.items c.in_ok-gate_at.ensures.permutation in
    let k = c.in_ok-kind.ensures in
    let inv : AreInverse c.in_ok-gate_at.gate_at.items c.in_ok-place.place.items = inverse_of c.in_ok-gate_at.gate_at.items c.deref.result.now c.in_ok-place.place.items c.deref.ensures.value c.in_ok-place.ensures in
    let s : AreSlots c.in_ok-gate_at.gate_at.items c.in_ok-kind.field-0.kind.items (length c.in_ok-kind.field-0.room.items) c.in_ok-gate_in.field-0.gate_in.items c.in_ok-gate_in.field-0.slot.items c.in_ok-gate_in.field-0.start.items =
    slots_of c.in_ok-gate_at.gate_at.items c.deref-2.result.now c.in_ok-kind.field-0.kind.items c.deref-3.result.now (length c.in_ok-kind.field-0.room.items) c.len.result c.in_ok-gate_in.field-0.gate_in.items c.in_ok-gate_in.field-0.slot.items c.in_ok-gate_in.field-0.start.items
    c.deref-2.ensures.value c.deref-3.ensures.value (omega (arith, c.len.ensures)) c.in_ok-gate_in.ensures in
    record {
      laid = layout_is c.in_ok-kind.field-0.kind.items c.in_ok-gate_at.gate_at.items c.in_ok-place.place.items c.in_ok-gate_in.field-0.gate_in.items c.in_ok-gate_in.field-0.slot.items c.in_ok-gate_in.field-0.start.items
          (length c.in_ok-kind.field-0.room.items) (omega (arith, k.many_kinds, e, c.requires.ranks)) (λ x l. k.below x (omega (arith, k.many_kinds, l))) inv s (length c.args.gates.now) (omega (arith, e, c.requires.ranks))
          c.in_ok-new.field-0 c.in_ok-new-2.field-0 c.in_ok-new.ensures c.in_ok-new-2.ensures;
    }

pub returns-clause-laid : goal.returns-clause-laid
returns-clause-laid g c =
    let e = many_permuted (length c.args.ranks.now) c.in_ok-gate_at.gate_at.items c.in_ok-gate_at.ensures.permutation in
    let lawful : IsRankOrder (g.P.Priority.comes c.args.order.now) = record {
      irreflexive = g.met.P.Priority.irreflexive c.args.order.now;
      transitive = g.met.P.Priority.transitive c.args.order.now;
      total = g.met.P.Priority.total c.args.order.now;
    } in
    let at : (x : ℕ) → x < length c.args.ranks.now → (rank_at c.args.ranks.now x).position ≡ x = λ x l. c.requires.positions x (omega (arith, l, c.requires.ranks)) in
    let o : IsPositionOrder (before_by (g.P.Priority.comes c.args.order.now) c.args.ranks.now) = position_order (g.P.Priority.comes c.args.order.now) c.args.ranks.now lawful at in
    let inv : AreInverse c.in_ok-gate_at.gate_at.items c.in_ok-place.place.items = inverse_of c.in_ok-gate_at.gate_at.items c.deref.result.now c.in_ok-place.place.items c.deref.ensures.value c.in_ok-place.ensures in
    let s : AreSlots c.in_ok-gate_at.gate_at.items c.in_ok-kind.field-0.kind.items (length c.in_ok-kind.field-0.room.items) c.in_ok-gate_in.field-0.gate_in.items c.in_ok-gate_in.field-0.slot.items c.in_ok-gate_in.field-0.start.items =
    slots_of c.in_ok-gate_at.gate_at.items c.deref-2.result.now c.in_ok-kind.field-0.kind.items c.deref-3.result.now (length c.in_ok-kind.field-0.room.items) c.len.result c.in_ok-gate_in.field-0.gate_in.items c.in_ok-gate_in.field-0.slot.items c.in_ok-gate_in.field-0.start.items
    c.deref-2.ensures.value c.deref-3.ensures.value (omega (arith, c.len.ensures)) c.in_ok-gate_in.ensures in
    laid_is c.args.gates.now c.args.d (before_by (g.P.Priority.comes c.args.order.now) c.args.ranks.now) c.in_ok-kind.field-0.kind.items c.in_ok-kind.field-0.room.items c.in_ok-gate_at.gate_at.items c.in_ok-place.place.items
    c.in_ok-gate_in.field-0.gate_in.items c.in_ok-gate_in.field-0.slot.items c.in_ok-gate_in.field-0.start.items o (omega (arith, e, c.requires.ranks)) c.in_ok-kind.ensures c.in_ok-gate_at.ensures.sorted inv s
