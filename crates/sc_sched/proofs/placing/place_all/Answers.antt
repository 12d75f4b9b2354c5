use Rattle.std.proofs.Common.{◌≡◌, ℕ, Bool, false, ◌<◌, List, ◌∷◌, ◌++◌, [], length, not, ◌&&◌, ◌||◌, true, sym, ap, ◌∙◌, subst, arith, rules, inl, inr}
use Rattle.sc_sched.specs.Layout.{Layout}
use Rattle.sc_sched.specs.Board.{layout_of, waits}
use Rattle.sc_sched.specs.Laid.{IsLaid}
use Rattle.sc_sched.specs.Legal.{Step, placed}
use Rattle.sc_sched.specs.Step.{count_below, Shop, IsShop, IsStep}
use Rattle.sc_sched.specs.Schedule.{cut}
use Rattle.sc_sched.specs.PrioritySchedules.{NoneIsWider, shop_of_gates}
use Rattle.sc_sched.specs.Rounds.{shop_of, stands}
use Rattle.sc_sched.specs.Waiting.{is_placed, is_ready}
use Rattle.std.specs.Prelude.{replicate, slice_index, vec_len, ◌==◌}
use Rattle.std.specs.List.{list_any}
use Rattle.sc_sched.specs.Cutters.{IsIdle}
use Rattle.sc_sched.specs.Neighbours.{holds, neighbours_at, AreLast, AreNext}
use Rattle.std.proofs.lemmas.Bool.{false≢true, cases_lt, eq-eqb}
use Rattle.std.proofs.lemmas.List.{get_or-replicate, length-replicate}
use Rattle.sc_sched.proofs.Shops.{free_start, opened_start}
use Rattle.sc_sched.proofs.Build.{Follows}
use Rattle.sc_sched.proofs.LaidSteps.{laid_shop}
use Rattle.sc_sched.proofs.Progress.{IsBegun, free_after, begun_none, begun_more, closed, fewer_left, step_follows, whole, placed_after, freed_after, ready_marked}
use Rattle.sc_sched.proofs.placing.place_all.Goals as goal

pub loop-steps-init : goal.loop-steps-init
loop-steps-init c =
    let rooms : c.len.result ≡ length c.args.laid.room.items = search rules in
    let kinds : c.len-2.result ≡ length c.args.laid.room.items = search rules in
    let marks : c.in_ok-waiting.waiting.placed.items ≡ replicate (length c.args.gates.now) false = c.in_ok-waiting.ensures.placed in
    let none : c.new-steps.result ≡ [] = c.new-steps.ensures in
    let unplaced : (z : ℕ) → z < length c.args.gates.now → is_placed c.in_ok-waiting.waiting z ≡ false = λ z b. rw marks (get_or-replicate (length c.args.gates.now) z false false b) in
    record {
      layout = c.free_all.ensures.layout;
      waits = λ z b. c.free_all.ensures.waits z (rw c.requires.laid.laid.many b) ∙ (ap (λ (v : Bool). v || is_ready c.in_ok-waiting.waiting z) (c.requires.waits z b)
          ∙ (ready_marked c.args.gates.now [] (is_placed c.in_ok-waiting.waiting) c.in_ok-waiting.waiting.last.items z b c.in_ok-waiting.ensures.last unplaced (λ x y l m s t. absurd (false≢true t)) ∙ ap (λ (xs : List Step). free_after c.args.gates.now xs z) (sym none)));
      last = c.in_ok-waiting.ensures.last;
      next = c.in_ok-waiting.ensures.next;
      many = rw marks (length-replicate (length c.args.gates.now) false);
      placed = λ z b. unplaced z b ∙ ap (λ (xs : List Step). placed xs z) (sym none);
      step = c.in_ok-tray.ensures.step;
      kinds = c.in_ok-tray.ensures.kinds;
      rooms = rw c.in_ok-tray.ensures.used (length-replicate {A = ℕ} c.len.result 0 ∙ rooms);
      used = λ k b. ap (λ (xs : List ℕ). slice_index xs k) c.in_ok-tray.ensures.used ∙ get_or-replicate {A = ℕ} c.len.result k 0 0 (rw (c.in_ok-tray.ensures.used, length-replicate {A = ℕ} c.len.result 0) at b);
      idle = subst (λ (n : ℕ). IsIdle n c.in_ok-cutter.cutter) kinds c.in_ok-cutter.ensures;
      begun = λ d before h wide. subst (λ (xs : List Step). IsBegun (shop_of_gates c.args.gates.now c.args.k d before) xs) (sym none) (begun_none (shop_of_gates c.args.gates.now c.args.k d before));
    }

pub take_step-requires-clause-shop : goal.take_step-requires-clause-shop
take_step-requires-clause-shop c =
    let l : Layout = layout_of c.args.laid.board in
    let h : IsShop (shop_of l c.args.laid.room.items c.args.k) = laid_shop c.args.gates.now c.args.k c.requires.laid.width c.requires.laid.before l c.args.laid.room.items c.requires.laid.laid c.requires.laid.fits in
    subst (λ (m : Layout). IsShop (shop_of m c.as_slice.result.now c.args.k)) (sym c.loop-steps.invariant.layout) (subst (λ (r : List ℕ). IsShop (shop_of l r c.args.k)) (sym c.as_slice.ensures.value) h)

pub take_step-requires-clause-free : goal.take_step-requires-clause-free
take_step-requires-clause-free c = rw c.loop-steps.invariant.step (free_start (shop_of (layout_of c.loop-steps.board) c.as_slice.result.now c.args.k) (take_step-requires-clause-shop c) (waits c.loop-steps.board) c.loop-steps.tray.used.items c.loop-steps.invariant.used)

pub returns-then-is_empty : goal.returns-then-is_empty
returns-then-is_empty c = λ d before h wide.
    let l : Layout = layout_of c.args.laid.board in
    let w : ℕ → Bool = waits c.loop-steps.board in
    let x : List ℕ = c.take_step.new.tray.step.items in
    let step : IsStep (shop_of l c.args.laid.room.items c.args.k) w (stands x) = subst (λ (r : List ℕ). IsStep (shop_of l r c.args.k) w (stands x)) c.as_slice.ensures.value (subst (λ (m : Layout). IsStep (shop_of m c.as_slice.result.now c.args.k) w (stands x)) c.loop-steps.invariant.layout c.in_ok-take_step.ensures.step) in
    let none : length c.take_step.new.tray.step.items ≡ 0 = search rules in
    whole c.args.gates.now c.args.k d before l c.args.laid.room.items h wide c.loop-steps.steps c.requires.regions (c.loop-steps.invariant.begun d before h wide) w x c.loop-steps.invariant.waits step none

module _ (c : goal.After-clear) where
  step_is : IsStep (shop_of (layout_of c.args.laid.board) c.args.laid.room.items c.args.k) (waits c.loop-steps.board) (stands c.take_step.new.tray.step.items)
  step_is =
      let x : List ℕ = c.take_step.new.tray.step.items in
      subst (λ (r : List ℕ). IsStep (shop_of (layout_of c.args.laid.board) r c.args.k) (waits c.loop-steps.board) (stands x)) c.as_slice.ensures.value
      (subst (λ (m : Layout). IsStep (shop_of m c.as_slice.result.now c.args.k) (waits c.loop-steps.board) (stands x)) c.loop-steps.invariant.layout c.in_ok-take_step.ensures.step)

  kinds_same : c.loop-steps.board.kind.items ≡ c.args.laid.board.kind.items
  kinds_same = ap (λ (m : Layout). m.kind) c.loop-steps.invariant.layout

  many_kinds : length c.loop-steps.board.kind.items ≡ length c.args.gates.now
  many_kinds = ap length kinds_same ∙ c.requires.laid.laid.many

  gates_inside : (z : ℕ) → stands c.take_step.new.tray.step.items z ≡ true → z < length c.args.gates.now
  gates_inside z t = rw many_kinds at (c.in_ok-take_step.ensures.inside (λ y u. absurd (false≢true (rw c.loop-steps.invariant.step at u))) z t)

  some_gate : 0 < length c.take_step.new.tray.step.items
  some_gate =
      let n : (vec_len c.take_step.new.tray.step == 0) ≡ false = sym c.is_empty.ensures ∙ c.if-is_empty.false in
      elim (cases_lt 0 (length c.take_step.new.tray.step.items)) [
        | inl l ↦ l
        | inr g ↦ (let z : vec_len c.take_step.new.tray.step ≡ 0 = omega (arith, g, c.take_step.new.tray.step.ok) in absurd (false≢true (sym n ∙ eq-eqb _ 0 z)))
      ]

  regions_are : c.in_ok-cut.field-0 ≡ cut (shop_of (layout_of c.args.laid.board) c.args.laid.room.items c.args.k) (stands c.take_step.new.tray.step.items)
  regions_are =
      c.in_ok-cut.ensures.cut c.args.k
      ∙ (ap (λ (r : List ℕ). cut (shop_of (layout_of c.take_step.new.board) r c.args.k) (stands c.as_slice-step.result.now)) c.as_slice-in-loop-steps.ensures.value
      ∙ (ap (λ (m : Layout). cut (shop_of m c.args.laid.room.items c.args.k) (stands c.as_slice-step.result.now)) (c.in_ok-take_step.ensures.layout ∙ c.loop-steps.invariant.layout)
      ∙ ap (λ (x : List ℕ). cut (shop_of (layout_of c.args.laid.board) c.args.laid.room.items c.args.k) (stands x)) c.as_slice-step.ensures.value))

  more_steps : c.push.new.self ≡ c.loop-steps.steps ++ c.in_ok-cut.field-0 ∷ []
  more_steps = c.in_ok-push.ensures.ok

  follows : (d : ℕ) (before : ℕ → ℕ → Bool) → IsLaid c.args.gates.now d before (layout_of c.args.laid.board) c.args.laid.room.items → NoneIsWider d c.args.gates.now → Follows (shop_of_gates c.args.gates.now c.args.k d before) c.loop-steps.steps c.in_ok-cut.field-0
  follows d before h wide =
      step_follows c.args.gates.now c.args.k d before (layout_of c.args.laid.board) c.args.laid.room.items h wide c.loop-steps.steps (waits c.loop-steps.board) c.take_step.new.tray.step.items c.in_ok-cut.field-0 c.loop-steps.invariant.waits step_is some_gate gates_inside regions_are

  begun : (d : ℕ) (before : ℕ → ℕ → Bool) → IsLaid c.args.gates.now d before (layout_of c.args.laid.board) c.args.laid.room.items → NoneIsWider d c.args.gates.now → IsBegun (shop_of_gates c.args.gates.now c.args.k d before) c.push.new.self
  begun d before h wide =
      subst (λ (xs : List Step). IsBegun (shop_of_gates c.args.gates.now c.args.k d before) xs) (sym more_steps)
      (begun_more (shop_of_gates c.args.gates.now c.args.k d before) c.loop-steps.steps c.in_ok-cut.field-0 (c.loop-steps.invariant.begun d before h wide) (follows d before h wide))

  marks : (z : ℕ) → is_placed c.place.new.self z ≡ (is_placed c.loop-steps.waiting z || stands c.take_step.new.tray.step.items z)
  marks z = c.place.ensures.placed z ∙ ap (λ (x : List ℕ). is_placed c.loop-steps.waiting z || stands x z) c.as_slice-step.ensures.value

  placed_now : (z : ℕ) → z < length c.args.gates.now → is_placed c.place.new.self z ≡ placed c.push.new.self z
  placed_now z b =
      marks z ∙ (ap (λ (v : Bool). v || stands c.take_step.new.tray.step.items z) (c.loop-steps.invariant.placed z b)
      ∙ (sym (placed_after c.args.gates.now c.args.k c.requires.laid.width c.requires.laid.before (layout_of c.args.laid.board) c.args.laid.room.items c.requires.laid.laid c.requires.laid.fits c.loop-steps.steps c.take_step.new.tray.step.items c.in_ok-cut.field-0 z b regions_are)
      ∙ ap (λ (xs : List Step). placed xs z) (sym more_steps)))

  freed_now : (z : ℕ) → z < length c.args.gates.now → waits c.free.new.board z ≡ free_after c.args.gates.now c.push.new.self z
  freed_now z b =
      let s : Shop ℕ = shop_of_gates c.args.gates.now c.args.k c.requires.laid.width c.requires.laid.before in
      let x : List ℕ = c.take_step.new.tray.step.items in
      let many : length c.take_step.new.board.kind.items ≡ length c.args.gates.now = ap (λ (m : Layout). length m.kind) c.in_ok-take_step.ensures.layout ∙ many_kinds in
      freed_after c.args.gates.now c.loop-steps.steps c.push.new.self (is_placed c.loop-steps.waiting) (is_placed c.place.new.self) c.place.new.self.last.items c.place.new.self.next.items x (waits c.take_step.new.board z) (waits c.free.new.board z) z b
      (subst (AreLast c.args.gates.now) (sym c.place.ensures.last) c.loop-steps.invariant.last) (subst (AreNext c.args.gates.now) (sym c.place.ensures.next) c.loop-steps.invariant.next)
      c.loop-steps.invariant.placed (λ y l. marks y) placed_now
      (closed s c.loop-steps.steps (c.loop-steps.invariant.begun c.requires.laid.width c.requires.laid.before c.requires.laid.laid c.requires.laid.fits))
      (closed s c.push.new.self (begun c.requires.laid.width c.requires.laid.before c.requires.laid.laid c.requires.laid.fits))
      (c.in_ok-take_step.ensures.counted.left z (rw many_kinds b) ∙ ap (λ (v : Bool). v && not (stands x z)) (c.loop-steps.invariant.waits z b))
      (c.free.ensures.waits z (rw many b) ∙ ap (λ (xs : List ℕ). waits c.take_step.new.board z || (list_any (λ p. holds (neighbours_at c.place.new.self.next.items p) z) xs && is_ready c.place.new.self z)) c.as_slice-step.ensures.value)

pub loop-steps-smaller : goal.loop-steps-smaller
loop-steps-smaller c =
    let f : Follows (shop_of_gates c.args.gates.now c.args.k c.requires.laid.width c.requires.laid.before) c.loop-steps.steps c.in_ok-cut.field-0 = follows c c.requires.laid.width c.requires.laid.before c.requires.laid.laid c.requires.laid.fits in
    subst (λ (xs : List Step). count_below (λ x. not (placed xs x)) (length c.args.gates.now) < count_below (λ x. not (placed c.loop-steps.steps x)) (length c.args.gates.now)) (sym (more_steps c))
    (fewer_left (shop_of_gates c.args.gates.now c.args.k c.requires.laid.width c.requires.laid.before) c.loop-steps.steps c.in_ok-cut.field-0 f)

pub loop-steps-preserved : goal.loop-steps-preserved
loop-steps-preserved c = record {
  layout = c.free.ensures.layout ∙ (c.in_ok-take_step.ensures.layout ∙ c.loop-steps.invariant.layout);
  waits = freed_now c;
  last = subst (AreLast c.args.gates.now) (sym c.place.ensures.last) c.loop-steps.invariant.last;
  next = subst (AreNext c.args.gates.now) (sym c.place.ensures.next) c.loop-steps.invariant.next;
  many = c.place.ensures.many ∙ c.loop-steps.invariant.many;
  placed = placed_now c;
  step = c.clear.ensures.step;
  kinds = c.clear.ensures.kinds;
  rooms = c.clear.ensures.many ∙ (c.in_ok-take_step.ensures.used ∙ c.loop-steps.invariant.rooms);
  used = c.clear.ensures.used;
  idle = subst (λ (r : List ℕ). IsIdle (length r) c.cut.new.self) c.as_slice-in-loop-steps.ensures.value c.in_ok-cut.ensures.idle;
  begun = begun c;
}

pub take_step-requires-clause-opened : goal.take_step-requires-clause-opened
take_step-requires-clause-opened c = rw c.loop-steps.invariant.kinds (opened_start c.loop-steps.tray.used.items c.loop-steps.invariant.used)

pub cut-requires-clause-gates : goal.cut-requires-clause-gates
cut-requires-clause-gates c = λ x t.
    let e : length c.take_step.new.board.kind.items ≡ length c.loop-steps.board.kind.items = ap (λ (m : Layout). length m.kind) c.in_ok-take_step.ensures.layout in
    rw e (c.in_ok-take_step.ensures.inside (λ y u. absurd (false≢true (rw c.loop-steps.invariant.step at u))) x (rw c.as_slice-step.ensures.value at t))

pub cut-requires-clause-kinds : goal.cut-requires-clause-kinds
cut-requires-clause-kinds c = λ x l.
    let k : c.take_step.new.board.kind.items ≡ c.args.laid.board.kind.items = ap (λ (m : Layout). m.kind) (c.in_ok-take_step.ensures.layout ∙ c.loop-steps.invariant.layout) in
    rw (k, c.as_slice-in-loop-steps.ensures.value) (c.requires.laid.laid.kinds x (rw (k, c.requires.laid.laid.many) at l))

pub cut-requires-clause-roomy : goal.cut-requires-clause-roomy
cut-requires-clause-roomy c = λ k l. rw c.as_slice-in-loop-steps.ensures.value (c.requires.laid.laid.roomy c.requires.laid.fits k (rw c.as_slice-in-loop-steps.ensures.value at l))

pub place-requires : goal.place-requires
place-requires c = λ x t.
    let k : length c.loop-steps.board.kind.items ≡ length c.args.gates.now = ap (λ (m : Layout). length m.kind) c.loop-steps.invariant.layout ∙ c.requires.laid.laid.many in
    rw c.loop-steps.invariant.many (rw k at (c.in_ok-take_step.ensures.inside (λ y u. absurd (false≢true (rw c.loop-steps.invariant.step at u))) x (rw c.as_slice-step.ensures.value at t)))

pub free-requires-clause-inside : goal.free-requires-clause-inside
free-requires-clause-inside c = λ p x h.
    let k : length c.take_step.new.board.kind.items ≡ length c.args.gates.now = ap (λ (m : Layout). length m.kind) (c.in_ok-take_step.ensures.layout ∙ c.loop-steps.invariant.layout) ∙ c.requires.laid.laid.many in
    rw k (c.loop-steps.invariant.next.inside p x (rw c.place.ensures.next at h))

pub free-requires-clause-step : goal.free-requires-clause-step
free-requires-clause-step c = λ x t.
    let e : length c.take_step.new.board.kind.items ≡ length c.loop-steps.board.kind.items = ap (λ (m : Layout). length m.kind) c.in_ok-take_step.ensures.layout in
    rw e (c.in_ok-take_step.ensures.inside (λ y u. absurd (false≢true (rw c.loop-steps.invariant.step at u))) x (rw c.as_slice-step.ensures.value at t))
