use Rattle.std.proofs.Common.{rules, ◌≡◌, ℕ, ◌<◌, ◌≤◌, length, slice_index, sym, ap, ◌∙◌, subst, arith, inl, inr}
use Rattle.std.proofs.lemmas.Bool.{cases_eq, cases_lt}
use Rattle.sc_sched.specs.Board.{layout_of, waits}
use Rattle.sc_sched.specs.Layout.{Layout}
use Rattle.sc_sched.specs.Rounds.{shop_of, stands, Fill}
use Rattle.sc_sched.proofs.Free.{index_is}
use Rattle.sc_sched.proofs.Open.{free_ends, fill_ends, all_full, opened_same, stands_at}
use Rattle.sc_sched.proofs.round.take_step.Goals as goal

pub returns-then-free-gt0-clause-step : goal.returns-then-free-gt0-clause-step
returns-then-free-gt0-clause-step c = free_ends (shop_of (layout_of c.args.board.now) c.args.room.now c.args.regions) c.requires.shop (waits c.args.board.now) (waits c.take_free.new.board) (stands c.take_free.new.tray.step.items) c.take_free.new.tray.used.items c.in_ok-free.free c.in_ok-free.ensures.free (c.in_ok-free.ensures.ends c.if-free-gt0.true)

pub fill_kind-requires-clause-kind : goal.fill_kind-requires-clause-kind
fill_kind-requires-clause-kind c =
    let b : c.loop-at.at < length c.loop-at.tray.kinds.items = search rules in
    let b' : c.loop-at.at < length c.take_free.new.tray.kinds.items = rw c.loop-at.invariant.kinds at b in
    let k : c.index-kind.result.now ≡ slice_index c.take_free.new.tray.kinds.items c.loop-at.at = index_is c.loop-at.tray.kinds.items c.take_free.new.tray.kinds.items c.loop-at.at c.index-kind.result.now c.index-kind.ensures b' c.loop-at.invariant.kinds in
    let live : c.index-kind.result.now < length c.take_free.new.tray.used.items = (c.in_ok-free.ensures.opened.live c.index-kind.result.now (rw k (stands_at c.take_free.new.tray.kinds.items c.loop-at.at b'))).0 in
    rw (c.requires.rooms, ← c.in_ok-free.ensures.used) live

pub fill_kind-requires-clause-starts : goal.fill_kind-requires-clause-starts
fill_kind-requires-clause-starts c =
    let s : c.loop-at.board.start.items ≡ c.args.board.now.start.items = ap (λ (l : Layout). l.start) c.loop-at.invariant.layout in
    let k : c.index-kind.result.now < length c.args.room.now = fill_kind-requires-clause-kind c in
    rw s (omega (arith, k, c.requires.starts))

pub loop-at-preserved : goal.loop-at-preserved
loop-at-preserved c =
    let inv = c.loop-at.invariant in
    let kind : ℕ = c.index-kind.result.now in
    let b : c.loop-at.at < length c.loop-at.tray.kinds.items = search rules in
    let b' : c.loop-at.at < length c.take_free.new.tray.kinds.items = rw c.loop-at.invariant.kinds at b in
    let k : c.index-kind.result.now ≡ slice_index c.take_free.new.tray.kinds.items c.loop-at.at = index_is c.loop-at.tray.kinds.items c.take_free.new.tray.kinds.items c.loop-at.at c.index-kind.result.now c.index-kind.ensures b' c.loop-at.invariant.kinds in
    let live : 0 < slice_index c.take_free.new.tray.used.items c.index-kind.result.now = (c.in_ok-free.ensures.opened.live c.index-kind.result.now (rw k (stands_at c.take_free.new.tray.kinds.items c.loop-at.at b'))).1 in
    let ke : c.loop-at.board.kind.items ≡ c.args.board.now.kind.items = ap (λ (l : Layout). l.kind) c.loop-at.invariant.layout in
    let used : 0 < slice_index c.loop-at.tray.used.items c.index-kind.result.now = omega (arith, live, c.loop-at.invariant.grows c.index-kind.result.now) in
    record {
      layout = c.in_ok-fill_kind.ensures.layout ∙ c.loop-at.invariant.layout;
      used = c.in_ok-fill_kind.ensures.used ∙ c.loop-at.invariant.used;
      kinds = c.in_ok-fill_kind.ensures.kinds used ∙ c.loop-at.invariant.kinds;
      grows = λ j. elim (cases_eq j c.index-kind.result.now) [
        | inl e ↦ rw e (omega (arith, c.loop-at.invariant.grows c.index-kind.result.now, c.in_ok-fill_kind.ensures.more))
        | inr n ↦ rw (c.in_ok-fill_kind.ensures.others j n) (c.loop-at.invariant.grows j)
      ];
      rest = λ j z. elim (cases_eq j c.index-kind.result.now) [
        | inl e ↦ absurd (omega (arith, live, ap (slice_index c.take_free.new.tray.used.items) (sym e) ∙ z))
        | inr n ↦ c.in_ok-fill_kind.ensures.others j n ∙ c.loop-at.invariant.rest j z
      ];
      inside = λ h z t. rw ke at (c.in_ok-fill_kind.ensures.inside (λ y u. rw ke (c.loop-at.invariant.inside h y u)) z t);
      done = λ i l z d e w. elim (cases_eq (slice_index c.take_free.new.tray.kinds.items i) c.index-kind.result.now) [
        | inl q ↦ rw q (c.in_ok-fill_kind.ensures.full z (rw ke d) (rw ke (e ∙ q)) w)
        | inr n ↦ (let m : i < c.loop-at.at = elim (cases_lt i c.loop-at.at) [ inl y ↦ y | inr g ↦ absurd (n (ap (slice_index c.take_free.new.tray.kinds.items) (omega (arith, l, g)) ∙ sym k)) ] in
            rw (c.in_ok-fill_kind.ensures.others (slice_index c.take_free.new.tray.kinds.items i) n) (c.loop-at.invariant.done i m z d e (c.in_ok-fill_kind.ensures.fewer z (rw ke d) w)))
      ];
      fill = subst (λ (m : Layout). Fill (shop_of m c.args.room.now c.args.regions) (waits c.args.board.now) (waits c.fill_kind.new.board) (stands c.take_free.new.tray.step.items) (stands c.fill_kind.new.tray.step.items) c.fill_kind.new.tray.used.items) c.loop-at.invariant.layout
          (c.in_ok-fill_kind.ensures.fill c.args.regions (waits c.args.board.now) (stands c.take_free.new.tray.step.items)
          (subst (λ (m : Layout). Fill (shop_of m c.args.room.now c.args.regions) (waits c.args.board.now) (waits c.loop-at.board) (stands c.take_free.new.tray.step.items) (stands c.loop-at.tray.step.items) c.loop-at.tray.used.items) (sym c.loop-at.invariant.layout) c.loop-at.invariant.fill));
    }

pub returns-clause-step : goal.returns-clause-step
returns-clause-step c =
    let e : length c.loop-at.tray.used.items ≡ length c.args.room.now = c.loop-at.invariant.used ∙ sym c.requires.rooms in
    let l : length c.loop-at.tray.kinds.items ≤ c.loop-at.at = search rules in
    fill_ends (shop_of (layout_of c.args.board.now) c.args.room.now c.args.regions) (waits c.args.board.now) (waits c.loop-at.board) (stands c.take_free.new.tray.step.items) (stands c.loop-at.tray.step.items) c.loop-at.tray.used.items c.loop-at.invariant.fill
    (λ x b. rw e (c.requires.kinds x b))
    (all_full c.args.board.now.kind.items c.args.room.now c.take_free.new.tray.used.items c.loop-at.tray.used.items c.take_free.new.tray.kinds.items (waits c.loop-at.board) c.loop-at.at e (c.in_ok-free.ensures.used ∙ sym c.loop-at.invariant.used) c.in_ok-free.ensures.opened (rw c.loop-at.invariant.kinds at l) c.loop-at.invariant.rest c.requires.kinds c.loop-at.invariant.done)

pub returns-clause-opened : goal.returns-clause-opened
returns-clause-opened c = opened_same c.take_free.new.tray.kinds.items c.take_free.new.tray.used.items c.loop-at.tray.kinds.items c.loop-at.tray.used.items c.in_ok-free.ensures.opened c.loop-at.invariant.kinds (c.loop-at.invariant.used ∙ sym c.in_ok-free.ensures.used) c.loop-at.invariant.grows c.loop-at.invariant.rest
