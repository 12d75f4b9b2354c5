use Rattle.std.proofs.Common.{rules, ◌≡◌, ◌==◌, ℕ, ◌<◌, ◌+◌, length, slice_index, sym, ap, ◌∙◌, refl, arith, not}
use Rattle.sc_sched.specs.Board.{layout_of, waits}
use Rattle.sc_sched.specs.Layout.{Layout}
use Rattle.sc_sched.specs.Step.{Shop}
use Rattle.sc_sched.specs.Rounds.{shop_of, stands, Fill}
use Rattle.sc_sched.proofs.Free.{fill_more, size_few, waits_fewer, index_is, not_zero}
use Rattle.sc_sched.proofs.Count.{and_right}
use Rattle.sc_sched.proofs.Freeing.{inside_more}
use Rattle.std.proofs.lemmas.List.{get_or-set_same, get_or-set_other}
use Rattle.sc_sched.proofs.round.fill_kind.Goals as goal

pub put-requires-clause-fits : goal.put-requires-clause-fits
put-requires-clause-fits c =
    let s : Shop ℕ = shop_of (layout_of c.args.board.now) c.args.room.now c.requires.some.regions in
    let f : Fill s c.requires.some.ready (waits c.loop-board.board) c.requires.some.taken (stands c.loop-board.tray.step.items) c.loop-board.tray.used.items =
    c.loop-board.invariant.fill c.requires.some.regions c.requires.some.ready c.requires.some.taken c.requires.some.fill in
    let k : c.args.kind < length c.loop-board.tray.used.items = rw (c.loop-board.invariant.used, ← c.requires.rooms) c.requires.kind in
    omega (arith, f.counted.counts c.args.kind k, c.requires.few, size_few s (stands c.loop-board.tray.step.items) c.args.kind)

pub loop-board-smaller : goal.loop-board-smaller
loop-board-smaller c =
    let e : c.loop-board.board.kind.items ≡ c.args.board.now.kind.items = ap (λ (l : Layout). l.kind) c.loop-board.invariant.layout in
    waits_fewer (waits c.loop-board.board) (waits c.take_of_kind.new.self) (length c.args.board.now.kind.items) c.in-Some.x
    (rw (← e) c.in-Some.ensures.ready.0) c.in-Some.ensures.ready.1 (λ z d. c.in-Some.ensures.rest z (rw e d))

pub loop-board-preserved : goal.loop-board-preserved
loop-board-preserved c =
    let e : c.loop-board.board.kind.items ≡ c.args.board.now.kind.items = ap (λ (l : Layout). l.kind) c.loop-board.invariant.layout in
    let p : c.loop-board.board.place.items ≡ c.args.board.now.place.items = ap (λ (l : Layout). l.place) c.loop-board.invariant.layout in
    let b : c.in-Some.x < length c.args.board.now.kind.items = rw (← e) c.in-Some.ensures.ready.0 in
    let k : c.args.kind < length c.loop-board.tray.used.items = rw (c.loop-board.invariant.used, ← c.requires.rooms) c.requires.kind in
    record {
      layout = search rules;
      used = search rules;
      others = λ j n. rw c.in_ok-put.ensures.used (get_or-set_other c.loop-board.tray.used.items c.args.kind j (slice_index c.loop-board.tray.used.items c.args.kind + 1) 0 n ∙ c.loop-board.invariant.others j n);
      more = rw (c.in_ok-put.ensures.used, get_or-set_same c.loop-board.tray.used.items c.args.kind (slice_index c.loop-board.tray.used.items c.args.kind + 1) 0 k) (omega (arith, c.loop-board.invariant.more));
      kinds = λ h. c.in_ok-put.ensures.kinds ∙ rw (not_zero (slice_index c.loop-board.tray.used.items c.args.kind) (λ z. omega (arith, z, h, c.loop-board.invariant.more))) (c.loop-board.invariant.kinds h);
      inside = λ h. inside_more c.loop-board.tray.step.items c.put.new.self.step.items c.in-Some.x (length c.args.board.now.kind.items) c.in_ok-put.ensures.step b (c.loop-board.invariant.inside h);
      fewer = λ z d h. c.loop-board.invariant.fewer z d (and_right (not (z == c.in-Some.x)) _ (sym (c.in-Some.ensures.rest z (rw e d)) ∙ h));
      fill = λ regions ready taken f. fill_more (layout_of c.args.board.now) c.args.room.now regions ready taken (waits c.loop-board.board) (waits c.take_of_kind.new.self) c.loop-board.tray.step.items c.loop-board.tray.used.items c.put.new.self.step.items c.put.new.self.used.items c.in-Some.x c.args.kind
          (c.loop-board.invariant.fill regions ready taken f) b c.in-Some.ensures.ready.1 (rw (← e) c.in-Some.ensures.ready.2) k c.requires.kind (λ z. c.loop-board-test.true (rw (index_is c.loop-board.tray.used.items c.loop-board.tray.used.items c.args.kind c.index.result.now c.index.ensures k refl) z))
          (λ z d i v n. rw (← p) (c.in-Some.ensures.first z (rw e d) (rw e i) v n)) (λ z d. c.in-Some.ensures.rest z (rw e d)) c.in_ok-put.ensures.step c.in_ok-put.ensures.used;
    }

pub returns-in_default-clause-fill : goal.returns-in_default-clause-fill
returns-in_default-clause-fill c = λ regions ready taken f. rw c.in_default.ensures.unchanged (c.loop-board.invariant.fill regions ready taken f)
