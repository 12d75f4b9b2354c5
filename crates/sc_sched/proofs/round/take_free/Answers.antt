use Rattle.std.proofs.Common.{rules, ◌≡◌, ◌<◌, length, slice_index, ap, ◌∙◌, arith}
use Rattle.sc_sched.specs.Board.{layout_of, waits}
use Rattle.sc_sched.specs.Layout.{Layout}
use Rattle.sc_sched.specs.Step.{size}
use Rattle.sc_sched.specs.Rounds.{shop_of, stands}
use Rattle.sc_sched.proofs.Free.{take_free_more, size_few, waits_fewer, index_is}
use Rattle.sc_sched.proofs.Open.{opened_more}
use Rattle.sc_sched.proofs.Freeing.{inside_more}
use Rattle.sc_sched.proofs.round.take_free.Goals as goal

pub put-requires-clause-fits : goal.put-requires-clause-fits
put-requires-clause-fits c =
    let e : c.loop-free.board.kind.items ≡ c.args.board.now.kind.items = ap (λ (l : Layout). l.kind) c.loop-free.invariant.layout in
    let b : c.in-Some.x < length c.args.board.now.kind.items = rw (← e) c.in-Some.ensures.ready.0 in
    let r : slice_index c.args.board.now.kind.items c.in-Some.x < length c.args.room.now = c.requires.kinds c.in-Some.x b in
    let i : c.index-kind.result.now ≡ slice_index c.args.board.now.kind.items c.in-Some.x =
    index_is c.take_first.new.self.kind.items c.args.board.now.kind.items c.in-Some.x c.index-kind.result.now c.index-kind.ensures b (ap (λ (l : Layout). l.kind) (c.in-Some.ensures.layout ∙ c.loop-free.invariant.layout)) in
    let k : c.index-kind.result.now < length c.loop-free.tray.used.items = rw (i, c.loop-free.invariant.used, ← c.requires.rooms) r in
    let n : slice_index c.loop-free.tray.used.items c.index-kind.result.now ≡ size (shop_of (layout_of c.args.board.now) c.args.room.now c.args.regions) (stands c.loop-free.tray.step.items) c.index-kind.result.now =
    c.loop-free.invariant.taken.counted.counts c.index-kind.result.now k in
    omega (arith, n, c.requires.few, size_few (shop_of (layout_of c.args.board.now) c.args.room.now c.args.regions) (stands c.loop-free.tray.step.items) c.index-kind.result.now)

pub loop-free-smaller : goal.loop-free-smaller
loop-free-smaller c =
    let e : c.loop-free.board.kind.items ≡ c.args.board.now.kind.items = ap (λ (l : Layout). l.kind) c.loop-free.invariant.layout in
    waits_fewer (waits c.loop-free.board) (waits c.take_first.new.self) (length c.args.board.now.kind.items) c.in-Some.x
    (rw (← e) c.in-Some.ensures.ready.0) c.in-Some.ensures.ready.1 (λ z d. c.in-Some.ensures.rest z (rw e d))

pub loop-free-preserved : goal.loop-free-preserved
loop-free-preserved c =
    let e : c.loop-free.board.kind.items ≡ c.args.board.now.kind.items = ap (λ (l : Layout). l.kind) c.loop-free.invariant.layout in
    let p : c.loop-free.board.place.items ≡ c.args.board.now.place.items = ap (λ (l : Layout). l.place) c.loop-free.invariant.layout in
    let b : c.in-Some.x < length c.args.board.now.kind.items = rw (← e) c.in-Some.ensures.ready.0 in
    let r : slice_index c.args.board.now.kind.items c.in-Some.x < length c.args.room.now = c.requires.kinds c.in-Some.x b in
    let k : c.index-kind.result.now ≡ slice_index c.args.board.now.kind.items c.in-Some.x =
    index_is c.take_first.new.self.kind.items c.args.board.now.kind.items c.in-Some.x c.index-kind.result.now c.index-kind.ensures b (ap (λ (l : Layout). l.kind) (c.in-Some.ensures.layout ∙ c.loop-free.invariant.layout)) in
    let u : slice_index c.args.board.now.kind.items c.in-Some.x < length c.loop-free.tray.used.items = rw (c.loop-free.invariant.used, ← c.requires.rooms) r in
    record {
      layout = search rules;
      used = search rules;
      opened = opened_more c.loop-free.tray.kinds.items c.loop-free.tray.used.items c.put.new.self.kinds.items c.put.new.self.used.items (slice_index c.args.board.now.kind.items c.in-Some.x) c.loop-free.invariant.opened u (rw (← k) c.in_ok-opens.ensures.kinds) (rw (← k) c.in_ok-opens.ensures.used);
      inside = λ h. inside_more c.loop-free.tray.step.items c.put.new.self.step.items c.in-Some.x (length c.args.board.now.kind.items) c.in_ok-opens.ensures.step b (c.loop-free.invariant.inside h);
      taken = take_free_more (layout_of c.args.board.now) c.args.room.now c.args.regions c.requires.shop (waits c.args.board.now) (waits c.loop-free.board) (waits c.take_first.new.self) c.loop-free.tray.step.items c.loop-free.tray.used.items c.put.new.self.step.items c.put.new.self.used.items c.loop-free.free c.in-Some.x c.in_ok-opens.opens
          c.loop-free.invariant.taken b c.in-Some.ensures.ready.1 u r c.loop-free-test.true
          (λ z d v n. rw (← p) (c.in-Some.ensures.first z (rw e d) v n)) (λ z d. c.in-Some.ensures.rest z (rw e d)) c.in_ok-opens.ensures.step (rw (← k) c.in_ok-opens.ensures.used) (rw (← k) c.in_ok-opens.ensures.opens);
    }
