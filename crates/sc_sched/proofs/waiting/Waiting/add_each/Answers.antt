use Rattle.std.proofs.Common.{◌≡◌, length, ap, ◌∙◌}
use Rattle.sc_sched.specs.Layout.{Layout}
use Rattle.sc_sched.specs.Board.{waits}
use Rattle.sc_sched.specs.Neighbours.{is_number}
use Rattle.sc_sched.specs.Waiting.{is_ready}
use Rattle.sc_sched.proofs.Count.{or_left, or_right}
use Rattle.sc_sched.proofs.Freeing.{inside_of, three_adds}
use Rattle.sc_sched.proofs.waiting.Waiting.add_each.Goals as goal

pub add-requires-clause-inside : goal.add-requires-clause-inside
add-requires-clause-inside c = inside_of c.args.next.a (length c.args.board.now.kind.items) (λ x h. c.requires.inside x (or_left (is_number c.args.next.a x) _ h))

pub add-requires-2-clause-inside : goal.add-requires-2-clause-inside
add-requires-2-clause-inside c =
    let e : length c.add.new.board.kind.items ≡ length c.args.board.now.kind.items = ap (λ (l : Layout). length l.kind) c.add.ensures.layout in
    rw e (inside_of c.args.next.b (length c.args.board.now.kind.items) (λ x h. c.requires.inside x (or_right (is_number c.args.next.a x) _ (or_left (is_number c.args.next.b x) _ h))))

pub add-requires-3-clause-inside : goal.add-requires-3-clause-inside
add-requires-3-clause-inside c =
    let e : length c.add-2.new.board.kind.items ≡ length c.args.board.now.kind.items = ap (λ (l : Layout). length l.kind) (c.add-2.ensures.layout ∙ c.add.ensures.layout) in
    rw e (inside_of c.args.next.c (length c.args.board.now.kind.items) (λ x h. c.requires.inside x (or_right (is_number c.args.next.a x) _ (or_right (is_number c.args.next.b x) _ h))))

pub returns-clause-waits : goal.returns-clause-waits
returns-clause-waits c =
    let e : length c.add.new.board.kind.items ≡ length c.args.board.now.kind.items = ap (λ (l : Layout). length l.kind) c.add.ensures.layout in
    let f : length c.add-2.new.board.kind.items ≡ length c.args.board.now.kind.items = ap (λ (l : Layout). length l.kind) (c.add-2.ensures.layout ∙ c.add.ensures.layout) in
    λ z l. three_adds (waits c.args.board.now z) (waits c.add.new.board z) (waits c.add-2.new.board z) (waits c.add-3.new.board z) (is_number c.args.next.a z) (is_number c.args.next.b z) (is_number c.args.next.c z) (is_ready c.args.self.now z)
    (c.add.ensures.waits z l) (c.add-2.ensures.waits z (rw e l)) (c.add-3.ensures.waits z (rw f l))
