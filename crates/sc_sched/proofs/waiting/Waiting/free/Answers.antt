use Rattle.std.proofs.Common.{◌≡◌, ℕ, ◌<◌, List, length, ap, ◌∙◌, ◌||◌, ◌&&◌, rules}
use Rattle.std.specs.Prelude.{slice_index}
use Rattle.std.specs.List.{list_any}
use Rattle.std.proofs.lemmas.List.{take_all, get_or_default}
use Rattle.sc_sched.specs.Layout.{Layout}
use Rattle.sc_sched.specs.Board.{waits}
use Rattle.sc_sched.specs.Neighbours.{holds, unmarked, neighbours_at}
use Rattle.sc_sched.specs.Waiting.{is_ready}
use Rattle.sc_gate.specs.declared.wire_table.OperandNumbers.{OperandNumbers}
use Rattle.sc_sched.proofs.Open.{stands_at}
use Rattle.sc_sched.proofs.Freeing.{adds_more}
use Rattle.sc_sched.proofs.waiting.Waiting.free.Goals as goal

pub index-requires : goal.index-requires
index-requires c =
    let b : slice_index c.args.step.now c.loop-x.x-index < length c.args.self.now.next.items = rw c.requires.next (c.requires.step (slice_index c.args.step.now c.loop-x.x-index) (stands_at c.args.step.now c.loop-x.x-index c.loop-x-test.true)) in
    search rules

pub add_each-requires-clause-inside : goal.add_each-requires-clause-inside
add_each-requires-clause-inside c = λ x h.
    let e : length c.loop-x.board.kind.items ≡ length c.args.board.now.kind.items = ap (λ (l : Layout). length l.kind) c.loop-x.invariant.layout in
    let b : slice_index c.args.step.now c.loop-x.x-index < length c.args.self.now.next.items = rw c.requires.next (c.requires.step (slice_index c.args.step.now c.loop-x.x-index) (stands_at c.args.step.now c.loop-x.x-index c.loop-x-test.true)) in
    let n : c.unpack.result ≡ neighbours_at c.args.self.now.next.items (slice_index c.args.step.now c.loop-x.x-index) = c.unpack.ensures ∙ ap unmarked (c.index.ensures ∙ get_or_default c.args.self.now.next.items (slice_index c.args.step.now c.loop-x.x-index) _ _ b) in
    rw e (c.requires.inside (slice_index c.args.step.now c.loop-x.x-index) x (rw n at h))

pub loop-x-preserved : goal.loop-x-preserved
loop-x-preserved c =
    let e : length c.loop-x.board.kind.items ≡ length c.args.board.now.kind.items = ap (λ (l : Layout). length l.kind) c.loop-x.invariant.layout in
    let b : slice_index c.args.step.now c.loop-x.x-index < length c.args.self.now.next.items = rw c.requires.next (c.requires.step (slice_index c.args.step.now c.loop-x.x-index) (stands_at c.args.step.now c.loop-x.x-index c.loop-x-test.true)) in
    let n : c.unpack.result ≡ neighbours_at c.args.self.now.next.items (slice_index c.args.step.now c.loop-x.x-index) = c.unpack.ensures ∙ ap unmarked (c.index.ensures ∙ get_or_default c.args.self.now.next.items (slice_index c.args.step.now c.loop-x.x-index) _ _ b) in
    record {
      layout = c.add_each.ensures.layout ∙ c.loop-x.invariant.layout;
      waits = λ z l. adds_more (λ x. holds (neighbours_at c.args.self.now.next.items x) z) c.args.step.now c.loop-x.x-index (waits c.args.board.now z) (waits c.loop-x.board z) (waits c.add_each.new.board z) (is_ready c.args.self.now z) c.loop-x-test.true
          (c.loop-x.invariant.waits z l) (c.add_each.ensures.waits z (rw e l) ∙ ap (λ (m : OperandNumbers). waits c.loop-x.board z || (holds m z && is_ready c.args.self.now z)) n);
    }

pub returns-clause-waits : goal.returns-clause-waits
returns-clause-waits c = λ z l. c.loop-x.invariant.waits z l
    ∙ ap (λ (xs : List ℕ). waits c.args.board.now z || (list_any (λ x. holds (neighbours_at c.args.self.now.next.items x) z) xs && is_ready c.args.self.now z)) (take_all c.loop-x.x-index c.args.step.now c.loop-x-test.false)
