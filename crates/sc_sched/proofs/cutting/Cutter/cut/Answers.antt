use Rattle.std.proofs.Common.{◌≡◌, ◌++◌, ℕ, List, length, slice_index, sym, ap, ◌∙◌}
use Rattle.std.proofs.lemmas.List.Sorted.{IsNonDecreasingBy-from_sort}
use Rattle.sc_sched.specs.Rounds.{stands}
use Rattle.sc_sched.specs.Board.{layout_of}
use Rattle.sc_sched.specs.Groups.{IsGrouped}
use Rattle.sc_sched.proofs.Free.{fun_same}
use Rattle.sc_sched.proofs.Grouping.{cut_is, stands_moved}
use Rattle.sc_sched.proofs.cutting.Cutter.cut.Goals as goal

pub gather-requires-clause-ascending : goal.gather-requires-clause-ascending
gather-requires-clause-ascending c = rw c.as_slice.ensures.value (IsNonDecreasingBy-from_sort (λ (x : ℕ). x) c.sort_unstable.new.self.items c.sort_unstable.ensures.sorted)

pub gather-requires-clause-inside : goal.gather-requires-clause-inside
gather-requires-clause-inside c = λ x t.
    let items : c.extend_from_slice.new.self.items ≡ c.args.step.now = c.in_ok-extend_from_slice.ensures.items ∙ ap (λ (xs : List ℕ). xs ++ c.args.step.now) c.clear.ensures.items in
    let moved : stands c.as_slice.result.now x ≡ stands c.args.step.now x =
    ap (λ (xs : List ℕ). stands xs x) c.as_slice.ensures.value ∙ (stands_moved c.extend_from_slice.new.self.items c.sort_unstable.new.self.items c.sort_unstable.ensures.permutation x ∙ ap (λ (xs : List ℕ). stands xs x) items) in
    rw c.as_slice-2.ensures.value (c.requires.gates x (sym moved ∙ t))

pub returns-clause-cut : goal.returns-clause-cut
returns-clause-cut c = λ k.
    let items : c.extend_from_slice.new.self.items ≡ c.args.step.now = c.in_ok-extend_from_slice.ensures.items ∙ ap (λ (xs : List ℕ). xs ++ c.args.step.now) c.clear.ensures.items in
    let e : c.as_slice-2.result.now ≡ c.args.board.now.kind.items = c.as_slice-2.ensures.value in
    let same : stands c.as_slice.result.now ≡ stands c.args.step.now =
    fun_same _ _ (λ x. ap (λ (xs : List ℕ). stands xs x) c.as_slice.ensures.value ∙ (stands_moved c.extend_from_slice.new.self.items c.sort_unstable.new.self.items c.sort_unstable.ensures.permutation x ∙ ap (λ (xs : List ℕ). stands xs x) items)) in
    let h : IsGrouped (slice_index c.args.board.now.kind.items) (stands c.args.step.now) (length c.args.board.now.kind.items) c.gather.new.self.kinds.items c.gather.new.self.gates.items c.gather.new.self.number.items =
    rw (e, same) at c.in_ok-gather.ensures.grouped in
    c.in_ok-regions.ensures (slice_index c.args.board.now.kind.items) (stands c.args.step.now) (length c.args.board.now.kind.items) h
    ∙ cut_is (layout_of c.args.board.now) c.args.room.now k (stands c.args.step.now) c.gather.new.self.kinds.items c.gather.new.self.gates.items c.gather.new.self.number.items h
