use Rattle.std.proofs.Common.{◌≡◌, ℕ, ◌+◌, ◌*◌, ◌-◌, true, false, length, ◌∙◌, ap, rules, List, Bool}
use Rattle.std.specs.Prelude.{replicate, slice_set}
use Rattle.std.proofs.lemmas.List.{length-replicate}
use Rattle.sc_sched.specs.NumberTree.{node}
use Rattle.sc_sched.proofs.NumberTrees.{none_numbers}
use Rattle.sc_sched.proofs.numbers.NumberTree.new.Goals as goal

pub returns : goal.returns
returns c =
    let nodes : ℕ = c.in-Some-checked_mul.nodes in
    let e : c.in-Some-checked_mul.nodes ≡ (c.args.n + 1) * 2 = c.in-Some-checked_mul.ensures.1 ∙ ap (λ (v : ℕ). v * 2) c.in-Some.ensures.1 in
    let items : c.in_ok-tree.tree.items ≡ replicate c.in-Some-checked_mul.nodes false = search rules in
    let many : length c.set_leaf.new.tree.items ≡ c.in-Some-checked_mul.nodes = c.set_leaf.ensures.many ∙ (ap length items ∙ length-replicate {A = Bool} c.in-Some-checked_mul.nodes false) in
    let long : length c.in_ok-tree.tree.items ≡ c.in-Some-checked_mul.nodes = ap length items ∙ length-replicate {A = Bool} c.in-Some-checked_mul.nodes false in
    none_numbers c.args.n c.in-Some-checked_mul.nodes c.set_leaf.new.tree.items e many c.set_leaf.ensures.tree
    (λ k l. c.set_leaf.ensures.leaves k (rw long l) ∙ ap (λ (xs : List Bool). node (slice_set xs (c.in-Some-checked_mul.nodes - 1) true) k) items)
