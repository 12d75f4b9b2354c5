use Rattle.std.proofs.Common.{◌≡◌, ℕ, ◌+◌, ◌<◌, ◌/◌, length, ◌∙◌, ap, rules, List, Bool}
use Rattle.std.specs.Prelude.{slice_set}
use Rattle.sc_sched.specs.NumberTree.{node, IsClosed, numbers}
use Rattle.sc_sched.proofs.NumberTrees.{numbers_put}
use Rattle.sc_sched.proofs.numbers.NumberTree.put.Goals as goal

pub returns : goal.returns
returns c =
    let n : c.len.result ≡ length c.self.inside.tree.items = search rules in
    let closed : IsClosed c.self.inside.tree.items = record { tree = c.self.invariant.tree; some = c.self.invariant.some; last = c.self.invariant.last } in
    let inside : c.args.i < length (numbers c.self.inside.tree.items) = rw (ap length c.self.view_is) c.requires in
    let same : c.len.result / 2 + c.args.i ≡ length c.self.inside.tree.items / 2 + c.args.i = ap (λ (v : ℕ). v / 2 + c.args.i) n in
    numbers_put c.self.inside.tree.items c.set_leaf.new.tree.items c.args.i c.args.is_in closed c.set_leaf.ensures.many inside
    (λ k l. c.set_leaf.ensures.leaves k l ∙ ap (λ (v : ℕ). node (slice_set c.self.inside.tree.items v c.args.is_in) k) same)
    ∙ ap (λ (v : List Bool). slice_set v c.args.i c.args.is_in) c.self.view_is
