use Rattle.std.proofs.Common.{◌≡◌, ℕ, suc, ◌+◌, ◌-◌, ◌*◌, ◌/◌, ◌%◌, ◌<◌, ◌≤◌, false, length, subst, arith, rules}
use Rattle.sc_sched.specs.NumberTree.{node}
use Rattle.sc_sched.proofs.NumberTrees.{half, half_height, IsNear, near_start, near_inside, near_right, near_up, near_down, set_right, near_end}
use Rattle.sc_sched.proofs.numbers.first_leaf.Goals as goal

pub loop-j-init : goal.loop-j-init
loop-j-init c = near_start c.args.tree.now c.requires.closed c.args.leaf c.requires.leaf.0 c.requires.leaf.1

pub bounds-tree-j : goal.bounds-tree-j
bounds-tree-j c = near_inside c.args.tree.now c.requires.closed c.args.leaf c.loop-j.j c.loop-j.height c.loop-j.invariant

pub overflow_add-j : goal.overflow_add-j
overflow_add-j c = let b : c.loop-j.j < length c.args.tree.now = near_inside c.args.tree.now c.requires.closed c.args.leaf c.loop-j.j c.loop-j.height c.loop-j.invariant in search rules

pub overflow_add-height : goal.overflow_add-height
overflow_add-height c =
    let h : half c.loop-j.height (length c.args.tree.now - 1) + c.loop-j.height ≤ length c.args.tree.now - 1 = half_height c.loop-j.height (length c.args.tree.now - 1) (omega (arith, c.loop-j.invariant.pos, c.loop-j.invariant.reach)) in
    let b : c.loop-j.height < length c.args.tree.now = omega (arith, h, c.requires.leaf.1) in
    search rules

pub loop-j-smaller-then-j-eq0 : goal.loop-j-smaller-then-j-eq0
loop-j-smaller-then-j-eq0 c =
    let h : half c.loop-j.height (length c.args.tree.now - 1) + c.loop-j.height ≤ length c.args.tree.now - 1 = half_height c.loop-j.height (length c.args.tree.now - 1) (omega (arith, c.loop-j.invariant.pos, c.loop-j.invariant.reach)) in
    let b : c.loop-j.height < length c.args.tree.now = omega (arith, h, c.requires.leaf.1) in
    let r : 2 * (length c.args.tree.now - (c.loop-j.height + 1)) - (c.loop-j.j + 1) / 2 % 2 < 2 * (length c.args.tree.now - c.loop-j.height) - c.loop-j.j % 2 = omega (arith, b, c.if-j-eq0.true) in
    r

pub loop-j-preserved-then-j-eq0 : goal.loop-j-preserved-then-j-eq0
loop-j-preserved-then-j-eq0 c =
    let e : suc c.loop-j.height ≡ c.loop-j.height + 1 = omega arith in
    subst (λ (m : ℕ). IsNear c.args.tree.now c.args.leaf ((c.loop-j.j + 1) / 2) m) e (near_up c.args.tree.now c.args.leaf (c.loop-j.j + 1) c.loop-j.height (near_right c.args.tree.now c.requires.closed c.args.leaf c.loop-j.j c.loop-j.height c.loop-j.invariant c.loop-j-test.true) c.if-j-eq0.true)

pub loop-j-smaller : goal.loop-j-smaller
loop-j-smaller c =
    let h : half c.loop-j.height (length c.args.tree.now - 1) + c.loop-j.height ≤ length c.args.tree.now - 1 = half_height c.loop-j.height (length c.args.tree.now - 1) (omega (arith, c.loop-j.invariant.pos, c.loop-j.invariant.reach)) in
    let b : c.loop-j.height < length c.args.tree.now = omega (arith, h, c.requires.leaf.1) in
    let r : 2 * (length c.args.tree.now - c.loop-j.height) - (c.loop-j.j + 1) % 2 < 2 * (length c.args.tree.now - c.loop-j.height) - c.loop-j.j % 2 = omega (arith, b, c.if-j-eq0.false) in
    r

pub loop-j-preserved : goal.loop-j-preserved
loop-j-preserved c = near_right c.args.tree.now c.requires.closed c.args.leaf c.loop-j.j c.loop-j.height c.loop-j.invariant c.loop-j-test.true

pub bounds-tree-j-in-loop-height : goal.bounds-tree-j-in-loop-height
bounds-tree-j-in-loop-height c =
    let e : c.loop-height.height ≡ suc (c.loop-height.height - 1) = omega (arith, c.loop-height-test.true) in
    let n : IsNear c.args.tree.now c.args.leaf c.loop-height.j (suc (c.loop-height.height - 1)) = subst (λ (m : ℕ). IsNear c.args.tree.now c.args.leaf c.loop-height.j m) e c.loop-height.invariant.near in
    omega (arith, near_inside c.args.tree.now c.requires.closed c.args.leaf (2 * c.loop-height.j) (c.loop-height.height - 1) (near_down c.args.tree.now c.args.leaf c.loop-height.j (c.loop-height.height - 1) n))

pub loop-height-preserved-then-not-tree-j : goal.loop-height-preserved-then-not-tree-j
loop-height-preserved-then-not-tree-j c =
    let e : c.loop-height.height ≡ suc (c.loop-height.height - 1) = omega (arith, c.loop-height-test.true) in
    let n : IsNear c.args.tree.now c.args.leaf c.loop-height.j (suc (c.loop-height.height - 1)) = subst (λ (m : ℕ). IsNear c.args.tree.now c.args.leaf c.loop-height.j m) e c.loop-height.invariant.near in
    let d : 2 * c.loop-height.j ≡ c.loop-height.j * 2 = omega arith in
    let f : node c.args.tree.now (2 * c.loop-height.j) ≡ false = rw d c.if-not-tree-j.true in
    record {
      near = rw (← d) (near_right c.args.tree.now c.requires.closed c.args.leaf (2 * c.loop-height.j) (c.loop-height.height - 1) (near_down c.args.tree.now c.args.leaf c.loop-height.j (c.loop-height.height - 1) n) f);
      set = rw (← d) (set_right c.args.tree.now c.requires.closed c.args.leaf c.loop-height.j (c.loop-height.height - 1) n c.loop-height.invariant.set f);
    }

pub loop-height-preserved : goal.loop-height-preserved
loop-height-preserved c =
    let e : c.loop-height.height ≡ suc (c.loop-height.height - 1) = omega (arith, c.loop-height-test.true) in
    let n : IsNear c.args.tree.now c.args.leaf c.loop-height.j (suc (c.loop-height.height - 1)) = subst (λ (m : ℕ). IsNear c.args.tree.now c.args.leaf c.loop-height.j m) e c.loop-height.invariant.near in
    let d : 2 * c.loop-height.j ≡ c.loop-height.j * 2 = omega arith in
    record {
      near = rw (← d) (near_down c.args.tree.now c.args.leaf c.loop-height.j (c.loop-height.height - 1) n);
      set = c.if-not-tree-j.false;
    }

pub returns-clause-inside : goal.returns-clause-inside
returns-clause-inside c =
    let e : c.loop-height.height ≡ 0 = omega (arith, c.loop-height-test.false) in
    let n : IsNear c.args.tree.now c.args.leaf c.loop-height.j 0 = subst (λ (m : ℕ). IsNear c.args.tree.now c.args.leaf c.loop-height.j m) e c.loop-height.invariant.near in
    ((near_end c.args.tree.now c.args.leaf c.loop-height.j n).0, near_inside c.args.tree.now c.requires.closed c.args.leaf c.loop-height.j 0 n)

pub returns-clause-first : goal.returns-clause-first
returns-clause-first c =
    let e : c.loop-height.height ≡ 0 = omega (arith, c.loop-height-test.false) in
    let n : IsNear c.args.tree.now c.args.leaf c.loop-height.j 0 = subst (λ (m : ℕ). IsNear c.args.tree.now c.args.leaf c.loop-height.j m) e c.loop-height.invariant.near in
    let b : c.loop-height.j < length c.args.tree.now = near_inside c.args.tree.now c.requires.closed c.args.leaf c.loop-height.j 0 n in
    λ k l i. (near_end c.args.tree.now c.args.leaf c.loop-height.j n).1 k l (omega (arith, i, b)) i
