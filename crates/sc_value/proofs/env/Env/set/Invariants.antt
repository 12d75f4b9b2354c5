use Rattle.std.proofs.Common.{◌≡◌, ◌≤◌, ◌++◌, length, take, drop}
use Rattle.std.specs.Prelude.{reverse}
use Rattle.sc_value.specs.Scopes.{with_set}
use Rattle.sc_value.proofs.ScopeLemmas.{view}
use Rattle.sc_value.proofs.env.Env.set.Given as goal

abbrev pub invariant-loop-depth : goal.invariant-loop-depth
invariant-loop-depth l =
    (l.depth ≤ length l.self-inside.entered.items)
    × (l.self-inside ≡ l.initial.self-inside)
    × (with_set l.fn.self l.name l.value
    ≡ reverse (drop l.depth l.self-inside.entered.items) ++ with_set (view (take l.depth l.self-inside.entered.items) l.self-inside.outermost) l.name l.value)

abbrev pub decreases-loop-depth : goal.decreases-loop-depth
decreases-loop-depth l = l.depth
