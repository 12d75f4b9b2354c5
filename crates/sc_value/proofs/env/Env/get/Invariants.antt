use Rattle.std.proofs.Common.{◌≡◌, ◌≤◌, length, take}
use Rattle.sc_value.specs.Scopes.{declared_value}
use Rattle.sc_value.proofs.ScopeLemmas.{view}
use Rattle.sc_value.proofs.env.Env.get.Given as goal

abbrev pub invariant-loop-depth : goal.invariant-loop-depth
invariant-loop-depth l =
    (l.depth ≤ length l.self-inside.entered.items)
    × (declared_value l.self l.name ≡ declared_value (view (take l.depth l.self-inside.entered.items) l.self-inside.outermost) l.name)

abbrev pub decreases-loop-depth : goal.decreases-loop-depth
decreases-loop-depth l = l.depth
