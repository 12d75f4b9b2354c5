use Rattle.std.proofs.Common.{◌≡◌, ◌≤◌, length, take}
use Rattle.std.specs.Prelude.{reverse}
use Rattle.sc_types.specs.Scopes.{kind_in}
use Rattle.sc_types.proofs.scopes.kind_around.Given as goal

abbrev pub invariant-loop-depth : goal.invariant-loop-depth
invariant-loop-depth l = (l.depth ≤ length l.outer) × (kind_in (reverse l.outer) l.name ≡ kind_in (reverse (take l.depth l.outer)) l.name)

abbrev pub decreases-loop-depth : goal.decreases-loop-depth
decreases-loop-depth l = l.depth
