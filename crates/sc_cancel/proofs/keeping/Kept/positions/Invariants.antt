use Rattle.std.proofs.Common.{◌≡◌, take}
use Rattle.sc_cancel.specs.Keeping.{places}
use Rattle.sc_cancel.proofs.keeping.Kept.positions.Given as goal

abbrev pub invariant-loop-position : goal.invariant-loop-position
invariant-loop-position l = l.positions ≡ places 0 (take l.position l.links-items)
