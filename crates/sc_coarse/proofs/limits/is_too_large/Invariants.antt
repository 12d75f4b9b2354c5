use Rattle.std.proofs.Common.{◌≡◌, false, take}
use Rattle.std.specs.List.{list_any}
use Rattle.sc_coarse.specs.Refusals.{module_too_large}
use Rattle.sc_coarse.proofs.limits.is_too_large.Given as goal

abbrev pub invariant-loop-i : goal.invariant-loop-i
invariant-loop-i l = list_any module_too_large (take l.i l.deck) ≡ false
