use Rattle.std.proofs.Common.{◌≡◌, take, false}
use Rattle.std.specs.List.{list_any}
use Rattle.sc_types.specs.Sources.{is_main_part}
use Rattle.sc_types.proofs.source.main_of.Given as goal

abbrev pub invariant-loop-i : goal.invariant-loop-i
invariant-loop-i l = list_any is_main_part (take l.i l.parts) ≡ false
