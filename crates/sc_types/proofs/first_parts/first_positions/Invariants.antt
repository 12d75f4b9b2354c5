use Rattle.std.proofs.Common.{take}
use Rattle.sc_types.specs.FirstParts.{FindsFirst}
use Rattle.sc_types.proofs.first_parts.first_positions.Given as goal

abbrev pub invariant-loop-i : goal.invariant-loop-i
invariant-loop-i l = FindsFirst (take l.i l.parts) l.first
