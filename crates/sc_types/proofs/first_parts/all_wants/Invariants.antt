use Rattle.std.proofs.Common.{◌≡◌, map, take}
use Rattle.sc_syntax.specs.Alike.{pure_part}
use Rattle.sc_types.specs.Statements.{part_wants}
use Rattle.sc_types.proofs.first_parts.all_wants.Given as goal

abbrev pub invariant-loop-part : goal.invariant-loop-part
invariant-loop-part l = l.wants ≡ map (λ p. part_wants (pure_part p)) (take l.part-index l.parts)
