-- A source has one fault.
use Rattle.std.proofs.Common.{List, ap}
use Rattle.sc_syntax.specs.Alike.{PurePart}
use Rattle.sc_types.specs.Checks.{first_fault}
use Rattle.sc_types.specs.Sources.{checks}
use Rattle.sc_types.specs.Typing.{HasOneFault}

-- the checks are those of the tree without addresses, and alike sources have one
pub one_fault : HasOneFault
one_fault a b alike = ap (λ (parts : List PurePart). first_fault (checks parts)) alike
