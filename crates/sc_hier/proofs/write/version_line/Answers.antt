use Rattle.std.proofs.Common.{refl}
use Rattle.std.specs.Fmt.{digits}
use Rattle.sc_hier.proofs.write.version_line.Goals as goal

pub returns-then-turns : goal.returns-then-turns
unfolding digits
returns-then-turns c = rw c.if-turns.true refl

pub returns-else-turns : goal.returns-else-turns
unfolding digits
returns-else-turns c = rw c.if-turns.false refl
