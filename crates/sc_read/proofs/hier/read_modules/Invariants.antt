use Rattle.std.proofs.Common.{length}
use Rattle.sc_read.proofs.HierLoops.{ModulesSoFar}
use Rattle.sc_read.proofs.hier.read_modules.Given as goal

abbrev pub invariant-loop-line : goal.invariant-loop-line
invariant-loop-line l = ModulesSoFar l.turns l.text 2 l.deck l.lines.rest.now l.lines.number

abbrev pub decreases-loop-line : goal.decreases-loop-line
decreases-loop-line l = length l.lines.rest.now
