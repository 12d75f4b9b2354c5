use Rattle.std.proofs.Common.{length}
use Rattle.sc_read.proofs.HierLoops.{ItemsSoFar}
use Rattle.sc_read.proofs.hier.read_items.Given as goal

abbrev pub invariant-loop-line : goal.invariant-loop-line
invariant-loop-line l = ItemsSoFar l.turns l.deck l.fn.body l.body l.fn.lines.rest.now l.lines.rest.now l.fn.lines.number l.lines.number

abbrev pub decreases-loop-line : goal.decreases-loop-line
decreases-loop-line l = length l.lines.rest.now
