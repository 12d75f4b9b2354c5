use Rattle.std.proofs.Common.{length}
use Rattle.sc_open.proofs.ReadLoop.{OpenRead}
use Rattle.sc_open.proofs.reader.read_open.Given as goal

abbrev pub invariant-loop-line : goal.invariant-loop-line
invariant-loop-line l = OpenRead l.text l.read l.lines.rest.now l.lines.number

abbrev pub decreases-loop-line : goal.decreases-loop-line
decreases-loop-line l = length l.lines.rest.now
