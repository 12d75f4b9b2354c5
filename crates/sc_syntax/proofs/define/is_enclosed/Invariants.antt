use Rattle.sc_syntax.proofs.Enclosed.{DepthAt}
use Rattle.sc_syntax.proofs.define.is_enclosed.Given as goal

abbrev pub invariant-loop-i : goal.invariant-loop-i
invariant-loop-i l = DepthAt l.value l.i l.depth
