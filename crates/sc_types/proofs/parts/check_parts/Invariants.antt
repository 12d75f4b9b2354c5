use Rattle.sc_types.proofs.PartLemmas.{GoesOn}
use Rattle.sc_types.proofs.parts.check_parts.Given as goal

abbrev pub invariant-loop-i : goal.invariant-loop-i
invariant-loop-i l = GoesOn l.parts l.i l.words
