use Rattle.sc_coarse.proofs.WideAndLong.{Walks}
use Rattle.sc_coarse.proofs.limits.body_is_too_large.Given as goal

abbrev pub invariant-loop-item : goal.invariant-loop-item
invariant-loop-item l = Walks l.items l.item-index l.gates
