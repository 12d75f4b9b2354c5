use Rattle.sc_coarse.specs.Making.{AreMade}
use Rattle.sc_coarse.proofs.make.schedule_all.Given as goal

abbrev pub invariant-loop-i : goal.invariant-loop-i
invariant-loop-i g l = AreMade (g.P.Priority.comes l.order) l.k l.d l.deck l.i l.instances
