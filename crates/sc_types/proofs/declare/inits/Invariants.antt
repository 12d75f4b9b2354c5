use Rattle.std.proofs.Common.{◌≡◌, drop}
use Rattle.sc_types.specs.Walking.{inits_on}
use Rattle.sc_types.proofs.declare.inits.Given as goal

abbrev pub invariant-loop-decl : goal.invariant-loop-decl
invariant-loop-decl l = inits_on l.sort l.scopes (drop l.decl-index l.inits) ≡ inits_on l.sort l.fn.scopes l.inits
