use Rattle.std.proofs.Common.{◌≡◌, drop}
use Rattle.sc_types.specs.Walking.{wires_on}
use Rattle.sc_types.proofs.declare.wires.Given as goal

abbrev pub invariant-loop-decl : goal.invariant-loop-decl
invariant-loop-decl l = wires_on l.class l.scopes (drop l.decl-index l.decls) ≡ wires_on l.class l.fn.scopes l.decls
