use Rattle.std.proofs.Common.{◌≡◌, drop}
use Rattle.sc_types.specs.Walking.{stmts_on}
use Rattle.sc_types.proofs.statements.walk.Given as goal

abbrev pub invariant-loop-stmt : goal.invariant-loop-stmt
invariant-loop-stmt g l =
    let parts = g.D.Definitions.parts l.definitions in
    stmts_on parts l.scopes (drop l.stmt-index l.stmts) ≡ stmts_on parts l.fn.scopes l.stmts
