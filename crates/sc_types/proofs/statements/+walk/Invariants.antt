use Rattle.std.proofs.Common.{◌≡◌, Ok, drop}
use Rattle.sc_types.specs.Scopes.{left}
use Rattle.sc_types.specs.Sorts.{◌>>=◌}
use Rattle.sc_types.specs.Walking.{act_on, stmts_on}
use Rattle.sc_types.proofs.statements.+walk.Given as goal

abbrev pub invariant-statement-loop-inner : goal.invariant-statement-loop-inner
invariant-statement-loop-inner g l =
    let parts = g.D.Definitions.parts l.definitions in
    (stmts_on parts l.scopes (drop l.inner-index l.inner-items) >>= λ after. Ok (left after)) ≡ act_on parts l.fn.scopes l.stmt.act
