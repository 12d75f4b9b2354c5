use Rattle.std.proofs.lemmas.Result.{err_from_is_err_and}
use Rattle.sc_types.proofs.ActWalks.{body_fine, body_fault}
use Rattle.sc_types.proofs.statements.statements.Goals as goal

pub returns-in_err-walk-clause-err : goal.returns-in_err-walk-clause-err
returns-in_err-walk-clause-err g c =
    let parts = g.D.Definitions.parts c.args.definitions.now in
    let p = err_from_is_err_and c.from_residual.result c.from_residual.ensures.1 in
    rw (p.1, p.2) (λ ne before h. body_fault parts c.args.stmts.now c.args.scopes.now c.in_err-walk.field-0.0 (c.in_err-walk.ensures.err ne) before h)

pub returns-clause-none : goal.returns-clause-none
returns-clause-none g c =
    let parts = g.D.Definitions.parts c.args.definitions.now in
    λ before h. body_fine parts c.args.stmts.now c.args.scopes.now c.walk.new.scopes c.in_ok-walk.ensures.ok before h
