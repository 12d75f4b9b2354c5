use Rattle.std.proofs.Common.{List, [], map, sym, ap, subst, ◌∙◌}
use Rattle.std.proofs.lemmas.Result.{err_from_is_err_and}
use Rattle.sc_syntax.specs.declared.Param.{Param}
use Rattle.sc_syntax.specs.declared.Stmt.{Stmt}
use Rattle.sc_syntax.specs.Alike.{pure_param, pure_stmt}
use Rattle.sc_types.specs.Checks.{first_fault}
use Rattle.sc_types.specs.Scopes.{StandsAtBody}
use Rattle.sc_types.specs.Sources.{walk_params, walk_stmts}
use Rattle.sc_types.proofs.PartLemmas.{module_fails, module_goes_on}
use Rattle.sc_types.proofs.parts.check_module.Goals as goal

pub returns-in_err-scopes-clause-err : goal.returns-in_err-scopes-clause-err
returns-in_err-scopes-clause-err g c =
    let parts = g.D.Definitions.parts c.args.definitions.now in
    let p = err_from_is_err_and c.from_residual.result c.from_residual.ensures.1 in
    rw (p.1, p.2) (λ free. module_fails parts (map pure_param c.args.checked.now.params) (map pure_stmt c.args.checked.now.body) c.in_err-scopes.field-0.0
    (ap (λ (ps : List Param). first_fault (walk_params [] (map pure_param ps)).checks) (sym c.as_slice.ensures) ∙ c.in_err-scopes.ensures.err free))

pub returns-clause-none : goal.returns-clause-none
returns-clause-none g c =
    let parts = g.D.Definitions.parts c.args.definitions.now in
    let m = c.args.checked.now in
    module_goes_on parts (map pure_param m.params) (map pure_stmt m.body) (ap (λ (ps : List Param). first_fault (walk_params [] (map pure_param ps)).checks) (sym c.as_slice.ensures) ∙ c.in_ok-scopes.ensures.none)
    ∙ ap (λ (ss : List Stmt). first_fault (walk_stmts parts (walk_params [] (map pure_param m.params)).declares 0 (map pure_stmt ss)).checks) (sym c.as_slice-2.ensures)
    ∙ c.in_ok-statements.ensures.none (walk_params [] (map pure_param m.params)).declares
    (subst (λ (ps : List Param). StandsAtBody c.in_ok-scopes.scopes (walk_params [] (map pure_param ps)).declares) c.as_slice.ensures c.in_ok-scopes.ensures.scopes)

pub returns-in_err-statements-clause-err : goal.returns-in_err-statements-clause-err
returns-in_err-statements-clause-err g c =
    let parts = g.D.Definitions.parts c.args.definitions.now in
    let m = c.args.checked.now in
    let p = err_from_is_err_and c.from_residual-in_err-statements.result c.from_residual-in_err-statements.ensures.1 in
    rw (p.1, p.2) (λ free.
    module_goes_on parts (map pure_param m.params) (map pure_stmt m.body) (ap (λ (ps : List Param). first_fault (walk_params [] (map pure_param ps)).checks) (sym c.as_slice.ensures) ∙ c.in_ok-scopes.ensures.none)
    ∙ ap (λ (ss : List Stmt). first_fault (walk_stmts parts (walk_params [] (map pure_param m.params)).declares 0 (map pure_stmt ss)).checks) (sym c.as_slice-2.ensures)
    ∙ c.in_err-statements.ensures.err free (walk_params [] (map pure_param m.params)).declares
    (subst (λ (ps : List Param). StandsAtBody c.in_ok-scopes.scopes (walk_params [] (map pure_param ps)).declares) c.as_slice.ensures c.in_ok-scopes.ensures.scopes))
