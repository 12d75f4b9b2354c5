use Rattle.std.proofs.lemmas.Result.{err_from_is_err_and}
use Rattle.sc_types.proofs.ParameterLemmas.{params_pass, params_fail}
use Rattle.sc_types.proofs.params.module_scope.Goals as goal

pub returns-in_err-declare_params-clause-err : goal.returns-in_err-declare_params-clause-err
returns-in_err-declare_params-clause-err c =
    let p = err_from_is_err_and c.from_residual-in_err-declare_params.result c.from_residual-in_err-declare_params.ensures.1 in
    rw (p.1, p.2) (λ free. params_fail c.in_ok-last.last c.args.params.now c.new-scopes.result c.in_err-declare_params.field-0.0 c.in_ok-last.ensures.ok c.new-scopes.ensures
    (c.in_err-declare_params.ensures.err free))

pub returns-clause-scopes : goal.returns-clause-scopes
returns-clause-scopes c =
    (params_pass c.in_ok-last.last c.args.params.now c.new-scopes.result c.declare_params.new.scopes c.in_ok-last.ensures.ok c.new-scopes.ensures c.in_ok-declare_params.ensures.ok).stands

pub returns-clause-none : goal.returns-clause-none
returns-clause-none c =
    (params_pass c.in_ok-last.last c.args.params.now c.new-scopes.result c.declare_params.new.scopes c.in_ok-last.ensures.ok c.new-scopes.ensures c.in_ok-declare_params.ensures.ok).fine
