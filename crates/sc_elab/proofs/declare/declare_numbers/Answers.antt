use Rattle.std.proofs.Common.{Option, drop, sym, ap, ◌∙◌}
use Rattle.std.specs.Prelude.{map, option_map}
use Rattle.std.proofs.lemmas.Result.{err_from_is_err_and}
use Rattle.sc_syntax.specs.declared.Expr.{Expr}
use Rattle.sc_syntax.specs.Alike.{pure_expr, pure_init}
use Rattle.sc_elab.specs.Frames.{view}
use Rattle.sc_meaning.specs.Run.{declare_numbers}
use Rattle.sc_meaning.specs.Values.{start_value}
use Rattle.sc_elab.proofs.DeclareLaws.{numbers_fault}
use Rattle.sc_elab.proofs.Going.{goes_fault}
use Rattle.sc_elab.proofs.declare.declare_numbers.Goals as goal

pub returns-in_err-value-clause-err : goal.returns-in_err-value-clause-err
returns-in_err-value-clause-err c =
    let f = c.args.frame.now in
    let g = c.loop-init.frame in
    let inits = c.args.inits.now in
    let d = c.init-item.result in
    let p = err_from_is_err_and c.from_residual.result c.from_residual.ensures.1 in
    rw (p.1, p.2) (λ other choice.
    goes_fault choice (declare_numbers c.args.sort (map pure_init inits) (view f)) (declare_numbers c.args.sort (map pure_init (drop c.loop-init.init-index inits)) (view g)) f g c.in_err-value.field-0.0
    (c.loop-init.invariant.goes choice)
    (numbers_fault c.args.sort inits c.loop-init.init-index d c.in_err-value.field-0.0 (view g) c.loop-init-test.true c.init-item.is
    (ap (λ (o : Option Expr). start_value g.numbers c.args.sort (option_map pure_expr o)) (sym c.as_ref.ensures.value) ∙ sym c.in_err-value.ensures)))
