use Rattle.std.proofs.Common.{◌<◌, length, Some, sym, ap, ◌∙◌, arith}
use Rattle.std.specs.Result.{result_err}
use Rattle.std.proofs.lemmas.Result.{err_from_is_err_and}
use Rattle.sc_types.proofs.Arguments.{rest_fails, rest_passes}
use Rattle.sc_types.proofs.call.arguments.Goals as goal

pub returns-in_err-argument : goal.returns-in_err-argument
returns-in_err-argument g c =
    let ks = g.N.Names.kinds c.args.names.now in
    let ws = c.args.wants.now in
    let es = c.args.args.now in
    let p = err_from_is_err_and c.from_residual.result c.from_residual.ensures.1 in
    let inside : c.loop-i.i < length ws = omega (arith, c.requires) in
    ap result_err p.1 ∙ ap Some p.2
    ∙ rest_fails ks ws es c.loop-i.i _ c.index-args-i.result c.in_err-argument.field-0.0 inside (omega arith) c.index-args-i.is c.in_err-argument.ensures
    ∙ c.loop-i.invariant

pub loop-i-preserved : goal.loop-i-preserved
loop-i-preserved g c =
    let ks = g.N.Names.kinds c.args.names.now in
    let ws = c.args.wants.now in
    let es = c.args.args.now in
    let inside : c.loop-i.i < length ws = omega (arith, c.requires) in
    sym (rest_passes ks ws es c.loop-i.i _ c.index-args-i.result inside (omega arith) c.index-args-i.is c.in_ok-argument.ensures) ∙ c.loop-i.invariant
