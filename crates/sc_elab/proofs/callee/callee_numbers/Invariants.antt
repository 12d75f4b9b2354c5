use Rattle.std.proofs.Common.{◌≡◌, drop}
use Rattle.std.specs.Prelude.{map}
use Rattle.sc_syntax.specs.Alike.{pure_param}
use Rattle.sc_meaning.specs.Arguments.{callee_numbers, number_params}
use Rattle.sc_elab.proofs.callee.callee_numbers.Given as goal

abbrev pub invariant-loop-param : goal.invariant-loop-param
invariant-loop-param l =
    callee_numbers (map pure_param l.params) l.args ≡ number_params (map pure_param (drop l.param-index l.params)) l.rest l.numbers
