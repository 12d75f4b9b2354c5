use Rattle.std.proofs.Common.{◌≡◌, drop}
use Rattle.std.specs.Prelude.{map}
use Rattle.sc_syntax.specs.Alike.{pure_param}
use Rattle.sc_elab.specs.Callees.{rest_of, stated_and_compared}
use Rattle.sc_elab.specs.Evaluated.{all_passed}
use Rattle.sc_elab.proofs.callee.module_lengths.Given as goal

abbrev pub invariant-loop-param : goal.invariant-loop-param
invariant-loop-param l =
    stated_and_compared l.numbers (map pure_param l.params) (all_passed l.evaluated)
    ≡ rest_of l.wrong l.numbers (map pure_param (drop l.param-index l.params)) (all_passed l.rest)
