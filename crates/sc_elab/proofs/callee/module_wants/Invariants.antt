use Rattle.std.proofs.Common.{◌≡◌, take}
use Rattle.std.specs.Prelude.{map}
use Rattle.sc_syntax.specs.Alike.{pure_param}
use Rattle.sc_meaning.specs.Arguments.{want_of}
use Rattle.sc_elab.proofs.callee.module_wants.Given as goal

abbrev pub invariant-loop-param : goal.invariant-loop-param
invariant-loop-param l = l.wants.items ≡ map (λ p. want_of p.sort) (map pure_param (take l.param-index l.params))
