use Rattle.std.proofs.Common.{◌≡◌, map, take}
use Rattle.sc_syntax.specs.Alike.{pure_param}
use Rattle.sc_types.specs.Statements.{param_want}
use Rattle.sc_types.proofs.first_parts.params_wants.Given as goal

abbrev pub invariant-loop-param : goal.invariant-loop-param
invariant-loop-param l = l.wants ≡ map (λ p. param_want p.sort) (map pure_param (take l.param-index l.params))
