use Rattle.std.proofs.Common.{◌≡◌, drop}
use Rattle.sc_types.specs.Parameters.{params_on}
use Rattle.sc_types.proofs.params.declare_params.Given as goal

abbrev pub invariant-loop-i : goal.invariant-loop-i
invariant-loop-i l = params_on l.last l.i l.scopes (drop l.i l.params) ≡ params_on l.last 0 l.fn.scopes l.params
