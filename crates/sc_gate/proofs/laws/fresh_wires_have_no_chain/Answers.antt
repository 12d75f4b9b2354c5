use Rattle.std.proofs.Common.{◌≢◌, refl}
use Rattle.sc_gate.proofs.laws.fresh_wires_have_no_chain.Goals as goal
use Rattle.sc_gate.proofs.PathCalls.{star_fresh, best_above_zero}

pub returns : goal.returns
returns c = record { star = λ gates from w apart. star_fresh (λ v. v ≢ w) gates from w apart (λ n. n refl); weight = best_above_zero }
