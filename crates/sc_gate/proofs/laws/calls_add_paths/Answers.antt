use Rattle.std.proofs.Common.{IsTrue}
use Rattle.sc_gate.proofs.laws.calls_add_paths.Goals as goal
use Rattle.sc_gate.proofs.PathCalls.{best_call, star_call}

pub returns : goal.returns
returns c = record {
  best = λ before after. best_call (λ w. IsTrue (before w)) (λ w. IsTrue (after w));
  star = λ before after. star_call (λ w. IsTrue (before w)) (λ w. IsTrue (after w));
}
