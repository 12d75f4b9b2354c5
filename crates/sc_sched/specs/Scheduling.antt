-- Gates that no region has room for.
use Rattle.std.specs.Prelude.{ℕ, ◌<◌, ◌≤◌, List, length}
use Rattle.sc_gate.specs.declared.gate.Gate.{Gate}
use Rattle.sc_sched.specs.Gates.{arity_at}

-- the first gate with more than d qubits
pub record IsFirstWider (d : ℕ) (gates : List Gate) (x : ℕ) : Type 0 where
  pub inside : x < length gates
  pub wider : d < arity_at gates x
  pub first : (y : ℕ) → y < x → arity_at gates y ≤ d
