-- Coarse schedules of the first instances of a deck.
use Rattle.std.specs.Prelude.{◌≡◌, ℕ, Bool, List, Some, length, take, slice_get}
use Rattle.sc_deck.specs.Modules.{Module}
use Rattle.sc_sched.specs.declared.order.Rank.{Rank}
use Rattle.sc_coarse.specs.declared.coarse.Instance.{Instance}
use Rattle.sc_coarse.specs.CoarseRule.{IsCoarseRule}
use Rattle.sc_coarse.specs.Lengths.{blocks_length, length_at}

-- the coarse schedule of a body by the rule, with its length, where the instances before it have these lengths
pub record IsInstance (comes : Rank → Rank → Bool) (k d : ℕ) (m : Module) (lengths : ℕ → ℕ) (one : Instance) : Type 0 where
  pub rule : IsCoarseRule comes k d m.items one.blocks
  pub length : one.length ≡ blocks_length lengths m.items one.blocks

-- the first instances, so many
pub record AreMade (comes : Rank → Rank → Bool) (k d : ℕ) (modules : List Module) (n : ℕ) (instances : List Instance) : Type 0 where
  pub many : length instances ≡ n
  pub each : (i : ℕ) (m : Module) (one : Instance) → slice_get modules i ≡ Some m → slice_get instances i ≡ Some one → IsInstance comes k d m (length_at (take i instances)) one
