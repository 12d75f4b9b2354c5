-- The coarse schedules of a deck.
use Rattle.std.specs.Prelude.{◌≡◌, ℕ, Bool, List, Some, length, slice_get}
use Rattle.sc_deck.specs.Modules.{Module}
use Rattle.sc_sched.specs.declared.order.Rank.{Rank}
use Rattle.sc_coarse.specs.declared.coarse.Instance.{Instance}
use Rattle.sc_coarse.specs.CoarseRule.{IsCoarseRule}
use Rattle.sc_coarse.specs.Expansions.{expanded}

-- THE COARSE SCHEDULES of modules: one for each, by the rule, with the number of steps of its expansion
pub record AreCoarse (comes : Rank → Rank → Bool) (k d : ℕ) (modules : List Module) (instances : List Instance) : Type 0 where
  pub many : length instances ≡ length modules
  pub rule : (i : ℕ) (m : Module) (one : Instance) → slice_get modules i ≡ Some m → slice_get instances i ≡ Some one → IsCoarseRule comes k d m.items one.blocks
  pub length : (i : ℕ) (one : Instance) → slice_get instances i ≡ Some one → one.length ≡ length (expanded modules instances i)
