-- A cutter between two steps.
use Rattle.std.specs.Prelude.{◌≡◌, ℕ, [], length, slice_index}
use Rattle.sc_sched.specs.declared.cutting.Cutter.{Cutter}

-- there is no group, for so many kinds
pub record IsIdle (kinds : ℕ) (cutter : Cutter) : Type 0 where
  pub number : length cutter.groups.number.items ≡ kinds
  pub none : (k : ℕ) → slice_index cutter.groups.number.items k ≡ 0
  pub no_kinds : cutter.groups.kinds.items ≡ []
  pub no_gates : cutter.groups.gates.items ≡ []
