-- Schedules put together.
use Rattle.std.specs.Prelude.{ℕ, ◌+◌, List, [], ◌∷◌, ◌++◌, map}
use Rattle.sc_sched.specs.Legal.{Region, Step}

-- a region and a step of gates that stand behind so many others
abbrev pub region_behind : ℕ → Region → Region
region_behind n region = map (λ x. n + x) region

abbrev pub step_behind : ℕ → Step → Step
step_behind n step = map (region_behind n) step

-- the steps of so many gates, and then the steps of the gates behind them
abbrev pub in_sequence : ℕ → List Step → List Step → List Step
in_sequence n steps later = steps ++ map (step_behind n) later

-- the one step of a gate that stands alone
abbrev pub alone : List Step
alone = ((0 ∷ []) ∷ []) ∷ []
