-- Where a position stands in a schedule, as the steps are gone through.
use Rattle.std.specs.Prelude.{ℕ, zero, suc, Bool, true, false, Option, List, find}
use Rattle.sc_sched.specs.Schedule.{positions}
use Rattle.sc_sched.specs.Legal.{Step, times_placed, step_of}
use Rattle.sc_check.specs.declared.places.Stands.{Stands}
use Rattle.sc_check.specs.declared.places.Stands.TheVariants.{Nowhere, Once, Again}

-- once more, in this step
abbrev pub marked : Stands → ℕ → Stands
marked Nowhere step = Once step
marked (Once other) step = Again
marked Again step = Again

-- so often more, in this step
abbrev pub marked_times : Stands → ℕ → ℕ → Stands
marked_times known step zero = known
marked_times known step (suc n) = marked (marked_times known step n) step

-- by how often it stands and where first
abbrev pub standing : ℕ → ℕ → Stands
standing zero step = Nowhere
standing (suc zero) step = Once step
standing (suc (suc n)) step = Again

-- where a position stands
abbrev pub found_at : List Step → ℕ → Stands
found_at steps x = standing (times_placed steps x) (step_of steps x)

-- the lowest number below n that passes
abbrev pub lowest : (ℕ → Bool) → ℕ → Option ℕ
lowest test n = find test (positions n)

abbrev pub is_nowhere : Stands → Bool
is_nowhere Nowhere = true
is_nowhere (Once step) = false
is_nowhere Again = false

abbrev pub is_again : Stands → Bool
is_again Nowhere = false
is_again (Once step) = false
is_again Again = true
