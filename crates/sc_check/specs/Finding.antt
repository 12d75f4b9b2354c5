-- The first breach of the rules of a legal schedule.
use Rattle.std.specs.Prelude.{ℕ, ◌+◌, not, Bool, true, Option, Some, None, unwrap_or, option_map, List, length, nat_lt, position}
use Rattle.std.specs.List.{list_any, sum_by}
use Rattle.sc_gate.specs.declared.gate.Gate.{Gate}
use Rattle.sc_sched.specs.declared.plan.Plan.{Plan}
use Rattle.sc_gate.specs.declared.gate.Kind.{Kind}
use Rattle.sc_gate.specs.SameGates.{same_kind}
use Rattle.sc_sched.specs.Gates.{arity_at, kind_at}
use Rattle.sc_sched.specs.Legal.{Region, Step, placed, times_placed, step_of}
use Rattle.sc_check.specs.Places.{lowest}
use Rattle.sc_check.specs.Early.{early_by}
use Rattle.sc_check.specs.declared.finding.Finding.{Finding}
use Rattle.sc_check.specs.declared.finding.Finding.TheVariants.{Legal, Missing, Twice, Early, TooManyRegions, TooWideRegion, MixedKinds}

-- the number, from 1, of the first step that passes
abbrev pub lowest_step : (Step → Bool) → List Step → Option ℕ
lowest_step test steps = option_map (λ i. i + 1) (position test steps)

abbrev pub is_missing : List Step → ℕ → Bool
is_missing steps x = not (placed steps x)

abbrev pub is_twice : List Step → ℕ → Bool
is_twice steps x = nat_lt 1 (times_placed steps x)

-- the gate stands in a step not later than that of an earlier gate that shares a wire
abbrev pub is_early : List Gate → List Step → ℕ → Bool
is_early gates steps = early_by gates (step_of steps)

abbrev pub has_many_regions : ℕ → Step → Bool
has_many_regions k step = nat_lt k (length step)

-- the gates of a region have more than d qubits together
abbrev pub is_wide : List Gate → ℕ → Region → Bool
is_wide gates d region = nat_lt d (sum_by (arity_at gates) region)

abbrev pub has_wide_region : List Gate → ℕ → Step → Bool
has_wide_region gates d step = list_any (is_wide gates d) step

abbrev pub other_kind : Option Kind → Option Kind → Bool
other_kind None b = true
other_kind (Some a) None = true
other_kind (Some a) (Some b) = not (same_kind a b)

-- two of the gates of a region are of different kinds
abbrev pub is_mixed : List Gate → Region → Bool
is_mixed gates region = list_any (λ x. list_any (λ y. other_kind (kind_at gates x) (kind_at gates y)) region) region

abbrev pub has_mixed_kinds : List Gate → Step → Bool
has_mixed_kinds gates step = list_any (is_mixed gates) step

-- the first of some breaches, in the order of the variants
abbrev pub first_breach : (missing twice early crowded wide mixed : Option ℕ) → Finding
first_breach missing twice early crowded wide mixed =
    unwrap_or (option_map Missing missing) (unwrap_or (option_map Twice twice) (unwrap_or (option_map Early early)
    (unwrap_or (option_map TooManyRegions crowded) (unwrap_or (option_map TooWideRegion wide) (unwrap_or (option_map MixedKinds mixed) Legal)))))

-- the first breach of the rules of a legal schedule, with the lowest such position or step
abbrev pub finding : List Gate → Plan → Finding
finding gates s =
    first_breach (lowest (is_missing s.steps) (length gates)) (lowest (is_twice s.steps) (length gates)) (lowest (is_early gates s.steps) (length gates))
    (lowest_step (has_many_regions s.k) s.steps) (lowest_step (has_wide_region gates s.d) s.steps) (lowest_step (has_mixed_kinds gates) s.steps)
