-- Whether a gate stands too early, by the last earlier gates on its wires.
use Rattle.std.specs.Prelude.{ℕ, ◌&&◌, Bool, false, Option, Some, None, List, nat_le, slice_index_or}
use Rattle.std.specs.List.{list_any}
use Rattle.sc_gate.specs.declared.gate.Wire.{Wire}
use Rattle.sc_gate.specs.declared.gate.Gate.{Gate}
use Rattle.sc_sched.specs.Gates.{shares}
use Rattle.sc_sched.specs.Schedule.{positions}
use Rattle.sc_check.specs.declared.places.Stands.{Stands}
use Rattle.sc_check.specs.declared.places.Stands.TheVariants.{Nowhere, Once, Again}

-- the step of a position that stands once
abbrev pub once_in : Stands → ℕ
once_in Nowhere = 0
once_in (Once step) = step
once_in Again = 0

abbrev pub step_at : List Stands → ℕ → ℕ
step_at places x = once_in (slice_index_or places x Nowhere)

-- the gate at the position, if there is one, stands in this step or a later one
abbrev pub not_before : List Stands → ℕ → Option ℕ → Bool
not_before places step None = false
not_before places step (Some x) = nat_le step (step_at places x)

-- some wire's last gate does
abbrev pub any_not_before : (Wire → Option ℕ) → List Stands → ℕ → List Wire → Bool
any_not_before last places step wires = list_any (λ w. not_before places step (last w)) wires

-- the gate at y stands in a step not later than that of an earlier gate that shares a wire
abbrev pub early_by : List Gate → (ℕ → ℕ) → ℕ → Bool
early_by gates step y = list_any (λ x. shares gates x y && nat_le (step y) (step x)) (positions y)
