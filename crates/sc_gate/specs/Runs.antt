-- Runs of gate lists over truth values, and over truth values with a phase.
use Rattle.std.specs.Prelude.{◌≡◌, ℕ, zero, suc, ◌+◌, ◌-◌, ◌*◌, ◌%◌, Bool, true, false, not, ◌&&◌, ◌⊎◌, List, [], ◌∷◌, Option, Some, None}
use Rattle.sc_base.specs.declared.names.GateName.TheVariants as name
use Rattle.sc_gate.specs.declared.gate.Wire.{Wire}
use Rattle.sc_gate.specs.declared.gate.Kind.{Kind}
use Rattle.sc_gate.specs.declared.gate.Kind.TheVariants as kind
use Rattle.sc_gate.specs.declared.gate.Gate.{Gate}
use Rattle.sc_gate.specs.Gates.{name_of, IsWellFormed}

abbrev pub xor : Bool → Bool → Bool
xor true b = not b
xor false b = b

-- the truth value of a wire, by its number; false past the end
abbrev pub bit_at : List Bool → ℕ → Bool
bit_at [] w = false
bit_at (x ∷ xs) zero = x
bit_at (x ∷ xs) (suc w) = bit_at xs w

-- xors a truth value into that of a wire
abbrev pub xor_at : ℕ → Bool → List Bool → List Bool
xor_at w v [] = []
xor_at zero v (x ∷ xs) = xor x v ∷ xs
xor_at (suc w) v (x ∷ xs) = x ∷ xor_at w v xs

abbrev pub bit : Bool → ℕ
bit true = 1
bit false = 0

-- the number of a word with bit 0 first: the sum of 2^i over the bits i that are 1
abbrev pub number : List Bool → ℕ
number [] = 0
number (b ∷ bs) = bit b + 2 * number bs

abbrev pub number_or_zero : Option Wire → ℕ
number_or_zero None = 0
number_or_zero (Some w) = w.number

-- X flips its bit, CNOT xors its control into its target, and Toffoli xors the AND of its controls into its target;
-- every other gate leaves the bits
abbrev pub bit_step_by : Kind → ℕ → ℕ → ℕ → List Bool → List Bool
bit_step_by kind.X a b c bits = xor_at a true bits
bit_step_by kind.Cnot a b c bits = xor_at b (bit_at bits a) bits
bit_step_by kind.Toffoli a b c bits = xor_at c (bit_at bits a && bit_at bits b) bits
bit_step_by _ a b c bits = bits

abbrev pub bit_step : Gate → List Bool → List Bool
bit_step g bits = bit_step_by g.kind g.a.number (number_or_zero g.b) (number_or_zero g.c) bits

-- the bit run: the gates applied in order to a list of truth values, one per qubit
abbrev pub bit_run : List Gate → List Bool → List Bool
bit_run [] bits = bits
bit_run (g ∷ gates) bits = bit_run gates (bit_step g bits)

-- a gate of which bit runs speak
pub record IsClassical (g : Gate) : Type 0 where
  pub well_formed : IsWellFormed g
  pub name : (name_of g.kind ≡ name.X) ⊎ ((name_of g.kind ≡ name.Cnot) ⊎ (name_of g.kind ≡ name.Toffoli))

abbrev pub AreClassical : List Gate → Type 0
AreClassical [] = Unit {0}
AreClassical (g ∷ gates) = IsClassical g × AreClassical gates

-- truth values, one per qubit, with a phase modulo 8
pub record Phased : Type 0 where
  pub bits : List Bool
  pub phase : ℕ

-- CNOT xors its control into its target, T adds its qubit's bit to the phase, and Tdag takes it away
abbrev pub phase_step_by : Kind → ℕ → ℕ → Phased → Phased
phase_step_by kind.Cnot a b state = record { bits = xor_at b (bit_at state.bits a) state.bits; phase = state.phase }
phase_step_by kind.T a b state = record { bits = state.bits; phase = (state.phase + bit (bit_at state.bits a)) % 8 }
phase_step_by kind.Tdag a b state = record { bits = state.bits; phase = (state.phase + (8 - bit (bit_at state.bits a))) % 8 }
phase_step_by _ a b state = state

abbrev pub phase_step : Gate → Phased → Phased
phase_step g state = phase_step_by g.kind g.a.number (number_or_zero g.b) state

-- the phase run from a state
abbrev pub phase_run_from : List Gate → Phased → Phased
phase_run_from [] state = state
phase_run_from (g ∷ gates) state = phase_run_from gates (phase_step g state)

-- the phase run: it starts with the phase 0
abbrev pub phase_run : List Gate → List Bool → Phased
phase_run gates bits = phase_run_from gates (record { bits = bits; phase = 0 })
