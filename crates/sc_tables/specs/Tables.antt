-- The gate lists that stand in the place of a Toffoli and a Fredkin gate.
use Rattle.std.specs.Prelude.{◌≡◌, ◌≢◌, ℕ, ◌*◌, ◌<◌, ◌++◌, Bool, true, false, not, List, [], ◌∷◌, filter, length, swap, if◌then◌else◌}
use Rattle.sc_base.specs.declared.names.Class.TheVariants.{Q}
use Rattle.sc_gate.specs.declared.gate.Wire.{Wire}
use Rattle.sc_gate.specs.declared.gate.Kind.{Kind}
use Rattle.sc_gate.specs.declared.gate.Kind.TheVariants.{H, T, Tdag, Cnot, Toffoli}
use Rattle.sc_gate.specs.declared.gate.Gate.{Gate}
use Rattle.sc_gate.specs.Kinds.{on_one, on_two, on_three}
use Rattle.sc_gate.specs.Runs.{bit, bit_at, bit_run, phase_run}

-- three distinct qubits
pub record AreThreeQubits (a b c : Wire) : Type 0 where
  pub first : a.class ≡ Q
  pub second : b.class ≡ Q
  pub third : c.class ≡ Q
  pub first_second : a ≢ b
  pub first_third : a ≢ c
  pub second_third : b ≢ c

-- a CNOT, the control first
abbrev pub cnot : Wire → Wire → Gate
cnot a b = on_two Cnot a b

abbrev pub toffoli_gate : Wire → Wire → Wire → Gate
toffoli_gate a b c = on_three Toffoli a b c

-- the list for a Toffoli with the controls a, b and the target c
abbrev pub toffoli_list : Wire → Wire → Wire → List Gate
toffoli_list a b c =
    on_one H c
    ∷ cnot b c
    ∷ on_one Tdag c
    ∷ cnot a c
    ∷ on_one T c
    ∷ cnot b c
    ∷ on_one Tdag c
    ∷ cnot a c
    ∷ on_one T b
    ∷ on_one T c
    ∷ cnot a b
    ∷ on_one T a
    ∷ on_one Tdag b
    ∷ cnot a b
    ∷ on_one H c
    ∷ []

-- a CNOT from c to b before these gates and after them
abbrev pub between_cnots : List Gate → Wire → Wire → List Gate
between_cnots gates b c = cnot c b ∷ (gates ++ cnot c b ∷ [])

-- the list for a Fredkin with the control a that swaps b and c
abbrev pub fredkin_list : Wire → Wire → Wire → List Gate
fredkin_list a b c = between_cnots (toffoli_list a b c) b c

-- the same with its Toffoli kept
abbrev pub fredkin_kept : Wire → Wire → Wire → List Gate
fredkin_kept a b c = between_cnots (toffoli_gate a b c ∷ []) b c

abbrev pub is_h : Gate → Bool
is_h g = is_h_kind g.kind
  where
    is_h_kind : Kind → Bool
    is_h_kind H = true
    is_h_kind _ = false

-- the gates other than H
abbrev pub without_h : List Gate → List Gate
without_h gates = filter (λ g. not (is_h g)) gates

-- the wire's truth value as a number
abbrev pub bit_of : List Bool → Wire → ℕ
bit_of bits w = bit (bit_at bits w.number)

-- these wires have truth values
pub record HasBits (bits : List Bool) (a b c : Wire) : Type 0 where
  pub first : a.number < length bits
  pub second : b.number < length bits
  pub third : c.number < length bits

-- Without its H gates the list leaves the bits, and its phase is 4 where a, b and c are all 1, else 0.
-- A Toffoli does the same between two H gates on c.
abbrev pub ToffoliPhase : Type 0
ToffoliPhase =
    (a b c : Wire) (bits : List Bool) → AreThreeQubits a b c → HasBits bits a b c →
    phase_run (without_h (toffoli_list a b c)) bits ≡ record { bits = bits; phase = 4 * (bit_of bits a * bit_of bits b * bit_of bits c) }

-- with its Toffoli kept the list swaps b and c exactly where a is 1
abbrev pub FredkinSwap : Type 0
FredkinSwap =
    (a b c : Wire) (bits : List Bool) → AreThreeQubits a b c → HasBits bits a b c →
    bit_run (fredkin_kept a b c) bits ≡ (if bit_at bits a.number then swap bits b.number c.number else bits)
