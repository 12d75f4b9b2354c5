-- Names, operands and well-formed gates.
use Rattle.std.specs.Prelude.{◌≡◌, ◌≢◌, ℕ, Bool, true, false, IsSome, List, [], ◌∷◌, ◌++◌, map, replicate, option_to_list, ◌⊎◌}
use Rattle.sc_base.specs.declared.names.Class.{Class}
use Rattle.sc_base.specs.declared.names.Class.TheVariants.{Q, C}
use Rattle.sc_base.specs.declared.names.GateName.{GateName}
use Rattle.sc_base.specs.declared.names.GateName.TheVariants as name
pub use Rattle.sc_base.specs.GateNames.{place_of}
use Rattle.sc_gate.specs.declared.gate.Wire.{Wire}
use Rattle.sc_gate.specs.declared.gate.Kind.{Kind}
use Rattle.sc_gate.specs.declared.gate.Kind.TheVariants as kind
use Rattle.sc_gate.specs.declared.gate.Gate.{Gate}

-- the name of a kind, without its angle or start value
abbrev pub name_of : Kind → GateName
name_of kind.X = name.X
name_of kind.Y = name.Y
name_of kind.Z = name.Z
name_of kind.H = name.H
name_of kind.S = name.S
name_of kind.T = name.T
name_of kind.Sdag = name.Sdag
name_of kind.Tdag = name.Tdag
name_of kind.Cnot = name.Cnot
name_of kind.Toffoli = name.Toffoli
name_of kind.Fredkin = name.Fredkin
name_of (kind.Rx angle) = name.Rx
name_of (kind.Ry angle) = name.Ry
name_of (kind.Rz angle) = name.Rz
name_of (kind.PrepX start) = name.PrepX
name_of (kind.PrepZ start) = name.PrepZ
name_of kind.MeasX = name.MeasX
name_of kind.MeasZ = name.MeasZ

-- how many qubits a gate of this name has
abbrev pub qubits_of : GateName → ℕ
qubits_of name.Cnot = 2
qubits_of name.Toffoli = 3
qubits_of name.Fredkin = 3
qubits_of _ = 1

abbrev pub is_measurement : GateName → Bool
is_measurement name.MeasX = true
is_measurement name.MeasZ = true
is_measurement _ = false

-- the operands, in the order a, b, c
abbrev pub operands : Gate → List Wire
operands gate = gate.a ∷ (option_to_list gate.b ++ option_to_list gate.c)

abbrev pub class_of : Wire → Class
class_of wire = wire.class

-- operands of these classes suit a gate of this name: its qubits, and at a measurement also a classical bit after the qubit
abbrev pub SuitsName : GateName → List Class → Type 0
SuitsName n classes = (classes ≡ replicate (qubits_of n) Q) ⊎ ((is_measurement n ≡ true) × (classes ≡ Q ∷ C ∷ []))

-- the wire is none of these
abbrev pub IsNew : Wire → List Wire → Type 0
IsNew w [] = Unit {0}
IsNew w (v ∷ vs) = (w ≢ v) × IsNew w vs

-- no wire stands twice
abbrev pub AreDistinct : List Wire → Type 0
AreDistinct [] = Unit {0}
AreDistinct (w ∷ ws) = IsNew w ws × AreDistinct ws

pub record IsWellFormed (gate : Gate) : Type 0 where
  pub suits : SuitsName (name_of gate.kind) (map class_of (operands gate))
  pub distinct : AreDistinct (operands gate)
  -- c is there only where b is
  pub in_order : IsSome gate.c → IsSome gate.b

abbrev pub AreWellFormed : List Gate → Type 0
AreWellFormed [] = Unit {0}
AreWellFormed (g ∷ gates) = IsWellFormed g × AreWellFormed gates

-- the two kinds undo each other
abbrev pub undo : Kind → Kind → Bool
undo kind.X kind.X = true
undo kind.Y kind.Y = true
undo kind.Z kind.Z = true
undo kind.H kind.H = true
undo kind.S kind.Sdag = true
undo kind.Sdag kind.S = true
undo kind.T kind.Tdag = true
undo kind.Tdag kind.T = true
undo kind.Cnot kind.Cnot = true
undo kind.Toffoli kind.Toffoli = true
undo kind.Fredkin kind.Fredkin = true
undo _ _ = false

-- gates that undo each other on the same operands in the same order
pub record Cancels (g h : Gate) : Type 0 where
  pub first : IsWellFormed g
  pub second : IsWellFormed h
  pub kinds : undo g.kind h.kind ≡ true
  pub operands_same : operands g ≡ operands h
