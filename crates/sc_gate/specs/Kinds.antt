-- The kind of a name, and gates of one, two and three operands.
use Rattle.std.specs.Prelude.{◌≡◌, ◌⊎◌, ℕ, Bool, List, [], ◌∷◌, Option, Some, None}
use Rattle.sc_base.specs.declared.names.Class.TheVariants.{Q, C}
use Rattle.sc_base.specs.declared.names.Fixed.{Fixed}
use Rattle.sc_base.specs.declared.names.GateName.{GateName}
use Rattle.sc_base.specs.declared.names.GateName.TheVariants as name
use Rattle.sc_gate.specs.declared.gate.Wire.{Wire}
use Rattle.sc_gate.specs.declared.gate.Kind.{Kind}
use Rattle.sc_gate.specs.declared.gate.Kind.TheVariants as kind
use Rattle.sc_gate.specs.declared.gate.Gate.{Gate}
use Rattle.sc_gate.specs.Gates.{name_of, IsWellFormed}

abbrev pub qubit : ℕ → Wire
qubit n = record { class = Q; number = n }

abbrev pub cbit : ℕ → Wire
cbit n = record { class = C; number = n }

-- a gate with one operand, with two, and with three
abbrev pub on_one : Kind → Wire → Gate
on_one k a = record { kind = k; a = a; b = None; c = None }

abbrev pub on_two : Kind → Wire → Wire → Gate
on_two k a b = record { kind = k; a = a; b = Some b; c = None }

abbrev pub on_three : Kind → Wire → Wire → Wire → Gate
on_three k a b c = record { kind = k; a = a; b = Some b; c = Some c }

-- the kind of a name that has neither an angle nor a start value
abbrev pub plain_kind : GateName → Option Kind
plain_kind name.X = Some kind.X
plain_kind name.Y = Some kind.Y
plain_kind name.Z = Some kind.Z
plain_kind name.H = Some kind.H
plain_kind name.S = Some kind.S
plain_kind name.T = Some kind.T
plain_kind name.Sdag = Some kind.Sdag
plain_kind name.Tdag = Some kind.Tdag
plain_kind name.Cnot = Some kind.Cnot
plain_kind name.Toffoli = Some kind.Toffoli
plain_kind name.Fredkin = Some kind.Fredkin
plain_kind name.Rx = None
plain_kind name.Ry = None
plain_kind name.Rz = None
plain_kind name.PrepX = None
plain_kind name.PrepZ = None
plain_kind name.MeasX = Some kind.MeasX
plain_kind name.MeasZ = Some kind.MeasZ

-- the rotation of this name by an angle
abbrev pub rotation_kind : GateName → Fixed → Option Kind
rotation_kind name.Rx angle = Some (kind.Rx angle)
rotation_kind name.Ry angle = Some (kind.Ry angle)
rotation_kind name.Rz angle = Some (kind.Rz angle)
rotation_kind _ angle = None

-- the preparation of this name with a start value
abbrev pub preparation_kind : GateName → Bool → Option Kind
preparation_kind name.PrepX start = Some (kind.PrepX start)
preparation_kind name.PrepZ start = Some (kind.PrepZ start)
preparation_kind _ start = None

-- the kind is that of its name, or of its name and an angle, or of its name and a start value
abbrev pub IsNamed : Kind → Type 0
IsNamed k =
    (plain_kind (name_of k) ≡ Some k)
    ⊎ (((angle : Fixed) × (rotation_kind (name_of k) angle ≡ Some k)) ⊎ ((start : Bool) × (preparation_kind (name_of k) start ≡ Some k)))

-- the gate of a kind on one, two or three operands
abbrev pub gate_on : Kind → List Wire → Option Gate
gate_on k [] = None
gate_on k (a ∷ []) = Some (on_one k a)
gate_on k (a ∷ b ∷ []) = Some (on_two k a b)
gate_on k (a ∷ b ∷ c ∷ []) = Some (on_three k a b c)
gate_on k (a ∷ b ∷ c ∷ d ∷ wires) = None

-- a well-formed gate is made of this kind and these operands
pub record IsMade (k : Kind) (wires : List Wire) : Type 0 where
  pub gate : Gate
  pub made : gate_on k wires ≡ Some gate
  pub well_formed : IsWellFormed gate
