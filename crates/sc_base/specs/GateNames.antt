-- How the gates are spelled, in sources and in every text, and their order.
use Rattle.std.specs.Prelude.{ℕ, List, [], ◌∷◌, Option, Some, None, nat_eq, if◌then◌else◌, codes}
use Rattle.std.specs.Cmp.Lexicographic.{pointwise}
use Rattle.sc_base.specs.declared.names.GateName.{GateName}
use Rattle.sc_base.specs.declared.names.GateName.TheVariants as gate

-- the bytes of a gate's name
abbrev pub gate_text : GateName → List ℕ
gate_text gate.X = codes "X"
gate_text gate.Y = codes "Y"
gate_text gate.Z = codes "Z"
gate_text gate.H = codes "H"
gate_text gate.S = codes "S"
gate_text gate.T = codes "T"
gate_text gate.Sdag = codes "Sdag"
gate_text gate.Tdag = codes "Tdag"
gate_text gate.Cnot = codes "CNOT"
gate_text gate.Toffoli = codes "Toffoli"
gate_text gate.Fredkin = codes "Fredkin"
gate_text gate.Rx = codes "Rx"
gate_text gate.Ry = codes "Ry"
gate_text gate.Rz = codes "Rz"
gate_text gate.PrepX = codes "PrepX"
gate_text gate.PrepZ = codes "PrepZ"
gate_text gate.MeasX = codes "MeasX"
gate_text gate.MeasZ = codes "MeasZ"

-- the place of a name in the order of names, from 0
abbrev pub place_of : GateName → ℕ
place_of gate.X = 0
place_of gate.Y = 1
place_of gate.Z = 2
place_of gate.H = 3
place_of gate.S = 4
place_of gate.T = 5
place_of gate.Sdag = 6
place_of gate.Tdag = 7
place_of gate.Cnot = 8
place_of gate.Toffoli = 9
place_of gate.Fredkin = 10
place_of gate.Rx = 11
place_of gate.Ry = 12
place_of gate.Rz = 13
place_of gate.PrepX = 14
place_of gate.PrepZ = 15
place_of gate.MeasX = 16
place_of gate.MeasZ = 17

-- all names, in their order
abbrev pub all_names : List GateName
all_names =
    gate.X ∷ gate.Y ∷ gate.Z ∷ gate.H ∷ gate.S ∷ gate.T ∷ gate.Sdag ∷ gate.Tdag ∷ gate.Cnot ∷ gate.Toffoli ∷ gate.Fredkin ∷ gate.Rx ∷ gate.Ry ∷ gate.Rz ∷ gate.PrepX ∷ gate.PrepZ ∷ gate.MeasX ∷ gate.MeasZ ∷ []

-- the first of some names that is spelled so
abbrev pub first_named : List GateName → List ℕ → Option GateName
first_named [] text = None
first_named (name ∷ names) text = if pointwise nat_eq (gate_text name) text then Some name else first_named names text

-- the gate that is spelled so
abbrev pub gate_named : List ℕ → Option GateName
gate_named text = first_named all_names text
