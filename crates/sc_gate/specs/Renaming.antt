-- Gates with their wires renamed.
use Rattle.std.specs.Prelude.{◌≡◌, true, List, map}
use Rattle.std.specs.Option.{option_map}
use Rattle.sc_gate.specs.declared.gate.Wire.{Wire}
use Rattle.sc_gate.specs.declared.gate.Gate.{Gate}
use Rattle.sc_gate.specs.Chains.{Timed}
use Rattle.sc_gate.specs.Gates.{class_of}
use Rattle.sc_gate.specs.Wires.{member}

-- a gate with its wires renamed
abbrev pub rename_gate : (Wire → Wire) → Gate → Gate
rename_gate f gate = record { kind = gate.kind; a = f gate.a; b = option_map f gate.b; c = option_map f gate.c }

-- what chains see of it
abbrev pub rename_timed : (Wire → Wire) → Timed → Timed
rename_timed f g = record { weight = g.weight; wires = map f g.wires }

abbrev pub KeepsClasses : (Wire → Wire) → Type 0
KeepsClasses f = (w : Wire) → class_of (f w) ≡ class_of w

-- each of these wires keeps its class
abbrev pub KeepsClassesOn : List Wire → (Wire → Wire) → Type 0
KeepsClassesOn ws f = (w : Wire) → member w ws ≡ true → class_of (f w) ≡ class_of w

-- two of these wires with one new name are one wire
abbrev pub IsOneToOneOn : List Wire → (Wire → Wire) → Type 0
IsOneToOneOn ws f = (v w : Wire) → member v ws ≡ true → member w ws ≡ true → f v ≡ f w → v ≡ w

-- two wires with one new name are one wire
abbrev pub IsOneToOne : (Wire → Wire) → Type 0
IsOneToOne f = (v w : Wire) → f v ≡ f w → v ≡ w
