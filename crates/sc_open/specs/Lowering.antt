-- Gates as lines of OpenQASM, and lines as gates.
use Rattle.std.specs.Prelude.{ℕ, Bool, true, false, ◌&&◌, Option, Some, None, List, [], ◌∷◌, map, flat_map}
use Rattle.std.specs.List.{list_any}
use Rattle.sc_gate.specs.declared.gate.Wire.{Wire}
use Rattle.sc_gate.specs.declared.gate.Kind.{Kind}
use Rattle.sc_gate.specs.declared.gate.Kind.TheVariants as kind
use Rattle.sc_gate.specs.declared.gate.Gate.{Gate}
use Rattle.sc_gate.specs.Gates.{name_of, is_measurement}
use Rattle.sc_gate.specs.Kinds.{on_one, on_two, on_three}
use Rattle.sc_open.specs.declared.line.Line.{Line}
use Rattle.sc_open.specs.declared.line.Line.TheVariants as line
use Rattle.sc_open.specs.declared.text.OpenText.{OpenText}

-- H and X on one qubit
abbrev pub h_on : Wire → Line
h_on a = line.Gate (on_one kind.H a)

abbrev pub x_on : Wire → Line
x_on a = line.Gate (on_one kind.X a)

-- the exchange of b and c where a is 1, by CNOT and Toffoli
abbrev pub swap_lines : Wire → Option Wire → Option Wire → List Line
swap_lines a (Some b) (Some c) =
    line.Gate (on_two kind.Cnot c b) ∷ line.Gate (on_three kind.Toffoli a b c) ∷ line.Gate (on_two kind.Cnot c b) ∷ []
swap_lines a (Some b) None = []
swap_lines a None c = []

-- the lines of a gate of this kind
abbrev pub lower_as : Kind → Gate → List Line
lower_as (kind.PrepZ false) g = line.Reset g.a ∷ []
lower_as (kind.PrepZ true) g = line.Reset g.a ∷ x_on g.a ∷ []
lower_as (kind.PrepX false) g = line.Reset g.a ∷ h_on g.a ∷ []
lower_as (kind.PrepX true) g = line.Reset g.a ∷ x_on g.a ∷ h_on g.a ∷ []
lower_as kind.MeasZ g = line.Measure g.a g.b ∷ []
lower_as kind.MeasX g = h_on g.a ∷ line.Measure g.a g.b ∷ h_on g.a ∷ []
lower_as kind.Fredkin g = swap_lines g.a g.b g.c
lower_as _ g = line.Gate g ∷ []

abbrev pub lower_gate : Gate → List Line
lower_gate g = lower_as g.kind g

abbrev pub lower : List Gate → List Line
lower gates = flat_map lower_gate gates

abbrev pub is_none : Option Wire → Bool
is_none None = true
is_none (Some w) = false

-- a measurement without a classical bit
abbrev pub lacks_bit : Gate → Bool
lacks_bit g = is_measurement (name_of g.kind) && is_none g.b

abbrev pub needs_spare : List Gate → Bool
needs_spare gates = list_any lacks_bit gates

-- what is written of gates over so many wires
abbrev pub lowered : ℕ → ℕ → List Gate → OpenText
lowered qubits cbits gates = record { qubits = qubits; cbits = cbits; spare = needs_spare gates; lines = lower gates }

-- the gate that a line is read as
abbrev pub back_line : Line → Gate
back_line (line.Gate g) = g
back_line (line.Reset a) = on_one (kind.PrepZ false) a
back_line (line.Measure a bit) = record { kind = kind.MeasZ; a = a; b = bit; c = None }

abbrev pub back : OpenText → List Gate
back t = map back_line t.lines

-- lowering loses nothing of a gate of this kind: no PrepX, no MeasX, no Fredkin and no start value 1
abbrev pub is_kept : Kind → Bool
is_kept (kind.PrepX start) = false
is_kept (kind.PrepZ true) = false
is_kept kind.MeasX = false
is_kept kind.Fredkin = false
is_kept _ = true
