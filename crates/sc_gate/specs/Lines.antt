-- Gate lines and flat texts.
use Rattle.std.specs.Prelude.{ℕ, Bool, true, false, List, [], ◌∷◌, ◌++◌, map, codes, decimal, length, flat_map}
use Rattle.std.specs.List.{join_with_byte}
use Rattle.sc_base.specs.declared.names.Class.{Class}
use Rattle.sc_base.specs.declared.names.Class.TheVariants.{Q, C}
use Rattle.sc_base.specs.GateNames.{gate_text}
use Rattle.sc_gate.specs.declared.gate.Wire.{Wire}
use Rattle.sc_gate.specs.declared.gate.Kind.{Kind}
use Rattle.sc_gate.specs.declared.gate.Kind.TheVariants as kind
use Rattle.sc_gate.specs.declared.gate.Gate.{Gate}
use Rattle.sc_base.specs.Decimals.{fixed_text}
pub use Rattle.sc_base.specs.Numerals.{number_line}
use Rattle.sc_gate.specs.Gates.{name_of, operands}

-- `q` for a qubit and `c` for a classical bit
abbrev pub class_letter : Class → ℕ
class_letter Q = 113
class_letter C = 99

-- the letter of the class, and the number
abbrev pub wire_text : Wire → List ℕ
wire_text wire = class_letter wire.class ∷ decimal wire.number

-- `0` or `1`
abbrev pub start_text : Bool → List ℕ
start_text false = codes "0"
start_text true = codes "1"

-- the angle or the start value, where the kind has one
abbrev pub value_texts : Kind → List (List ℕ)
value_texts (kind.Rx angle) = fixed_text angle.0 ∷ []
value_texts (kind.Ry angle) = fixed_text angle.0 ∷ []
value_texts (kind.Rz angle) = fixed_text angle.0 ∷ []
value_texts (kind.PrepX start) = start_text start ∷ []
value_texts (kind.PrepZ start) = start_text start ∷ []
value_texts _ = []

-- each with a comma before it
abbrev pub after_commas : List (List ℕ) → List ℕ
after_commas texts = flat_map (λ text. 44 ∷ text) texts

-- the name, a space, the operands and then the angle or start value, joined by commas, and a line feed
abbrev pub gate_line : Gate → List ℕ
gate_line gate =
    gate_text (name_of gate.kind) ++ codes " " ++ join_with_byte 44 (map wire_text (operands gate) ++ value_texts gate.kind) ++ codes "\n"

-- the four lines before the gate lines of a flat text
abbrev pub flat_header : ℕ → ℕ → ℕ → List ℕ
flat_header qubits cbits gates =
    codes "flat 1\n" ++ number_line (codes "qbits") qubits ++ number_line (codes "cbits") cbits ++ number_line (codes "gates") gates

abbrev pub gate_lines : List Gate → List ℕ
gate_lines gates = flat_map gate_line gates

-- the flat text of so many qubits and classical bits and of these gates
abbrev pub flat_text : ℕ → ℕ → List Gate → List ℕ
flat_text qubits cbits gates = flat_header qubits cbits (length gates) ++ gate_lines gates
