-- The text of registers and lines.
use Rattle.std.specs.Prelude.{ℕ, Bool, nat_eq, if◌then◌else◌, Option, Some, None, List, [], ◌∷◌, ◌++◌, flat_map, codes, decimal}
use Rattle.sc_base.specs.Decimals.{fixed_text}
use Rattle.sc_base.specs.declared.names.GateName.{GateName}
use Rattle.sc_base.specs.declared.names.GateName.TheVariants as name
use Rattle.sc_gate.specs.declared.gate.Wire.{Wire}
use Rattle.sc_gate.specs.declared.gate.Kind.{Kind}
use Rattle.sc_gate.specs.declared.gate.Kind.TheVariants as kind
use Rattle.sc_gate.specs.declared.gate.Gate.{Gate}
use Rattle.sc_gate.specs.Gates.{name_of}
use Rattle.sc_gate.specs.Lines.{class_letter}
use Rattle.sc_open.specs.declared.line.Line.{Line}
use Rattle.sc_open.specs.declared.line.Line.TheVariants as line
use Rattle.sc_open.specs.declared.text.OpenText.{OpenText}

-- What the line of a gate of this name begins with: the name and a space, or at a rotation the name and a parenthesis. A reset
-- stands for PrepZ, and a measurement for MeasZ. The other names have no line.
abbrev pub line_word : GateName → List ℕ
line_word name.X = codes "x "
line_word name.Y = codes "y "
line_word name.Z = codes "z "
line_word name.H = codes "h "
line_word name.S = codes "s "
line_word name.T = codes "t "
line_word name.Sdag = codes "sdg "
line_word name.Tdag = codes "tdg "
line_word name.Cnot = codes "cx "
line_word name.Toffoli = codes "ccx "
line_word name.Rx = codes "rx("
line_word name.Ry = codes "ry("
line_word name.Rz = codes "rz("
line_word name.PrepZ = codes "reset "
line_word name.MeasZ = codes "measure "
line_word _ = []

-- the angle of a rotation, the parenthesis and a space
abbrev pub angle_text : Kind → List ℕ
angle_text (kind.Rx angle) = fixed_text angle.0 ++ codes ") "
angle_text (kind.Ry angle) = fixed_text angle.0 ++ codes ") "
angle_text (kind.Rz angle) = fixed_text angle.0 ++ codes ") "
angle_text _ = []

-- `q` or `c`, and the number in brackets
abbrev pub operand_text : Wire → List ℕ
operand_text w = class_letter w.class ∷ (codes "[" ++ decimal w.number ++ codes "]")

-- a comma and the operand, where there is one
abbrev pub next_text : Option Wire → List ℕ
next_text None = []
next_text (Some w) = codes "," ++ operand_text w

-- where the outcome of a measurement goes
abbrev pub bit_text : Option Wire → List ℕ
bit_text None = codes "u[0]"
bit_text (Some w) = operand_text w

abbrev pub gate_text : Gate → List ℕ
gate_text g = line_word (name_of g.kind) ++ angle_text g.kind ++ operand_text g.a ++ next_text g.b ++ next_text g.c ++ codes ";\n"

abbrev pub line_text : Line → List ℕ
line_text (line.Gate g) = gate_text g
line_text (line.Reset a) = codes "reset " ++ operand_text a ++ codes ";\n"
line_text (line.Measure a bit) = codes "measure " ++ operand_text a ++ codes " -> " ++ bit_text bit ++ codes ";\n"

abbrev pub lines_text : List Line → List ℕ
lines_text lines = flat_map line_text lines

-- the declaration of a register, from what stands before its size
abbrev pub register_line : List ℕ → ℕ → List ℕ
register_line front size = front ++ decimal size ++ codes "];\n"

-- no register of size 0 is declared
abbrev pub register_text : List ℕ → ℕ → List ℕ
register_text front size = if nat_eq size 0 then [] else register_line front size

abbrev pub qubits_front : List ℕ
qubits_front = codes "qreg q["

abbrev pub cbits_front : List ℕ
cbits_front = codes "creg c["

abbrev pub spare_line : List ℕ
spare_line = codes "creg u[1];\n"

abbrev pub registers_text : ℕ → ℕ → Bool → List ℕ
registers_text qubits cbits spare =
    register_text qubits_front qubits ++ register_text cbits_front cbits ++ (if spare then spare_line else [])

abbrev pub title_line : List ℕ
title_line = codes "OPENQASM 2.0;\n"

abbrev pub include_line : List ℕ
include_line = codes "include \"qelib1.inc\";\n"

abbrev pub open_text : OpenText → List ℕ
open_text t = title_line ++ include_line ++ registers_text t.qubits t.cbits t.spare ++ lines_text t.lines
