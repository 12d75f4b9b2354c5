-- Texts of lists of lines and gates, piece by piece.
use Rattle.std.proofs.Common.{◌≡◌, ℕ, List, [], ◌∷◌, ◌++◌, length, map, refl, ap, ◌∙◌}
use Rattle.std.specs.Prelude.{flat_map}
use Rattle.std.proofs.lemmas.List.{length-map}
use Rattle.std.proofs.lemmas.List.Concat.{flat_map-append}
use Rattle.sc_gate.specs.declared.gate.Gate.{Gate}
use Rattle.sc_gate.specs.Lines.{gate_line, gate_lines, flat_header, flat_text}
use Rattle.sc_open.specs.declared.line.Line.{Line}
use Rattle.sc_open.specs.Lowering.{lower, lower_gate, back_line}
use Rattle.sc_open.specs.OpenTexts.{line_text, lines_text}

-- the text of the lines of one gate
abbrev pub lowered_text : Gate → List ℕ
lowered_text g = lines_text (lower_gate g)

pub lower_pieces : (gates : List Gate) → lines_text (lower gates) ≡ flat_map lowered_text gates
lower_pieces [] = refl
lower_pieces (g ∷ gates) =
    flat_map-append line_text (lower_gate g) (lower gates) ∙ ap (λ (z : List ℕ). lowered_text g ++ z) (lower_pieces gates)

-- the gate line of the gate that a line is read as
abbrev pub back_text : Line → List ℕ
back_text l = gate_line (back_line l)

pub back_pieces : (lines : List Line) → gate_lines (map back_line lines) ≡ flat_map back_text lines
back_pieces [] = refl
back_pieces (l ∷ lines) = ap (λ (z : List ℕ). back_text l ++ z) (back_pieces lines)

pub back_header : (qubits cbits : ℕ) (lines : List Line) →
    flat_text qubits cbits (map back_line lines) ≡ flat_header qubits cbits (length lines) ++ gate_lines (map back_line lines)
back_header qubits cbits lines =
    ap (λ (z : ℕ). flat_header qubits cbits z ++ gate_lines (map back_line lines)) (length-map lines back_line)
