-- OpenQASM texts, line by line: which lines may stand where.
use Rattle.std.specs.Prelude.{◌≡◌, ℕ, ◌≤◌, Bool, true, false, Some, None, List, [], ◌∷◌, ◌++◌}
use Rattle.std.specs.List.{AllByRecursion}
use Rattle.sc_base.specs.Limits.{most_flat_wires}
use Rattle.sc_gate.specs.declared.gate.Kind.{Kind}
use Rattle.sc_gate.specs.declared.gate.Kind.TheVariants as kind
use Rattle.sc_gate.specs.declared.gate.Gate.{Gate}
use Rattle.sc_gate.specs.Gates.{operands}
use Rattle.sc_gate.specs.Numbers.{Numbers, AreThere}
use Rattle.sc_gate.specs.Texts.{HasLine}
use Rattle.sc_open.specs.declared.line.Line.{Line}
use Rattle.sc_open.specs.declared.line.Line.TheVariants as line
use Rattle.sc_open.specs.declared.text.OpenText.{OpenText}
use Rattle.sc_open.specs.declared.reader.Part.{Part}
use Rattle.sc_open.specs.declared.reader.Part.TheVariants as part
use Rattle.sc_open.specs.Lowering.{back_line}
use Rattle.sc_open.specs.OpenTexts.{line_text, register_line, qubits_front, cbits_front, spare_line, title_line, include_line}

-- so many wires
abbrev pub counts : ℕ → ℕ → Numbers
counts qubits cbits = record { qubits = qubits; cbits = cbits }

-- neither a preparation nor a measurement nor a Fredkin
abbrev pub is_open_kind : Kind → Bool
is_open_kind (kind.PrepX start) = false
is_open_kind (kind.PrepZ start) = false
is_open_kind kind.MeasX = false
is_open_kind kind.MeasZ = false
is_open_kind kind.Fredkin = false
is_open_kind _ = true

-- the line is of its form, and the register `u` is there where it is named
abbrev pub IsFormed : Bool → Line → Type 0
IsFormed spare (line.Gate g) = is_open_kind g.kind ≡ true
IsFormed spare (line.Reset a) = Unit {0}
IsFormed spare (line.Measure a None) = spare ≡ true
IsFormed spare (line.Measure a (Some bit)) = Unit {0}

-- A line that may stand over so many wires: of its form, and read as a gate that is well formed, with an angle of 64 bits, and over
-- wires that are there.
pub record IsNextLine (wires : Numbers) (spare : Bool) (l : Line) : Type 0 where
  pub formed : IsFormed spare l
  pub has_line : HasLine (back_line l)
  pub there : AreThere wires (operands (back_line l))

-- a gate that a gate list over so many wires may have: well formed, with an angle of 64 bits, and over wires that are there
pub record IsNextGate (wires : Numbers) (g : Gate) : Type 0 where
  pub has_line : HasLine g
  pub there : AreThere wires (operands g)

-- nothing was read yet
abbrev pub no_text : OpenText
no_text = record { qubits = 0; cbits = 0; spare = false; lines = [] }

-- the text of a declaration or of a line
abbrev pub part_text : Part → List ℕ
part_text (part.Qubits size) = register_line qubits_front size
part_text (part.Cbits size) = register_line cbits_front size
part_text part.Spare = spare_line
part_text (part.One l) = line_text l

-- a register has a place and is within the bound
abbrev pub IsSize : ℕ → Type 0
IsSize size = (1 ≤ size) × (size ≤ most_flat_wires)

-- The registers `q`, `c` and `u` are declared in this order, each at most once, and before the first line.
abbrev pub MayFollow : OpenText → Part → Type 0
MayFollow t (part.Qubits size) = IsSize size × (t ≡ no_text)
MayFollow t (part.Cbits size) = IsSize size × (t ≡ record no_text { qubits = t.qubits })
MayFollow t part.Spare = t ≡ record no_text { qubits = t.qubits; cbits = t.cbits }
MayFollow t (part.One l) = IsNextLine (counts t.qubits t.cbits) t.spare l

-- what was read, with one more declaration or line
abbrev pub with_part : OpenText → Part → OpenText
with_part t (part.Qubits size) = record t { qubits = size }
with_part t (part.Cbits size) = record t { cbits = size }
with_part t part.Spare = record t { spare = true }
with_part t (part.One l) = record t { lines = t.lines ++ l ∷ [] }

-- What was read so far, and with it which lines may stand next: one of the two at the front; or a declaration or line, behind
-- these registers and lines.
pub data Stage : Type 0 where
  Title : Stage
  Include : Stage
  Behind : OpenText → Stage

-- one more declaration or line
pub record Adds (t : OpenText) (text : List ℕ) (next : Stage) : Type 0 where
  pub more : Part
  pub may_follow : MayFollow t more
  pub text_is : text ≡ part_text more
  pub next_is : next ≡ Behind (with_part t more)

-- a line is in its place, and this is the stage behind it
abbrev pub Goes : Stage → List ℕ → Stage → Type 0
Goes Title text next = (text ≡ title_line) × (next ≡ Include)
Goes Include text next = (text ≡ include_line) × (next ≡ Behind no_text)
Goes (Behind t) text next = Adds t text next

-- a text may end behind its second line
abbrev pub MayEnd : Stage → Type 0
MayEnd (Behind t) = Unit {0}
MayEnd stage = ⊥

-- the numbers of wires are within the bound, and each line may stand over them
pub record IsSound (t : OpenText) : Type 0 where
  pub qubits : t.qubits ≤ most_flat_wires
  pub cbits : t.cbits ≤ most_flat_wires
  pub lines : AllByRecursion (IsNextLine (counts t.qubits t.cbits) t.spare) t.lines
