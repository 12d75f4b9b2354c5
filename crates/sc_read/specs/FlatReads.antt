-- What the reader of flat texts answers.
use Rattle.std.specs.Prelude.{◌≡◌, ℕ, ◌<◌, ◌≤◌, ◌-◌, nat_le, if◌then◌else◌, Option, Some, None, List, [], ◌∷◌, ◌++◌}
use Rattle.sc_base.specs.Limits.{most_gates}
use Rattle.sc_base.specs.declared.reader.Whole.{Whole}
use Rattle.sc_base.specs.declared.reader.Whole.TheVariants.{Fits, Past}
use Rattle.sc_base.specs.Lines.{IsReadWhole, IsFirstBad, IsFirstBreak}
use Rattle.sc_gate.specs.declared.gate.Gate.{Gate}
use Rattle.sc_gate.specs.Numbers.{Numbers}
use Rattle.sc_read.specs.declared.flat.FlatText.{FlatText}
use Rattle.sc_read.specs.declared.flat.FlatFault.{FlatFault}
use Rattle.sc_read.specs.declared.flat.FlatFault.TheVariants.{SchedTooLarge, BadQasm, Memory}
use Rattle.sc_read.specs.declared.flat.BodyLine.{BodyLine}
use Rattle.sc_read.specs.declared.flat.BodyLine.TheVariants.{PassedOver, OneGate}
use Rattle.sc_read.specs.FlatStages.{Stage, Title, Body, TooManyGates, GatesLine, Goes, Breaks, MayEnd}
use Rattle.sc_read.specs.GateFronts.{counts}

-- the text is in the grammar, and these are its numbers of wires and its gates
abbrev pub IsFlatText : List ℕ → FlatText → Type 0
IsFlatText text f = IsReadWhole Goes MayEnd Title text (Body (counts f.qubits f.cbits) 0 f.gates)

-- the line, from 1, is the first that is not in its place
abbrev pub IsBadLine : List ℕ → ℕ → Type 0
IsBadLine text line = IsFirstBad Goes Breaks MayEnd Title text 1 line

-- the first line that passes a limit is the one of the number of gates
abbrev pub HasTooManyGates : List ℕ → Type 0
HasTooManyGates text = (line : ℕ) × IsFirstBreak Goes Breaks Title text 1 line TooManyGates

abbrev pub IsFlatFault : List ℕ → FlatFault → Type 0
IsFlatFault text SchedTooLarge = HasTooManyGates text
IsFlatFault text (BadQasm line) = IsBadLine text line
IsFlatFault text Memory = Unit {0}

-- the same of a text behind its four first lines, where so many gates have to follow
abbrev pub IsBodyFault : Numbers → ℕ → List ℕ → FlatFault → Type 0
IsBodyFault wires count text SchedTooLarge = ⊥
IsBodyFault wires count text (BadQasm line) = IsFirstBad Goes Breaks MayEnd (Body wires count []) text 5 line
IsBodyFault wires count text Memory = Unit {0}

-- the number of gates where it is within the limit, or that it is not
abbrev pub IsCount : Option ℕ → ℕ → Type 0
IsCount (Some count) number = (count ≡ number) × (number ≤ most_gates)
IsCount None number = most_gates < number

-- the text begins with the line of a number of gates
pub record GatesFront (text : List ℕ) (count : Option ℕ) (rest : List ℕ) : Type 0 where
  pub line : List ℕ
  pub number : ℕ
  pub joined : text ≡ line ++ rest
  pub line_is : GatesLine line number
  pub count_is : IsCount count number

-- the stage behind a line of the body
abbrev pub after_line : Numbers → ℕ → List Gate → BodyLine → Stage
after_line wires left gates PassedOver = Body wires left gates
after_line wires left gates (OneGate g) = Body wires (left - 1) (gates ++ g ∷ [])

-- a gate comes only where one has to follow
abbrev pub IsGateWithin : ℕ → BodyLine → Type 0
IsGateWithin left PassedOver = Unit {0}
IsGateWithin left (OneGate g) = 0 < left

abbrev pub count_within : Whole → Option ℕ
count_within (Fits count) = if nat_le count most_gates then Some count else None
count_within Past = None
