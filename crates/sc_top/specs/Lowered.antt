-- The OpenQASM text of a list, and the stage from an OpenQASM text to its flat text.
use Rattle.std.specs.Prelude.{ℕ, List, Option, None, Some, Result}
use Rattle.sc_gate.specs.Lines.{flat_text}
use Rattle.sc_open.specs.Lowering.{lowered, back}
use Rattle.sc_open.specs.OpenReads.{IsInGrammar, IsOpenFault}
use Rattle.sc_open.specs.OpenTexts.{open_text}
use Rattle.sc_open.specs.declared.reader.OpenFault.{OpenFault}
use Rattle.sc_open.specs.declared.reader.OpenFault.TheVariants as opening
use Rattle.sc_open.specs.declared.text.OpenText.{OpenText}
use Rattle.sc_read.specs.declared.flat.FlatText.{FlatText}
use Rattle.sc_top.specs.Fault.{at_line}
use Rattle.sc_top.specs.Stages.{Gives}
use Rattle.sc_top.specs.declared.fault.Refusal.{Refusal}
use Rattle.sc_top.specs.declared.fault.Reason.TheVariants as reason

-- the registers and lines of a list: what its gates are lowered to, over its numbers of wires
abbrev pub lowered_list : FlatText → OpenText
lowered_list list = lowered list.qubits list.cbits list.gates

-- THE OPENQASM TEXT of a list
abbrev pub lowered_text : FlatText → List ℕ
lowered_text list = open_text (lowered_list list)

-- an OpenQASM text that is not read for this reason
abbrev pub open_refusal : OpenFault → Option Refusal
open_refusal (opening.BadOpen line) = Some (at_line reason.BadOpen line)
open_refusal opening.Memory = None

-- the registers and lines of a text in the grammar of OpenQASM
abbrev pub IsOpened : List ℕ → Result OpenText Refusal → Type 0
IsOpened text = Gives (IsInGrammar text) (IsOpenFault text) open_refusal

-- THE FLAT TEXT of an OpenQASM text: the gates that its lines are read as, over its numbers of wires
abbrev pub back_text : OpenText → List ℕ
back_text opened = flat_text opened.qubits opened.cbits (back opened)
