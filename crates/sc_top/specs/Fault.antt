-- Why a request ends with a fault, and what it tells.
use Rattle.std.specs.Prelude.{◌≡◌, ℕ, Bool, true, List, [], ◌++◌, Option, None, Some, codes, decimal}
use Rattle.sc_base.specs.Causes.{Stood}
use Rattle.sc_base.specs.Output.{Wrote, WrotePrefix}
use Rattle.sc_base.specs.declared.Place.{Place}
use Rattle.sc_check.specs.declared.text_reader.SchedReadFault.{SchedReadFault}
use Rattle.sc_check.specs.declared.text_reader.SchedReadFault.TheVariants as planning
use Rattle.sc_count.specs.declared.tally.TallyFault.{TallyFault}
use Rattle.sc_count.specs.declared.tally.TallyFault.TheVariants as counting
use Rattle.sc_flat.specs.declared.preparing.PrepFault.{PrepFault}
use Rattle.sc_flat.specs.declared.preparing.PrepFault.TheVariants as sizing
use Rattle.sc_meaning.specs.declared.fault.ElabFault.{ElabFault}
use Rattle.sc_meaning.specs.declared.fault.ElabFault.TheVariants as running
use Rattle.sc_read.specs.declared.flat.FlatFault.{FlatFault}
use Rattle.sc_read.specs.declared.flat.FlatFault.TheVariants as listing
use Rattle.sc_read.specs.declared.hier.HierFault.{HierFault}
use Rattle.sc_read.specs.declared.hier.HierFault.TheVariants as reading
use Rattle.sc_syntax.specs.declared.LexFault.{LexFault}
use Rattle.sc_syntax.specs.declared.LexFault.TheVariants as lexing
use Rattle.sc_parse.specs.declared.source.ParseFault.{ParseFault}
use Rattle.sc_parse.specs.declared.source.ParseFault.TheVariants as parsing
use Rattle.sc_types.specs.declared.fault.TypeFault.{TypeFault}
use Rattle.sc_types.specs.declared.fault.TypeFault.TheVariants as typing
use Rattle.sc_top.specs.declared.fault.Fault.{Fault}
use Rattle.sc_top.specs.declared.fault.Fault.TheVariants as fault
use Rattle.sc_top.specs.declared.fault.Refusal.{Refusal}
use Rattle.sc_top.specs.declared.fault.Reason.{Reason}
use Rattle.sc_top.specs.declared.fault.Reason.TheVariants as reason
use Rattle.sc_top.specs.declared.fault.At.{At}
use Rattle.sc_top.specs.declared.fault.At.TheVariants as at
use Rattle.sc_top.specs.declared.fault.Weight.{Weight}
use Rattle.sc_top.specs.declared.fault.Weight.TheVariants as weight
use Rattle.sc_top.specs.declared.status.Status.{Status}
use Rattle.sc_top.specs.declared.status.Status.TheVariants as status

-- ---- the refusals

abbrev pub plain : Reason → Refusal
plain name = record { reason = name; at = at.Nowhere }

abbrev pub placed : Reason → Place → Refusal
placed name place = record { reason = name; at = at.InSource place }

abbrev pub at_line : Reason → ℕ → Refusal
at_line name line = record { reason = name; at = at.Line line }

abbrev pub at_gate : Reason → ℕ → Refusal
at_gate name position = record { reason = name; at = at.Gate position }

abbrev pub at_item : Reason → (instance position : ℕ) → Refusal
at_item name instance position = record { reason = name; at = at.Item instance position }

-- a source whose tokens have this fault is refused so
abbrev pub token_refusal : LexFault → Option Refusal
token_refusal (lexing.BadByte place) = Some (placed reason.BadByte place)
token_refusal (lexing.OpenComment place) = Some (placed reason.OpenComment place)
token_refusal (lexing.BadNumber place) = Some (placed reason.BadNumber place)
token_refusal (lexing.BadDefine place) = Some (placed reason.BadDefine place)
token_refusal (lexing.TooManyTokens place) = Some (placed reason.TooManyTokens place)
token_refusal lexing.Memory = None

-- a source whose tokens leave the grammar so
abbrev pub grammar_refusal : ParseFault → Option Refusal
grammar_refusal (parsing.Syntax place) = Some (placed reason.Syntax place)
grammar_refusal (parsing.TooNested place) = Some (placed reason.TooNested place)
grammar_refusal parsing.Memory = None

-- a source that is not well typed for this reason
abbrev pub type_refusal : TypeFault → Option Refusal
type_refusal (typing.UnknownName place) = Some (placed reason.UnknownName place)
type_refusal (typing.Redefined place) = Some (placed reason.Redefined place)
type_refusal (typing.WrongKind place) = Some (placed reason.WrongKind place)
type_refusal (typing.WrongCount place) = Some (placed reason.WrongCount place)
type_refusal (typing.MeasuredUse place) = Some (placed reason.MeasuredUse place)
type_refusal (typing.BadWidth place) = Some (placed reason.BadWidth place)
type_refusal typing.NoMain = Some (plain reason.NoMain)
type_refusal typing.Memory = None

-- a source whose run is refused for this reason
abbrev pub elab_refusal : ElabFault → Option Refusal
elab_refusal (running.Overflow place) = Some (placed reason.Overflow place)
elab_refusal (running.DivZero place) = Some (placed reason.DivZero place)
elab_refusal (running.OutOfRange place) = Some (placed reason.OutOfRange place)
elab_refusal (running.BadSize place) = Some (placed reason.BadSize place)
elab_refusal (running.BadLength place) = Some (placed reason.BadLength place)
elab_refusal (running.Repeated place) = Some (placed reason.Repeated place)
elab_refusal (running.TooWide place) = Some (placed reason.TooWide place)
elab_refusal (running.TooLong place) = Some (placed reason.TooLong place)
elab_refusal running.TooDeep = Some (plain reason.TooDeep)
elab_refusal running.TooManyInstances = Some (plain reason.TooManyInstances)
elab_refusal running.Memory = None

-- a flat text that is not read for this reason
abbrev pub flat_refusal : FlatFault → Option Refusal
flat_refusal listing.SchedTooLarge = Some (plain reason.SchedTooLarge)
flat_refusal (listing.BadQasm line) = Some (at_line reason.BadQasm line)
flat_refusal listing.Memory = None

-- a schedule text that is not read for this reason
abbrev pub plan_refusal : SchedReadFault → Option Refusal
plan_refusal (planning.BadSchedule line) = Some (at_line reason.BadSchedule line)
plan_refusal planning.Memory = None

-- a hierarchical text that is not read for this reason
abbrev pub hier_refusal : HierFault → Option Refusal
hier_refusal (reading.BadQasm line) = Some (at_line reason.BadQasm line)
hier_refusal (reading.TooWide line) = Some (at_line reason.TooWide line)
hier_refusal (reading.TooLong line) = Some (at_line reason.TooLong line)
hier_refusal (reading.TooDeep line) = Some (at_line reason.TooDeep line)
hier_refusal (reading.TooManyInstances line) = Some (at_line reason.TooManyInstances line)
hier_refusal reading.Memory = None

-- a deck that has no counts for this reason
abbrev pub count_refusal : TallyFault → Option Refusal
count_refusal counting.CountTooLarge = Some (plain reason.CountTooLarge)
count_refusal counting.Memory = None

-- a deck that has no flat text for this reason
abbrev pub size_refusal : PrepFault → Option Refusal
size_refusal sizing.TooManyWires = Some (plain reason.TooManyWires)
size_refusal sizing.TooManyGates = Some (plain reason.TooManyGates)
size_refusal sizing.Memory = None

-- ---- the status

-- what a reason weighs: a limit is passed, or the words do not fit the text, or the text is refused
abbrev pub weight_of : Reason → Weight
weight_of reason.SourceTooLarge = weight.Limit
weight_of reason.TooManyTokens = weight.Limit
weight_of reason.TooNested = weight.Limit
weight_of reason.TooWide = weight.Limit
weight_of reason.TooLong = weight.Limit
weight_of reason.TooDeep = weight.Limit
weight_of reason.TooManyInstances = weight.Limit
weight_of reason.CountTooLarge = weight.Limit
weight_of reason.TooManyWires = weight.Limit
weight_of reason.TooManyGates = weight.Limit
weight_of reason.SchedTooLarge = weight.Limit
weight_of reason.Narrow = weight.Usage
weight_of reason.NarrowItem = weight.Usage
weight_of _ = weight.Refused

abbrev pub weight_status : Weight → Status
weight_status weight.Refused = status.Refused
weight_status weight.Usage = status.Usage
weight_status weight.Limit = status.Limit

abbrev pub status_of : Fault → Status
status_of fault.Usage = status.Usage
status_of fault.ReadFault = status.ReadFailed
status_of fault.WriteFault = status.WriteFailed
status_of fault.Memory = status.Memory
status_of (fault.Refused refusal) = weight_status (weight_of refusal.reason)

-- ---- the line

abbrev pub reason_name : Reason → List ℕ
reason_name reason.SourceTooLarge = codes "SourceTooLarge"
reason_name reason.BadByte = codes "BadByte"
reason_name reason.OpenComment = codes "OpenComment"
reason_name reason.BadNumber = codes "BadNumber"
reason_name reason.BadDefine = codes "BadDefine"
reason_name reason.TooManyTokens = codes "TooManyTokens"
reason_name reason.Syntax = codes "Syntax"
reason_name reason.TooNested = codes "TooNested"
reason_name reason.UnknownName = codes "UnknownName"
reason_name reason.Redefined = codes "Redefined"
reason_name reason.WrongKind = codes "WrongKind"
reason_name reason.WrongCount = codes "WrongCount"
reason_name reason.MeasuredUse = codes "MeasuredUse"
reason_name reason.BadWidth = codes "BadWidth"
reason_name reason.NoMain = codes "NoMain"
reason_name reason.Overflow = codes "Overflow"
reason_name reason.DivZero = codes "DivZero"
reason_name reason.OutOfRange = codes "OutOfRange"
reason_name reason.BadSize = codes "BadSize"
reason_name reason.BadLength = codes "BadLength"
reason_name reason.Repeated = codes "Repeated"
reason_name reason.BadQasm = codes "BadQasm"
reason_name reason.BadSchedule = codes "BadSchedule"
reason_name reason.TooWide = codes "TooWide"
reason_name reason.TooLong = codes "TooLong"
reason_name reason.TooDeep = codes "TooDeep"
reason_name reason.TooManyInstances = codes "TooManyInstances"
reason_name reason.CountTooLarge = codes "CountTooLarge"
reason_name reason.TooManyWires = codes "TooManyWires"
reason_name reason.TooManyGates = codes "TooManyGates"
reason_name reason.SchedTooLarge = codes "SchedTooLarge"
reason_name reason.BadOpen = codes "BadOpen"
reason_name reason.Narrow = codes "Narrow"
reason_name reason.NarrowItem = codes "NarrowItem"

-- the line, a colon, the column, a colon and a space
abbrev pub place_text : Place → List ℕ
place_text place = decimal place.line ++ codes ":" ++ decimal place.column ++ codes ": "

-- where a refusal stands in a text, before its name
abbrev pub at_text : At → List ℕ
at_text at.Nowhere = []
at_text (at.InSource place) = place_text place
at_text (at.Line line) = codes "line " ++ decimal line ++ codes ": "
at_text (at.Gate position) = []
at_text (at.Item instance position) = []

-- where it stands in a list, behind its name
abbrev pub behind_text : At → List ℕ
behind_text at.Nowhere = []
behind_text (at.InSource place) = []
behind_text (at.Line line) = []
behind_text (at.Gate position) = codes " " ++ decimal position
behind_text (at.Item instance position) = codes " " ++ decimal instance ++ codes " " ++ decimal position

abbrev pub fault_text : Fault → List ℕ
fault_text fault.Usage = codes "Usage"
fault_text fault.ReadFault = codes "ReadFault"
fault_text fault.WriteFault = codes "WriteFault"
fault_text fault.Memory = codes "Memory"
fault_text (fault.Refused refusal) = at_text refusal.at ++ reason_name refusal.reason ++ behind_text refusal.at

-- `scaff: `, where the fault stands, and its name, on a line
abbrev pub fault_line : Fault → List ℕ
fault_line f = codes "scaff: " ++ fault_text f ++ codes "\n"

-- a prefix of the line was written, and where no fault of the sink was counted the whole line, and the sink is ended
pub record Tells {S : Type 0} (tells : S → Bool) (bytes : S → List ℕ) (is_ended : S → Bool) (faults : S → ℕ) (old new : S) (line : List ℕ) : Type 0 where
  pub prefix : WrotePrefix tells bytes old new line
  pub whole : Stood (faults old) (faults new) → Wrote tells bytes old new line
  pub ends : Stood (faults old) (faults new) → is_ended new ≡ true
