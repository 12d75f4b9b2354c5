-- The stages from a flat text and a schedule text to a verdict, and its line.
use Rattle.std.specs.Prelude.{◌≡◌, ◌↔◌, ℕ, List, ◌++◌, Result, Ok, codes, decimal, length}
use Rattle.sc_check.specs.Finding.{finding}
use Rattle.sc_check.specs.ReadFaults.{IsReadFault}
use Rattle.sc_check.specs.declared.finding.Finding.{Finding}
use Rattle.sc_check.specs.declared.finding.Finding.TheVariants.{Legal, Missing, Twice, Early, TooManyRegions, TooWideRegion, MixedKinds}
use Rattle.sc_gate.specs.declared.gate.Gate.{Gate}
use Rattle.sc_read.specs.FlatReads.{IsFlatText, IsFlatFault}
use Rattle.sc_read.specs.declared.flat.FlatText.{FlatText}
use Rattle.sc_sched.specs.Legal.{IsLegal}
use Rattle.sc_sched.specs.Text.{IsTextOf}
use Rattle.sc_sched.specs.declared.plan.Plan.{Plan}
use Rattle.sc_top.specs.Endings.{Output}
use Rattle.sc_top.specs.Fault.{flat_refusal, plan_refusal}
use Rattle.sc_top.specs.Stages.{Then, Is, Gives}
use Rattle.sc_top.specs.declared.fault.Refusal.{Refusal}
use Rattle.sc_top.specs.declared.status.Ending.{Ending}
use Rattle.sc_top.specs.declared.status.Ending.TheVariants as ending

-- the numbers and the gates of a flat text
abbrev pub IsList : List ℕ → Result FlatText Refusal → Type 0
IsList text = Gives (IsFlatText text) (IsFlatFault text) flat_refusal

-- the schedule of a text, for so many gates
abbrev pub IsPlan : ℕ → List ℕ → Result Plan Refusal → Type 0
IsPlan gates text = Gives (IsTextOf gates text) (IsReadFault gates text) plan_refusal

-- the verdict on the schedule of the second text, for the gates of the first
abbrev pub IsVerdict : List ℕ → List ℕ → Result Finding Refusal → Type 0
IsVerdict flat schedule = Then (IsList flat) (λ list. Then (IsPlan (length list.gates) schedule) (λ plan. Is (Ok (finding list.gates plan))))

-- for a schedule that is read, the verdict is `legal` exactly where the schedule is legal
abbrev pub VerdictsAreExact : Type 0
VerdictsAreExact = (text : List ℕ) (gates : List Gate) (plan : Plan) → IsTextOf (length gates) text plan → (finding gates plan ≡ Legal) ↔ IsLegal gates plan.k plan.d plan.steps

-- the line of a verdict
abbrev pub finding_text : Finding → List ℕ
finding_text Legal = codes "legal\n"
finding_text (Missing p) = codes "missing " ++ decimal p ++ codes "\n"
finding_text (Twice p) = codes "twice " ++ decimal p ++ codes "\n"
finding_text (Early p) = codes "early " ++ decimal p ++ codes "\n"
finding_text (TooManyRegions s) = codes "regions " ++ decimal s ++ codes "\n"
finding_text (TooWideRegion s) = codes "wide " ++ decimal s ++ codes "\n"
finding_text (MixedKinds s) = codes "mixed " ++ decimal s ++ codes "\n"

abbrev pub finding_ends : Finding → Ending
finding_ends Legal = ending.Done
finding_ends _ = ending.NotLegal

abbrev pub judged : Finding → Output
judged found = record { text = finding_text found; ends = finding_ends found }
