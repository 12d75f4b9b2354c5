-- What a request is answered.
use Rattle.std.specs.Prelude.{◌≡◌, ℕ, ◌<◌, ◌≤◌, Bool, List, [], ◌++◌, Option, None, Some, Result, Ok, Err, length, is_some}
use Rattle.sc_base.specs.Limits.{most_source_bytes, most_text_bytes}
use Rattle.sc_count.specs.Limits.{IsWithin}
use Rattle.sc_check.specs.declared.finding.Finding.{Finding}
use Rattle.sc_open.specs.OpenReads.{IsInGrammar}
use Rattle.sc_open.specs.declared.text.OpenText.{OpenText}
use Rattle.sc_top.specs.Coarsened.{IsCoarsened, IsCoarsenable, coarsened_text}
use Rattle.sc_top.specs.declared.coarsened.Coarsened.{Coarsened}
use Rattle.sc_top.specs.Drills.{drill_text, drill_summary}
use Rattle.sc_top.specs.Listed.{IsListed, IsListable}
use Rattle.sc_top.specs.Lowered.{IsOpened, lowered_text, back_text}
use Rattle.sc_top.specs.Shortened.{IsShortened}
use Rattle.sc_top.specs.Tallied.{IsSummarized, durations}
use Rattle.sc_top.specs.declared.report.Summary.{Summary}
use Rattle.sc_deck.specs.Events.{flat, gates_in}
use Rattle.sc_deck.specs.Hierarchical.{hier}
use Rattle.sc_deck.specs.Modules.{Module}
use Rattle.sc_meaning.specs.declared.choice.Choice.{Choice}
use Rattle.sc_meaning.specs.declared.choice.Choice.TheVariants.{Replace}
use Rattle.sc_read.specs.FlatReads.{IsFlatText}
use Rattle.sc_read.specs.HierReads.{IsHierText}
use Rattle.sc_read.specs.declared.flat.FlatText.{FlatText}
use Rattle.sc_sched.specs.Text.{IsTextOf, schedule_text}
use Rattle.sc_sched.specs.declared.plan.Plan.{Plan}
use Rattle.sc_types.specs.Typing.{TypedSource}
use Rattle.sc_top.specs.Carried.{Carried}
use Rattle.sc_top.specs.Endings.{Output}
use Rattle.sc_top.specs.Expansions.{whole, ones, counts_by, IsWritable, IsExpansion, FitsFlat}
use Rattle.sc_top.specs.Fault.{plain}
use Rattle.sc_top.specs.Sources.{modules_of, IsSource, IsAcceptedAs}
use Rattle.sc_top.specs.Reports.{report_text}
use Rattle.sc_top.specs.Scheduled.{IsScheduled, IsSchedulable}
use Rattle.sc_top.specs.Stages.{Then, Is, HasOne}
use Rattle.sc_top.specs.Verdicts.{IsVerdict, judged}
use Rattle.sc_top.specs.Watching.{Watcher, asked_of, probe_lines, AreSome}
use Rattle.sc_top.specs.declared.fault.Fault.{Fault}
use Rattle.sc_top.specs.declared.fault.Refusal.{Refusal}
use Rattle.sc_top.specs.declared.fault.Reason.TheVariants as reason
use Rattle.sc_words.specs.Words.{request}
use Rattle.sc_words.specs.declared.Request.{Request}
use Rattle.sc_words.specs.declared.Request.TheVariants.{Hier, Flat, Count, Schedule, Expand, Check, Drill, Coarse, ToOpen, FromOpen, Cancel}
use Rattle.sc_top.specs.declared.status.Ending.{Ending}
use Rattle.sc_top.specs.declared.status.Ending.TheVariants as ending

-- ---- the answer of a request

-- the text under the name, of at most so many bytes; a name under which no text is held has no answer
abbrev pub IsText : (List ℕ → Option (List ℕ)) → ℕ → List ℕ → Result (List ℕ) Refusal → Type 0
IsText held most file (Ok text) = (held file ≡ Some text) × (length text ≤ most)
IsText held most file (Err refusal) = (text : List ℕ) × (held file ≡ Some text) × (most < length text) × (refusal ≡ plain reason.SourceTooLarge)

-- the deck of the source under the name
abbrev pub SourceOf : (List ℕ → Option (List ℕ)) → List ℕ → Choice → Result (List Module) Refusal → Type 0
SourceOf held file choice = Then (IsText held most_source_bytes file) (IsSource choice)

-- the same, where its flat text is within the limits and has at most so many gates
abbrev pub FlatOf : (List ℕ → Option (List ℕ)) → List ℕ → Choice → ℕ → Result (List Module) Refusal → Type 0
FlatOf held file choice limit = Then (SourceOf held file choice) (IsWritable limit)

-- the numbers of the source under the name, by these durations
abbrev pub SummaryOf : (List ℕ → Option (List ℕ)) → List ℕ → Choice → Option (List ℕ) → Result Summary Refusal → Type 0
SummaryOf held file choice times = Then (SourceOf held file choice) (IsSummarized (durations times))

-- the schedule of the source under the name, on k regions of d qubits
abbrev pub PlanOf : (List ℕ → Option (List ℕ)) → List ℕ → Choice → ℕ → ℕ → Bool → Option (List ℕ) → Result Plan Refusal → Type 0
PlanOf held file choice k d lpfs times = Then (SourceOf held file choice) (IsScheduled k d lpfs (durations times))

-- the coarse schedules of the source under the name, on k regions of d qubits
abbrev pub CoarseOf : (List ℕ → Option (List ℕ)) → List ℕ → Choice → ℕ → ℕ → Bool → Result Coarsened Refusal → Type 0
CoarseOf held file choice k d lpfs = Then (SourceOf held file choice) (IsCoarsened k d lpfs)

-- the list of gates of the source under the name
abbrev pub ListOf : (List ℕ → Option (List ℕ)) → List ℕ → Choice → Result FlatText Refusal → Type 0
ListOf held file choice = Then (SourceOf held file choice) (IsListed ones)

-- the text of that list without the pairs that undo each other, and of the lines of these probes
abbrev pub ShortenedOf : (List ℕ → Option (List ℕ)) → List Watcher → List ℕ → Choice → Result (List ℕ) Refusal → Type 0
ShortenedOf held all file choice = Then (SourceOf held file choice) (IsShortened all)

-- the registers and lines of the OpenQASM text under the name
abbrev pub OpenedOf : (List ℕ → Option (List ℕ)) → List ℕ → Result OpenText Refusal → Type 0
OpenedOf held file = Then (IsText held most_text_bytes file) IsOpened

-- the numbers of the deck of the source that a drill of n makes
abbrev pub DrilledOf : ℕ → Result Summary Refusal → Type 0
DrilledOf n = Then (IsSource Replace (drill_text n)) (IsSummarized ones)

-- the deck of the hierarchical text under the name, whose flat text has at most so many gates
abbrev pub ExpansionOf : (List ℕ → Option (List ℕ)) → ℕ → List ℕ → Result (List Module) Refusal → Type 0
ExpansionOf held limit file = Then (IsText held most_text_bytes file) (IsExpansion limit)

-- the verdict on the schedule under the second name, for the gates of the flat text under the first; both texts stand
-- before either is looked at
abbrev pub VerdictOf : (List ℕ → Option (List ℕ)) → List ℕ → List ℕ → Result Finding Refusal → Type 0
VerdictOf held list schedule = Then (IsText held most_text_bytes list) (λ gates. Then (IsText held most_text_bytes schedule) (λ plan. IsVerdict gates plan))

abbrev pub done : List ℕ → Output
done text = record { text = text; ends = ending.Done }

-- the flat text of a deck, and behind it the lines of these probes
abbrev pub watched : List Watcher → List Module → Output
watched all modules = done (flat (whole modules) ++ probe_lines (gates_in (whole modules)) all)

-- the probes that the request asks for
abbrev pub asked_in : Request → List Watcher → List Watcher
asked_in (Flat file choice limit kinds burst window reach) all = asked_of (record { kinds = kinds; burst = burst; window = window; reach = reach }) all
asked_in _ all = []

-- THE ANSWER of a request over the held texts and the probes that are handed in, where memory is found and no call of shelf or sink
-- fails.
abbrev pub Says : (List ℕ → Option (List ℕ)) → List Watcher → Request → Result Output Refusal → Type 0
Says held all (Hier file choice) = Then (SourceOf held file choice) (λ modules. Is (Ok (done (hier modules))))
Says held all (Flat file choice limit kinds burst window reach) =
    Then (FlatOf held file choice limit) (λ modules. Is (Ok (watched (asked_of (record { kinds = kinds; burst = burst; window = window; reach = reach }) all) modules)))
Says held all (Count file choice times) = Then (SummaryOf held file choice times) (λ s. Is (Ok (done (report_text (is_some times) s))))
Says held all (Schedule file choice k d lpfs times) = Then (PlanOf held file choice k d lpfs times) (λ plan. Is (Ok (done (schedule_text plan))))
Says held all (Expand file limit) = Then (ExpansionOf held limit file) (λ modules. Is (Ok (done (flat (whole modules)))))
Says held all (Check list schedule) = Then (VerdictOf held list schedule) (λ found. Is (Ok (judged found)))
Says held all (Drill n) = Then (DrilledOf n) (λ summary. Is (Ok (done (drill_summary n summary))))
Says held all (Coarse file choice k d lpfs) = Then (CoarseOf held file choice k d lpfs) (λ c. Is (Ok (done (coarsened_text k d c))))
Says held all (ToOpen file choice) = Then (ListOf held file choice) (λ list. Is (Ok (done (lowered_text list))))
Says held all (FromOpen file) = Then (OpenedOf held file) (λ opened. Is (Ok (done (back_text opened))))
Says held all (Cancel file choice kinds burst window reach) =
    Then (ShortenedOf held (asked_of (record { kinds = kinds; burst = burst; window = window; reach = reach }) all) file choice) (λ text. Is (Ok (done text)))

-- memory may be wanting after the first byte of output: where a probe that was handed in is asked for
abbrev pub IsLate : List Watcher → Request → Type 0
IsLate all job = AreSome (asked_in job all)

-- then exactly the flat text stands
abbrev pub Leaves : (List ℕ → Option (List ℕ)) → Request → List ℕ → Type 0
Leaves held (Flat file choice limit kinds burst window reach) text = (modules : List Module) × FlatOf held file choice limit (Ok modules) × (text ≡ flat (whole modules))
Leaves held _ text = ⊥

-- ---- the words and their answers

-- this is so of the request, where there is one
abbrev pub OfRequest : (Request → Type 0) → Option Request → Type 0
OfRequest So None = ⊥
OfRequest So (Some job) = So job

abbrev pub Answers : (List ℕ → Option (List ℕ)) → List Watcher → List (List ℕ) → Result Output Refusal → Type 0
Answers held all words answer = OfRequest (λ job. Says held all job answer) (request words)

abbrev pub MayBeLate : List Watcher → List (List ℕ) → Type 0
MayBeLate all words = OfRequest (IsLate all) (request words)

abbrev pub MayLeave : (List ℕ → Option (List ℕ)) → List (List ℕ) → List ℕ → Type 0
MayLeave held words text = OfRequest (λ job. Leaves held job text) (request words)

-- a request is carried out, with these probes: the clauses of each function that carries one out
abbrev pub CarriedOut : {F O : Type 0} → (F → List ℕ → Option (List ℕ)) → (F → Bool) → (F → ℕ) → (O → Bool) → (O → List ℕ) → (O → Bool) → (O → ℕ) → List Watcher → Request → (shelf_old shelf_new : F) → (old new : O) → Result Ending Fault → Type 0
CarriedOut held tells_held shelf_faults tells bytes is_ended faults all job shelf_old shelf_new old new result =
    Carried held tells_held shelf_faults tells bytes is_ended faults ⊥ (λ texts. Says texts all job) (IsLate all job) (λ texts. Leaves texts job) shelf_old shelf_new old new result

-- words have one answer at most
abbrev pub HasOneAnswer : Type 0
HasOneAnswer = (held : List ℕ → Option (List ℕ)) (all : List Watcher) (words : List (List ℕ)) → HasOne (Answers held all words)

-- ---- texts that are in order

-- a text is held under the name, of at most so many bytes, and this is so of it
pub record Holds (held : List ℕ → Option (List ℕ)) (most : ℕ) (file : List ℕ) (So : List ℕ → Type 0) : Type 0 where
  pub text : List ℕ
  pub holds : held file ≡ Some text
  pub within : length text ≤ most
  pub so : So text

-- each text of the request is accepted or in its grammar, and no limit of the request is passed
abbrev pub AreInOrder : (List ℕ → Option (List ℕ)) → Request → Type 0
AreInOrder held (Hier file choice) = Holds held most_source_bytes file (λ text. (t : TypedSource) × IsAcceptedAs text t)
AreInOrder held (Flat file choice limit kinds burst window reach) =
    Holds held most_source_bytes file (λ text. (t : TypedSource) × IsAcceptedAs text t × FitsFlat limit (modules_of t choice))
AreInOrder held (Count file choice times) =
    Holds held most_source_bytes file (λ text. (t : TypedSource) × IsAcceptedAs text t × IsWithin (counts_by (durations times) (modules_of t choice)))
AreInOrder held (Schedule file choice k d lpfs times) =
    Holds held most_source_bytes file (λ text. (t : TypedSource) × IsAcceptedAs text t × IsSchedulable d (durations times) (modules_of t choice))
AreInOrder held (Expand file limit) = Holds held most_text_bytes file (λ text. (modules : List Module) × IsHierText text modules × FitsFlat limit modules)
AreInOrder held (Check list schedule) =
    Holds held most_text_bytes list (λ text. (gates : FlatText) × IsFlatText text gates × Holds held most_text_bytes schedule (λ other. (plan : Plan) × IsTextOf (length gates.gates) other plan))
AreInOrder held (Drill n) = (t : TypedSource) × IsAcceptedAs (drill_text n) t × IsWithin (counts_by ones (modules_of t Replace))
AreInOrder held (Coarse file choice k d lpfs) = Holds held most_source_bytes file (λ text. (t : TypedSource) × IsAcceptedAs text t × IsCoarsenable d (modules_of t choice))
AreInOrder held (ToOpen file choice) = Holds held most_source_bytes file (λ text. (t : TypedSource) × IsAcceptedAs text t × IsListable ones (modules_of t choice))
AreInOrder held (FromOpen file) = Holds held most_text_bytes file (λ text. (opened : OpenText) × IsInGrammar text opened)
AreInOrder held (Cancel file choice kinds burst window reach) = Holds held most_source_bytes file (λ text. (t : TypedSource) × IsAcceptedAs text t × IsListable ones (modules_of t choice))

-- words whose texts are in order have an output
abbrev pub HaveOutputs : Type 0
HaveOutputs = (held : List ℕ → Option (List ℕ)) (all : List Watcher) (words : List (List ℕ)) → OfRequest (AreInOrder held) (request words) → (output : Output) × Answers held all words (Ok output)
