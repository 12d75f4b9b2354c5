-- The stage from a deck to the numbers of its report.
use Rattle.std.specs.Prelude.{ℕ, List, Option, Result, Ok, Err, unwrap_or}
use Rattle.sc_deck.specs.Modules.{Module}
use Rattle.sc_top.specs.Expansions.{ones, IsCounted}
use Rattle.sc_top.specs.Reports.{IsSummaryOf}
use Rattle.sc_top.specs.Stages.{Then}
use Rattle.sc_top.specs.declared.fault.Refusal.{Refusal}
use Rattle.sc_top.specs.declared.report.Summary.{Summary}

-- the durations of a request: where it names none, each gate takes 1
abbrev pub durations : Option (List ℕ) → List ℕ
durations times = unwrap_or times ones

-- a stage that refuses nothing: what it gives
abbrev pub Yields : {A : Type 0} → (A → Type 0) → Result A Refusal → Type 0
Yields Value (Ok a) = Value a
Yields Value (Err refusal) = ⊥

-- the numbers of a deck, where its counts are within their limit
abbrev pub IsSummarized : List ℕ → List Module → Result Summary Refusal → Type 0
IsSummarized times modules = Then (IsCounted times modules) (λ counted. Yields (IsSummaryOf times modules))
