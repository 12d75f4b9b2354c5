-- What the run in local numbers answers: the refusal of the source, or its instances.
use Rattle.std.specs.Prelude.{◌≡◌, ℕ, Some, None, Result, Ok, Err, []}
use Rattle.sc_gate.specs.Numbers.{Numbers, no_wires}
use Rattle.sc_deck.specs.Keys.{main_key}
use Rattle.sc_types.specs.Accepted.{IsAccepted}
use Rattle.sc_types.specs.Typing.{TypedSource, HasMain, HaveDistinctNames}
use Rattle.sc_meaning.specs.declared.choice.Choice.{Choice}
use Rattle.sc_meaning.specs.declared.fault.ElabFault.{ElabFault}
use Rattle.sc_meaning.specs.Instances.{refusal_of, instances_of}
use Rattle.sc_meaning.specs.Local.{local, Made, nothing, ran}
use Rattle.sc_meaning.specs.Meaning.{run}
use Rattle.sc_meaning.specs.Outcomes.{Outcome, events_of}
use Rattle.sc_meaning.specs.Programs.{program_of}

-- the answer is that of a run: its refusal, or with no refusal its instances
abbrev pub AnswerIs : Choice → Outcome Numbers → Result (Numbers × Made) ElabFault → Type 0
AnswerIs choice run (Ok p) = (refusal_of run ≡ None) × (p.1.deck ≡ instances_of choice (events_of run))
AnswerIs choice run (Err fault) = refusal_of run ≡ Some fault

-- So main answers, where each body numbers its own wires, of a source that the checks accept.
abbrev pub LocalAnswers : Type 0
LocalAnswers =
    (t : TypedSource) (main : ℕ) → IsAccepted t → HasMain t.source main → HaveDistinctNames t.source.parts
    → (choice : Choice) → AnswerIs choice (run t) (ran choice nothing (local (program_of t) 256 main_key [] no_wires))
