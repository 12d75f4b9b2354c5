-- What comes back of an accepted source that `open` wrote.
use Rattle.std.specs.Prelude.{◌≡◌, ℕ, ◌≤◌, true, false, List, Option, Some, Ok, length}
use Rattle.std.specs.List.{AllByRecursion}
use Rattle.sc_base.specs.Limits.{most_source_bytes, most_text_bytes}
use Rattle.sc_gate.specs.declared.gate.Gate.{Gate}
use Rattle.sc_meaning.specs.declared.choice.Choice.{Choice}
use Rattle.sc_meaning.specs.Meaning.{meaning}
use Rattle.sc_open.specs.Lowering.{is_kept}
use Rattle.sc_open.specs.OpenReads.{IsInGrammar}
use Rattle.sc_types.specs.Typing.{TypedSource}
use Rattle.sc_top.specs.Answers.{Says, done}
use Rattle.sc_top.specs.Expansions.{ones}
use Rattle.sc_top.specs.Headline.{meaning_list, meaning_text}
use Rattle.sc_top.specs.Listed.{IsListable}
use Rattle.sc_top.specs.Lowered.{lowered_list, lowered_text, back_text}
use Rattle.sc_top.specs.Sources.{modules_of, IsAcceptedAs}
use Rattle.sc_top.specs.Watching.{Watcher}
use Rattle.sc_words.specs.declared.Request.TheVariants.{Flat, FromOpen}

-- lowering loses nothing of these gates: no PrepX, no MeasX, no Fredkin and no start value 1 is among them
abbrev pub AreKept : List Gate → Type 0
AreKept gates = AllByRecursion (λ g. is_kept g.kind ≡ true) gates

-- the flat text of the gates that the lines of an accepted source are read as
abbrev pub reopened_text : TypedSource → Choice → List ℕ
reopened_text t choice = back_text (lowered_list (meaning_list t choice))

-- What is so of the text that `open` writes of an accepted source `t` that is held under a name.
pub record ComesBack (held : List ℕ → Option (List ℕ)) (all : List Watcher) (file : List ℕ) (t : TypedSource) (choice : Choice) : Type 0 where
  -- it is in the grammar, with the registers and lines that the meaning is lowered to
  pub in_grammar : IsInGrammar (lowered_text (meaning_list t choice)) (lowered_list (meaning_list t choice))
  -- over it, where it is not too long, `reopen` writes the flat text of what these are read as
  pub reopens : (texts : List ℕ → Option (List ℕ)) (written : List ℕ) → texts written ≡ Some (lowered_text (meaning_list t choice)) → length (lowered_text (meaning_list t choice)) ≤ most_text_bytes →
      Says texts all (FromOpen written) (Ok (done (reopened_text t choice)))
  -- where lowering loses nothing, that is the text of the meaning, and `flat` writes it with a limit that its gates do not pass
  pub same_text : AreKept (meaning t choice) → reopened_text t choice ≡ meaning_text t choice
  pub as_flat : (limit : ℕ) → AreKept (meaning t choice) → length (meaning t choice) ≤ limit → Says held all (Flat file choice limit false false false false) (Ok (done (reopened_text t choice)))

-- WHAT `open` WROTE COMES BACK, of each accepted source whose list is within every limit
abbrev pub AllComeBack : Type 0
AllComeBack = (held : List ℕ → Option (List ℕ)) (all : List Watcher) (file text : List ℕ) (t : TypedSource) → held file ≡ Some text → length text ≤ most_source_bytes → IsAcceptedAs text t →
    (choice : Choice) → IsListable ones (modules_of t choice) → ComesBack held all file t choice
