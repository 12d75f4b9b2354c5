-- What the texts of an accepted source are.
use Rattle.std.specs.Prelude.{◌≡◌, ℕ, ◌≤◌, ◌-◌, Bool, false, List, ◌++◌, Option, Some, Ok, is_some, map, length}
use Rattle.sc_base.specs.Limits.{most_source_bytes, most_text_bytes}
use Rattle.sc_check.specs.declared.finding.Finding.TheVariants.{Legal}
use Rattle.sc_coarse.specs.CoarseDecks.{AreCoarse}
use Rattle.sc_coarse.specs.CoarseText.{coarse_text}
use Rattle.sc_coarse.specs.Expansions.{expanded}
use Rattle.sc_coarse.specs.declared.coarse.Instance.{Instance}
use Rattle.sc_count.specs.Counting.{kinds_of, peak_of}
use Rattle.sc_count.specs.Limits.{IsWithin}
use Rattle.sc_deck.specs.Events.{flat, gates_in, fresh_in}
use Rattle.sc_deck.specs.Hierarchical.{hier}
use Rattle.sc_gate.specs.Chains.{timed, total_weight, IsCritical}
use Rattle.sc_gate.specs.Lines.{flat_text}
use Rattle.sc_types.specs.Typing.{TypedSource}
use Rattle.sc_meaning.specs.declared.choice.Choice.{Choice}
use Rattle.sc_meaning.specs.ClassicalCalls.{CallsXor}
use Rattle.sc_meaning.specs.Decks.{AreShort}
use Rattle.sc_meaning.specs.Meaning.{run, meaning, instances}
use Rattle.sc_meaning.specs.Outcomes.{events_of}
use Rattle.sc_read.specs.declared.flat.FlatText.{FlatText}
use Rattle.sc_sched.specs.Legal.{IsLegal}
use Rattle.sc_sched.specs.Text.{IsSize, schedule_text}
use Rattle.sc_sched.specs.declared.plan.Plan.{Plan}
use Rattle.sc_top.specs.Answers.{Says, done}
use Rattle.sc_top.specs.Coarsened.{IsCoarsenable}
use Rattle.sc_top.specs.Expansions.{whole, ones, counts_by, FitsFlat}
use Rattle.sc_top.specs.Listed.{IsListable}
use Rattle.sc_top.specs.Lowered.{lowered_text}
use Rattle.sc_top.specs.Reports.{report_text}
use Rattle.sc_top.specs.Scheduled.{order_by, IsPlanOf, IsSchedulable}
use Rattle.sc_top.specs.Shortened.{shortened_text}
use Rattle.sc_top.specs.Sources.{modules_of, IsAcceptedAs, AreCheckedSources}
use Rattle.sc_top.specs.Tallied.{durations}
use Rattle.sc_top.specs.Verdicts.{judged}
use Rattle.sc_top.specs.Watching.{Watcher, asked_of, probe_lines}
use Rattle.sc_top.specs.declared.report.Summary.{Summary}
use Rattle.sc_words.specs.declared.Request.TheVariants.{Hier, Flat, Count, Schedule, Expand, Check, Coarse, ToOpen, Cancel}

-- the list of the meaning of a source: its gates, and the sums of the fresh wires of its run
abbrev pub meaning_list : TypedSource → Choice → FlatText
meaning_list t choice = record { qubits = (fresh_in (events_of (run t))).qubits; cbits = (fresh_in (events_of (run t))).cbits; gates = meaning t choice }

-- its flat text
abbrev pub meaning_text : TypedSource → Choice → List ℕ
meaning_text t choice = flat_text (meaning_list t choice).qubits (meaning_list t choice).cbits (meaning t choice)

-- the numbers of a report are those of the meaning of a source, by these durations
pub record AreNumbersOf (t : TypedSource) (choice : Choice) (times : List ℕ) (s : Summary) : Type 0 where
  pub instances : s.instances ≡ length (instances t choice)
  -- the fresh wires of its run, and the most qubits that are live at a place of it
  pub qubits : s.counts.qubits ≡ (meaning_list t choice).qubits
  pub cbits : s.counts.cbits ≡ (meaning_list t choice).cbits
  pub peak : s.counts.peak ≡ peak_of (events_of (run t))
  -- its gates, those of each name, and the sum of their durations
  pub gates : s.counts.gates ≡ length (meaning t choice)
  pub kinds : s.counts.kinds ≡ kinds_of (meaning t choice)
  pub weight : s.counts.weight ≡ total_weight (map (timed times) (meaning t choice))
  -- a chain of its gates takes so long, and none takes longer
  pub critical : IsCritical (map (timed times) (meaning t choice)) s.critical

-- What is so of an accepted source `t` that is held under a name, for each choice and each list of probes.
pub record HasTexts (held : List ℕ → Option (List ℕ)) (all : List Watcher) (file : List ℕ) (t : TypedSource) (choice : Choice) : Type 0 where
  -- `hier` writes its deck, which unfolds to the gates of its meaning
  pub writes_hier : Says held all (Hier file choice) (Ok (done (hier (modules_of t choice))))
  pub gates : gates_in (whole (modules_of t choice)) ≡ meaning t choice
  pub unfolds : flat (whole (modules_of t choice)) ≡ meaning_text t choice
  -- `flat` writes exactly the text of these gates, where it is within every limit
  pub writes_flat : (limit : ℕ) → FitsFlat limit (modules_of t choice) → Says held all (Flat file choice limit false false false false) (Ok (done (meaning_text t choice)))
  -- and behind it what each probe that is asked for tells of them
  pub writes_probes : (limit : ℕ) (kinds burst window reach : Bool) → FitsFlat limit (modules_of t choice) →
      let asked = asked_of (record { kinds = kinds; burst = burst; window = window; reach = reach }) all in
      Says held all (Flat file choice limit kinds burst window reach) (Ok (done (meaning_text t choice ++ probe_lines (meaning t choice) asked)))
  -- and so does `expand`, over what `hier` wrote, where that is not too long and no body of it has too many items
  pub expands : (texts : List ℕ → Option (List ℕ)) (written : List ℕ) (limit : ℕ) → texts written ≡ Some (hier (modules_of t choice)) → length (hier (modules_of t choice)) ≤ most_text_bytes →
      AreShort (modules_of t choice) → FitsFlat limit (modules_of t choice) → Says texts all (Expand written limit) (Ok (done (meaning_text t choice)))
  -- `count` writes the numbers of these gates, where they are within their limit
  pub writes_report : (times : Option (List ℕ)) → IsWithin (counts_by (durations times) (modules_of t choice)) →
      (s : Summary) × AreNumbersOf t choice (durations times) s × Says held all (Count file choice times) (Ok (done (report_text (is_some times) s)))
  -- `schedule` writes their one priority schedule, which is legal, where they are within every limit and none is wider
  pub writes_schedule : (k d : ℕ) (lpfs : Bool) (times : Option (List ℕ)) → 1 ≤ k → IsSchedulable d (durations times) (modules_of t choice) →
      (plan : Plan) × IsPlanOf k d (order_by lpfs) (durations times) (meaning t choice) plan × Says held all (Schedule file choice k d lpfs times) (Ok (done (schedule_text plan)))
  -- and `check` finds it legal for what `flat` wrote, where neither is too long
  pub checks : (texts : List ℕ → Option (List ℕ)) (list schedule written : List ℕ) (k d : ℕ) (lpfs : Bool) (times : Option (List ℕ)) → IsSize k → IsSize d →
      texts list ≡ Some (meaning_text t choice) → length (meaning_text t choice) ≤ most_text_bytes → Says held all (Schedule file choice k d lpfs times) (Ok (done written)) →
      texts schedule ≡ Some written → length written ≤ most_text_bytes → Says texts all (Check list schedule) (Ok (judged Legal))
  -- `coarse` writes the one coarse schedule of each instance; that of main expands to a legal schedule of these gates
  pub writes_coarse : (k d : ℕ) (lpfs : Bool) → 1 ≤ k → IsCoarsenable d (modules_of t choice) →
      (instances : List Instance) × AreCoarse (order_by lpfs) k d (modules_of t choice) instances
      × IsLegal (meaning t choice) k d (expanded (modules_of t choice) instances (length (modules_of t choice) - 1))
      × Says held all (Coarse file choice k d lpfs) (Ok (done (coarse_text k d (modules_of t choice) instances)))
  -- `open` writes what they are lowered to, and `cancel` those that stay when the pairs that undo each other are taken out
  pub writes_open : IsListable ones (modules_of t choice) → Says held all (ToOpen file choice) (Ok (done (lowered_text (meaning_list t choice))))
  pub writes_shortened : (kinds burst window reach : Bool) → IsListable ones (modules_of t choice) →
      let asked = asked_of (record { kinds = kinds; burst = burst; window = window; reach = reach }) all in
      Says held all (Cancel file choice kinds burst window reach) (Ok (done (shortened_text asked (meaning_list t choice))))

-- THE HEADLINE
pub record Headline : Type 0 where
  -- each text in which nothing is wrong before its run has one typed source
  pub sources : AreCheckedSources
  -- the texts of each accepted source agree, and their gates are its meaning
  pub texts : (held : List ℕ → Option (List ℕ)) (all : List Watcher) (file text : List ℕ) (t : TypedSource) → held file ≡ Some text → length text ≤ most_source_bytes → IsAcceptedAs text t →
      (choice : Choice) → HasTexts held all file t choice
  -- each call of a classical function xors its value into its output and returns its scratch
  pub calls : CallsXor
