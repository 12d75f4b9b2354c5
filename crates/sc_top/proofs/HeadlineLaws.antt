-- The headline: what the texts of an accepted source are.
use Rattle.std.proofs.Common.{◌≡◌, ℕ, ◌-◌, ◌<◌, ◌≤◌, ◌^◌, max, Bool, List, [], ◌∷◌, ◌++◌, map, length, Option, Result, Ok, Err, refl, sym, ◌∙◌, ap, subst, append-nil, inl, inr, arith}
use Rattle.std.proofs.lemmas.Bool.{cases_lt}
use Rattle.std.proofs.lemmas.List.{length-map}
use Rattle.sc_base.specs.Limits.{most_gates}
use Rattle.sc_coarse.proofs.ExpandedLaws.{expanded_legal, last_there}
use Rattle.sc_coarse.specs.CoarseDecks.{AreCoarse}
use Rattle.sc_coarse.specs.Expansions.{expanded}
use Rattle.sc_coarse.specs.Refusals.{NoneIsWide}
use Rattle.sc_coarse.specs.declared.coarse.Instance.{Instance}
use Rattle.sc_check.proofs.Breaches.{legal_to}
use Rattle.sc_check.specs.declared.finding.Finding.{Finding}
use Rattle.sc_check.specs.declared.finding.Finding.TheVariants.{Legal}
use Rattle.sc_count.specs.Counting.{kinds_of, peak_of, lives, live, opened}
use Rattle.sc_deck.specs.Decks.{IsDeck, IsWhole}
use Rattle.sc_deck.specs.Events.{Event, Enter, Fresh, Apply, Return, flat, gates_in, fresh_in}
use Rattle.sc_deck.specs.Modules.{Module, greatest}
use Rattle.sc_deck.proofs.FoldLaws.{IsWhole-folded}
use Rattle.sc_flat.specs.Shown.{ManyWires}
use Rattle.sc_gate.specs.Chains.{timed, total_weight, IsCritical}
use Rattle.sc_gate.specs.Numbers.{Numbers}
use Rattle.sc_gate.specs.declared.gate.Gate.{Gate}
use Rattle.sc_meaning.proofs.ClassicalLaws.{calls_xor}
use Rattle.sc_meaning.proofs.Expansion.{all_expand}
use Rattle.sc_meaning.proofs.SoundDecks.{all_decks, all_sound}
use Rattle.sc_meaning.proofs.Wholes.{all_whole}
use Rattle.sc_meaning.specs.declared.choice.Choice.{Choice}
use Rattle.sc_meaning.specs.Meaning.{run, instances, meaning, Expands, expansion_of_last, other_events}
use Rattle.sc_meaning.specs.Outcomes.{events_of}
use Rattle.sc_read.proofs.FlatLines.{written_is_read}
use Rattle.sc_read.proofs.HierTexts.{sound_text_read}
use Rattle.sc_read.specs.declared.flat.FlatText.{FlatText}
use Rattle.sc_sched.proofs.StepLaws.{have_text}
use Rattle.sc_sched.specs.Legal.{IsLegal}
use Rattle.sc_sched.specs.PrioritySchedules.{IsPrioritySchedule}
use Rattle.sc_sched.specs.Text.{IsSize, IsTextOf, schedule_text}
use Rattle.sc_sched.specs.declared.order.Rank.{Rank}
use Rattle.sc_sched.specs.declared.plan.Plan.{Plan}
use Rattle.sc_types.specs.Typing.{TypedSource}
use Rattle.sc_top.specs.Answers.{SourceOf, Says, watched, done}
use Rattle.sc_top.specs.Coarsened.{IsCoarsened, coarsened, coarsened_text}
use Rattle.sc_top.specs.Endings.{Output}
use Rattle.sc_top.specs.Expansions.{whole, ones}
use Rattle.sc_top.specs.Headline.{meaning_list, meaning_text, AreNumbersOf, Headline}
use Rattle.sc_top.specs.Listed.{list_of, IsListable}
use Rattle.sc_top.specs.Lowered.{lowered_text}
use Rattle.sc_top.specs.Reports.{IsSummaryOf}
use Rattle.sc_top.specs.Scheduled.{order_by, IsPlanOf, IsScheduled}
use Rattle.sc_top.specs.Shortened.{shortened_text}
use Rattle.sc_top.specs.Sources.{modules_of}
use Rattle.sc_top.specs.Stages.{goes}
use Rattle.sc_top.specs.Tallied.{durations, IsSummarized}
use Rattle.sc_top.specs.Verdicts.{IsVerdict}
use Rattle.sc_top.specs.Watching.{Watcher, asked_of, probe_lines}
use Rattle.sc_top.specs.declared.coarsened.Coarsened.{Coarsened}
use Rattle.sc_top.specs.declared.fault.Refusal.{Refusal}
use Rattle.sc_top.specs.declared.report.Summary.{Summary}
use Rattle.sc_words.specs.declared.Request.TheVariants.{Schedule}
use Rattle.sc_top.proofs.CoarseLemmas.{has_coarse}
use Rattle.sc_top.proofs.ListedGates.{listed_gates_stand}
use Rattle.sc_top.proofs.ListLemmas.{has_list}
use Rattle.sc_top.proofs.ModeLemmas.{has_summary, has_plan}
use Rattle.sc_top.proofs.OneAnswer.{one_source_of}
use Rattle.sc_top.proofs.OtherLemmas.{has_shortened}
use Rattle.sc_top.proofs.SourceLaws.{checked_sources, accepted_source, writable, unfolded_gates, unfolded_sums, unfolded_text, modules_unfold}
use Rattle.sc_top.proofs.StageLemmas.{given, same_value}
use Rattle.sc_top.proofs.WatchLemmas.{none_asked, none_watch}

abbrev written : Output → Result Output Refusal
written output = Ok output

-- ---- `flat`

unwatched : (all : List Watcher) (modules : List Module) → watched (asked_of none_asked all) modules ≡ done (flat (whole modules))
unwatched all modules = ap (λ (ws : List Watcher). watched ws modules) (none_watch all) ∙ ap done (append-nil (flat (whole modules)))

watched_is : (all : List Watcher) (t : TypedSource) (choice : Choice) → Expands t choice → watched all (modules_of t choice) ≡ done (meaning_text t choice ++ probe_lines (meaning t choice) all)
watched_is all t choice expands =
    ap (λ (x : List ℕ). done (x ++ probe_lines (gates_in (whole (modules_of t choice))) all)) (unfolded_text t choice expands)
    ∙ ap (λ (gates : List Gate). done (meaning_text t choice ++ probe_lines gates all)) (unfolded_gates t choice expands)

-- ---- `count`

first_lives : (entered : List ℕ) (events : List Event) → live entered ≤ greatest (lives entered events)
first_lives entered [] = omega arith
first_lives entered (e ∷ events) = omega arith

no_peak : (n m : ℕ) → n ≤ m → max n m ≡ m
no_peak n m le = omega arith

-- gates aside, a list of events has the same peak
lives_of_others : (entered : List ℕ) (events : List Event) → greatest (lives entered events) ≡ greatest (lives entered (other_events events))
lives_of_others entered [] = refl
lives_of_others entered (Enter key wires ∷ events) = ap (max (live entered)) (lives_of_others (opened (Enter key wires) entered) events)
lives_of_others entered (Fresh class n ∷ events) = ap (max (live entered)) (lives_of_others (opened (Fresh class n) entered) events)
lives_of_others entered (Apply gate ∷ events) = no_peak (live entered) (greatest (lives entered events)) (first_lives entered events) ∙ lives_of_others entered events
lives_of_others entered (Return key ∷ events) = ap (max (live entered)) (lives_of_others (opened (Return key) entered) events)

peak_is : (t : TypedSource) (choice : Choice) → Expands t choice → peak_of (whole (modules_of t choice)) ≡ peak_of (events_of (run t))
peak_is t choice expands =
    ap peak_of (modules_unfold t choice expands) ∙ lives_of_others [] (expansion_of_last (instances t choice)) ∙ ap (λ (events : List Event). greatest (lives [] events)) expands.others
    ∙ sym (lives_of_others [] (events_of (run t)))

numbers_are : (t : TypedSource) (choice : Choice) (times : List ℕ) (s : Summary) → Expands t choice → IsSummaryOf times (modules_of t choice) s → AreNumbersOf t choice times s
numbers_are t choice times s expands is =
    let gates = unfolded_gates t choice expands in
    let sums = unfolded_sums t choice expands in
    record {
      instances = is.instances ∙ length-map (instances t choice) _;
      qubits = (λ i. (is.counts i).qubits) ∙ ap (λ (n : Numbers). n.qubits) sums;
      cbits = (λ i. (is.counts i).cbits) ∙ ap (λ (n : Numbers). n.cbits) sums;
      peak = (λ i. (is.counts i).peak) ∙ peak_is t choice expands;
      gates = (λ i. (is.counts i).gates) ∙ ap length gates;
      kinds = (λ i. (is.counts i).kinds) ∙ ap kinds_of gates;
      weight = (λ i. (is.counts i).weight) ∙ ap (λ (gs : List Gate). total_weight (map (timed times) gs)) gates;
      critical = subst (λ (gs : List Gate). IsCritical (map (timed times) gs) s.critical) gates is.critical;
    }

summary_is : (times : List ℕ) (modules : List Module) (s : Summary) → IsSummarized times modules (Ok s) → IsSummaryOf times modules s
summary_is times modules s (goes counted r within is) = is

-- ---- lists

pub list_is : (t : TypedSource) (choice : Choice) → Expands t choice → list_of (modules_of t choice) ≡ meaning_list t choice
list_is t choice expands =
    let gates = unfolded_gates t choice expands in
    let sums = unfolded_sums t choice expands in
    λ i. record { qubits = (sums i).qubits; cbits = (sums i).cbits; gates = gates i }

-- ---- `schedule` and `check`

-- the list of a deck whose plan was written
planned_list : (k d : ℕ) (lpfs : Bool) (times : List ℕ) (modules : List Module) (plan : Plan) → IsScheduled k d lpfs times modules (Ok plan) →
    IsListable times modules × IsPlanOf k d (order_by lpfs) times (gates_in (whole modules)) plan
planned_list k d lpfs times modules plan (goes list r (goes counted _ within (goes few _ narrow (le, is))) (goes room _ none planned)) = (
  record { counts = within; wires = narrow; gates = le },
  subst (λ (l : FlatText). IsPlanOf k d (order_by lpfs) times l.gates plan) is planned,
)

pub few_wires : (n : Numbers) → (ManyWires n → ⊥) → (n.qubits < 2 ^ 32) × (n.cbits < 2 ^ 32)
few_wires n few = (below n.qubits (λ many. few (inl many)), below n.cbits (λ many. few (inr many)))
  where
    below : (m : ℕ) → (2 ^ 32 ≤ m → ⊥) → m < 2 ^ 32
    below m not = elim (cases_lt m (2 ^ 32)) [
      | inl lt ↦ lt
      | inr le ↦ absurd (not le)
    ]

-- the schedule of a plan, on its own numbers of regions and qubits
own_schedule : (k d : ℕ) (comes : Rank → Rank → Bool) (times : List ℕ) (gates : List Gate) (plan : Plan) → IsPlanOf k d comes times gates plan → IsPrioritySchedule comes times gates plan.k plan.d plan.steps
own_schedule k d comes times gates plan is =
    subst (λ (n : ℕ). IsPrioritySchedule comes times gates n plan.d plan.steps) (sym is.regions)
    (subst (λ (n : ℕ). IsPrioritySchedule comes times gates k n plan.steps) (sym is.width) is.steps)

plan_text : (k d : ℕ) (comes : Rank → Rank → Bool) (times : List ℕ) (gates : List Gate) (plan : Plan) → length gates ≤ most_gates → IsSize k → IsSize d → IsPlanOf k d comes times gates plan →
    IsTextOf (length gates) (schedule_text plan) plan
plan_text k d comes times gates plan few many wide is =
    let own = own_schedule k d comes times gates plan is in
    record {
      gates_are = is.gates_are;
      has_text = have_text gates (λ x y. comes (own.rank x) (own.rank y)) plan few is.gates_are (subst IsSize (sym is.regions) many) (subst IsSize (sym is.width) wide) own.legal own.taken;
      text_is = refl;
    }

-- the list of a deck is read from its flat text, and the verdict on the plan that was written for it is `legal`
found_legal : (k d : ℕ) (lpfs : Bool) (times : List ℕ) (modules : List Module) (plan : Plan) → IsDeck modules → IsWhole modules → IsSize k → IsSize d → IsScheduled k d lpfs times modules (Ok plan) →
    IsVerdict (flat (whole modules)) (schedule_text plan) (Ok Legal)
found_legal k d lpfs times modules plan deck is_whole many wide scheduled =
    let (fits, is) = planned_list k d lpfs times modules plan scheduled in
    let gates : List Gate = gates_in (whole modules) in
    let few = few_wires (fresh_in (whole modules)) fits.wires in
    goes (list_of modules) _
    (written_is_read (fresh_in (whole modules)).qubits (fresh_in (whole modules)).cbits gates (omega (arith, few.0)) (omega (arith, few.1)) fits.gates (listed_gates_stand modules deck is_whole few.0 few.1))
    (goes plan _ (plan_text k d (order_by lpfs) times gates plan fits.gates many wide is)
    (ap (given Finding) (sym (legal_to gates plan (own_schedule k d (order_by lpfs) times gates plan is).legal))))

abbrev text_of : Result Output Refusal → List ℕ
text_of (Ok output) = output.text
text_of (Err refusal) = []

-- what `schedule` wrote for a deck is the text of a plan of it
written_plan : (held : List ℕ → Option (List ℕ)) (all : List Watcher) (file : List ℕ) (choice : Choice) (modules : List Module) (k d : ℕ) (lpfs : Bool) (times : Option (List ℕ)) (text : List ℕ) →
    SourceOf held file choice (Ok modules) → Says held all (Schedule file choice k d lpfs times) (Ok (done text)) →
    (plan : Plan) × IsScheduled k d lpfs (durations times) modules (Ok plan) × (text ≡ schedule_text plan)
written_plan held all file choice modules k d lpfs times text here (goes plan r (goes others s there scheduled) is) = (
  plan,
  subst (λ (ms : List Module). IsScheduled k d lpfs (durations times) ms (Ok plan)) (same_value (one_source_of held file choice (Ok others) (Ok modules) there here)) scheduled,
  ap text_of is,
)

-- ---- `coarse`

-- the coarse schedules of a deck, which the stages gave
coarse_of : (k d : ℕ) (lpfs : Bool) (modules : List Module) (c : Coarsened) → IsCoarsened k d lpfs modules (Ok c) → (c ≡ coarsened modules c.coarse) × AreCoarse (order_by lpfs) k d modules c.coarse
coarse_of k d lpfs modules c (goes counted r within (goes instances s (goes few x fits (goes room y narrow coarse)) is)) =
    let same : c ≡ coarsened modules instances = same_value is in
    (same ∙ ap (coarsened modules) (ap (λ (x : Coarsened). x.coarse) (sym same)), subst (AreCoarse (order_by lpfs) k d modules) (ap (λ (x : Coarsened). x.coarse) (sym same)) coarse)

-- that of the last instance of a whole deck expands to a legal schedule of its gates
coarse_legal : (k d : ℕ) (lpfs : Bool) (modules : List Module) (instances : List Instance) → IsDeck modules → IsWhole modules → 1 ≤ k → NoneIsWide d modules → AreCoarse (order_by lpfs) k d modules instances →
    IsLegal (gates_in (whole modules)) k d (expanded modules instances (length modules - 1))
coarse_legal k d lpfs modules instances deck is_whole some narrow coarse =
    expanded_legal (order_by lpfs) k d modules deck instances coarse.many coarse.rule some narrow (length modules - 1) (last_there modules is_whole)

-- ---- the headline

pub headline : Headline
headline = record {
  sources = checked_sources;
  texts = λ held all file text t holds within accepted choice.
      let expands = all_expand t accepted.typed.main accepted.typed.checked accepted.runs choice in
      let modules = modules_of t choice in
      let deck = (all_decks t accepted.typed.main accepted.typed.checked accepted.runs choice).1 in
      let is_whole = IsWhole-folded (instances t choice) (all_whole t accepted.typed.main accepted.typed.checked accepted.runs choice) in
      let same = unfolded_text t choice expands in
      let gates = unfolded_gates t choice expands in
      let here : SourceOf held file choice (Ok modules) = goes text _ (holds, within) (accepted_source text t choice accepted) in
      record {
        writes_hier = goes modules _ here refl;
        gates = gates;
        unfolds = same;
        writes_flat = λ limit fits. goes modules _ (goes modules _ here (writable limit modules fits)) (ap written (sym (unwatched all modules ∙ ap done same)));
        writes_probes = λ limit kinds burst window reach fits.
            goes modules _ (goes modules _ here (writable limit modules fits))
            (ap written (sym (watched_is (asked_of (record { kinds = kinds; burst = burst; window = window; reach = reach }) all) t choice expands)));
        expands = λ texts name limit held_there within_text short fits.
            goes modules _ (goes _ _ (held_there, within_text) (goes modules _ (sound_text_read modules deck (all_sound t accepted.typed.main accepted.typed.checked accepted.runs choice short)) (writable limit modules fits))) (ap (λ (x : List ℕ). written (done x)) (sym same));
        writes_report = λ times fits.
            let (s, is) = has_summary (durations times) modules fits in
            (s, numbers_are t choice (durations times) s expands (summary_is (durations times) modules s is), goes s _ (goes modules _ here is) refl);
        writes_schedule = λ k d lpfs times some fits.
            let (plan, is) = has_plan k d lpfs (durations times) modules some fits in (
              plan,
              subst (λ (gs : List Gate). IsPlanOf k d (order_by lpfs) (durations times) gs plan) gates (planned_list k d lpfs (durations times) modules plan is).1,
              goes plan _ (goes modules _ here is) refl,
            );
        checks = λ texts list schedule text k d lpfs times many wide held_list short says held_plan small.
            let (plan, scheduled, is) = written_plan held all file choice modules k d lpfs times text here says in
            let verdict = found_legal k d lpfs (durations times) modules plan deck is_whole many wide scheduled in
            goes Legal _
            (goes (meaning_text t choice) _ (held_list, short)
            (goes text _ (held_plan, small) (subst (λ (x : List ℕ). IsVerdict (meaning_text t choice) x (Ok Legal)) (sym is) (subst (λ (x : List ℕ). IsVerdict x (schedule_text plan) (Ok Legal)) same verdict)))) refl;
        writes_coarse = λ k d lpfs some fits.
            let (c, is) = has_coarse k d lpfs modules some fits in
            let (same, coarse) = coarse_of k d lpfs modules c is in (
              c.coarse,
              coarse,
              subst (λ (gs : List Gate). IsLegal gs k d (expanded modules c.coarse (length modules - 1))) gates (coarse_legal k d lpfs modules c.coarse deck is_whole some fits.room coarse),
              goes c _ (goes modules _ here is) (ap (λ (x : Coarsened). written (done (coarsened_text k d x))) (sym same)),
            );
        writes_open = λ fits.
            goes (list_of modules) _ (goes modules _ here (has_list ones modules fits)) (ap (λ (list : FlatText). written (done (lowered_text list))) (sym (list_is t choice expands)));
        writes_shortened = λ kinds burst window reach fits.
            let asked = asked_of (record { kinds = kinds; burst = burst; window = window; reach = reach }) all in
            goes (shortened_text asked (list_of modules)) _ (goes modules _ here (has_shortened asked modules fits))
            (ap (λ (list : FlatText). written (done (shortened_text asked list))) (sym (list_is t choice expands)));
      };
  calls = calls_xor;
}
