-- Texts that are in order have an output, and verdicts are exact.
use Rattle.std.proofs.Common.{◌≡◌, ℕ, ◌<◌, List, length, Option, None, Some, Ok, refl, subst}
use Rattle.std.specs.Prelude.{All, is_some}
use Rattle.sc_check.proofs.Breaches.{legal_from, legal_to}
use Rattle.sc_check.specs.Finding.{finding}
use Rattle.sc_deck.specs.Events.{flat}
use Rattle.sc_deck.specs.Hierarchical.{hier}
use Rattle.sc_gate.specs.declared.gate.Gate.{Gate}
use Rattle.sc_sched.specs.Text.{IsTextOf, schedule_text}
use Rattle.sc_sched.specs.declared.plan.Plan.{Plan}
use Rattle.sc_top.specs.Answers.{Says, OfRequest, AreInOrder, HaveOutputs, done, watched, asked_in}
use Rattle.sc_words.proofs.WordsRange.{in_range}
use Rattle.sc_words.specs.Words.{request, InRange}
use Rattle.sc_meaning.specs.declared.choice.Choice.TheVariants.{Replace}
use Rattle.sc_top.specs.Drills.{drill_text, drill_summary}
use Rattle.sc_top.specs.Listed.{list_of}
use Rattle.sc_top.specs.Lowered.{lowered_text, back_text}
use Rattle.sc_top.specs.Shortened.{shortened_text}
use Rattle.sc_top.proofs.CoarseLemmas.{has_coarse}
use Rattle.sc_top.proofs.ListLemmas.{has_list}
use Rattle.sc_top.proofs.ModeLemmas.{has_summary, has_plan}
use Rattle.sc_top.proofs.OtherLemmas.{has_shortened}
use Rattle.sc_top.specs.Coarsened.{coarsened_text}
use Rattle.sc_top.specs.Endings.{Output}
use Rattle.sc_top.specs.Expansions.{whole, ones}
use Rattle.sc_top.specs.Sources.{modules_of}
use Rattle.sc_top.specs.Stages.{goes}
use Rattle.sc_top.specs.Verdicts.{VerdictsAreExact, judged}
use Rattle.sc_top.specs.Watching.{Watcher, asked_of}
use Rattle.sc_words.specs.declared.Request.{Request}
use Rattle.sc_words.specs.declared.Request.TheVariants.{Hier, Flat, Count, Schedule, Expand, Check, Drill, Coarse, ToOpen, FromOpen, Cancel}
use Rattle.sc_top.specs.Reports.{report_text}
use Rattle.sc_top.specs.Tallied.{durations}
use Rattle.sc_top.proofs.SourceLaws.{accepted_source, writable}

has_output : (held : List ℕ → Option (List ℕ)) (all : List Watcher) (job : Request) → InRange job → AreInOrder held job → (output : Output) × Says held all job (Ok output)
has_output held all (Hier file choice) range here =
    let (t, accepted) = here.so in
    (done (hier (modules_of t choice)), goes (modules_of t choice) _ (goes here.text _ (here.holds, here.within) (accepted_source here.text t choice accepted)) refl)
has_output held all (Flat file choice limit kinds burst window reach) range here =
    let (t, accepted, fits) = here.so in
    let modules = modules_of t choice in (
      watched (asked_in (Flat file choice limit kinds burst window reach) all) modules,
      goes modules _ (goes modules _ (goes here.text _ (here.holds, here.within) (accepted_source here.text t choice accepted)) (writable limit modules fits)) refl,
    )
has_output held all (Count file choice times) range here =
    let (t, accepted, within) = here.so in
    let modules = modules_of t choice in
    let s = has_summary (durations times) modules within in
    (done (report_text (is_some times) s.0), goes s.0 _ (goes modules _ (goes here.text _ (here.holds, here.within) (accepted_source here.text t choice accepted)) s.1) refl)
has_output held all (Schedule file choice k d lpfs times) range here =
    let (t, accepted, fits) = here.so in
    let modules = modules_of t choice in
    let plan = has_plan k d lpfs (durations times) modules range.0 fits in
    (done (schedule_text plan.0), goes plan.0 _ (goes modules _ (goes here.text _ (here.holds, here.within) (accepted_source here.text t choice accepted)) plan.1) refl)
has_output held all (Expand file limit) range here =
    let (modules, read, fits) = here.so in
    (done (flat (whole modules)), goes modules _ (goes here.text _ (here.holds, here.within) (goes modules _ read (writable limit modules fits))) refl)
has_output held all (Check list schedule) range here =
    let (gates, read, there) = here.so in
    let (plan, is) = there.so in (
      judged (finding gates.gates plan),
      goes (finding gates.gates plan) _ (goes here.text _ (here.holds, here.within) (goes there.text _ (there.holds, there.within) (goes gates _ read (goes plan _ is refl)))) refl,
    )
has_output held all (Drill n) range here =
    let (t, accepted, within) = here in
    let modules = modules_of t Replace in
    let (summary, is) = has_summary ones modules within in
    (done (drill_summary n summary), goes summary _ (goes modules _ (accepted_source (drill_text n) t Replace accepted) is) refl)
has_output held all (Coarse file choice k d lpfs) range here =
    let (t, accepted, fits) = here.so in
    let modules = modules_of t choice in
    let c = has_coarse k d lpfs modules range.0 fits in
    (done (coarsened_text k d c.0), goes c.0 _ (goes modules _ (goes here.text _ (here.holds, here.within) (accepted_source here.text t choice accepted)) c.1) refl)
has_output held all (ToOpen file choice) range here =
    let (t, accepted, fits) = here.so in
    let modules = modules_of t choice in (
      done (lowered_text (list_of modules)),
      goes (list_of modules) _ (goes modules _ (goes here.text _ (here.holds, here.within) (accepted_source here.text t choice accepted)) (has_list ones modules fits)) refl,
    )
has_output held all (FromOpen file) range here =
    let (opened, read) = here.so in (done (back_text opened), goes opened _ (goes here.text _ (here.holds, here.within) read) refl)
has_output held all (Cancel file choice kinds burst window reach) range here =
    let (t, accepted, fits) = here.so in
    let modules = modules_of t choice in
    let asked = asked_of (record { kinds = kinds; burst = burst; window = window; reach = reach }) all in (
      done (shortened_text asked (list_of modules)),
      goes (shortened_text asked (list_of modules)) _ (goes modules _ (goes here.text _ (here.holds, here.within) (accepted_source here.text t choice accepted)) (has_shortened asked modules fits)) refl,
    )

of_output : (held : List ℕ → Option (List ℕ)) (all : List Watcher) (found : Option Request) → ((job : Request) → found ≡ Some job → InRange job) → OfRequest (AreInOrder held) found → (output : Output) × OfRequest (λ job. Says held all job (Ok output)) found
of_output held all None range order = absurd order
of_output held all (Some job) range order = has_output held all job (range job refl) order

pub have_outputs : HaveOutputs
have_outputs held all words order = of_output held all (request words) (in_range words) order

inside : (text : List ℕ) (gates : List Gate) (plan : Plan) → IsTextOf (length gates) text plan → All (λ step. All (λ region. All (λ x. x < length gates) region) step) plan.steps
inside text gates plan read =
    subst (λ (n : ℕ). All (λ step. All (λ region. All (λ x. x < n) region) step) plan.steps) read.gates_are (λ i d l. λ j e k. (read.has_text.regions i d l j e k).1)

pub verdicts_are_exact : VerdictsAreExact
verdicts_are_exact text gates plan read = (legal_from gates plan (inside text gates plan read), legal_to gates plan)
