-- EACH ENTERING in a run that is not refused is the instance of its key.
use Rattle.std.proofs.Common.{◌≡◌, ℕ, List, [], ◌∷◌, ◌++◌, length, Some, None, sym, ap, ◌∙◌, subst}
use Rattle.std.specs.Prelude.{nat_lt}
use Rattle.std.specs.Option.{option_map}
use Rattle.sc_gate.specs.declared.gate.Wire.{Wire}
use Rattle.sc_gate.specs.Numbers.{Numbers, with_more, no_wires}
use Rattle.sc_types.specs.Typing.{TypedSource, IsChecked}
use Rattle.sc_deck.specs.declared.key.Key.{Key}
use Rattle.sc_deck.specs.Events.{Event, Enter, Fresh, Apply, Return, after_events}
use Rattle.sc_deck.specs.Keys.{main_key}
use Rattle.sc_deck.specs.Modules.{Module, key_of}
use Rattle.sc_meaning.specs.declared.choice.Choice.{Choice}
use Rattle.sc_meaning.specs.Definitions.{Program}
use Rattle.sc_meaning.specs.Enterings.{EachIsInstance}
use Rattle.sc_meaning.specs.Instances.{refusal_of, entered_keys, instances_of}
use Rattle.sc_meaning.specs.Local.{local, Made}
use Rattle.sc_meaning.specs.Meaning.{run, refusal, instances}
use Rattle.sc_meaning.specs.Outcomes.{Outcome, Done, Stopped, events_of}
use Rattle.sc_meaning.specs.Programs.{program_of}
use Rattle.sc_meaning.specs.Run.{run_program}
use Rattle.sc_meaning.specs.Kept.{Each, In}
use Rattle.sc_meaning.proofs.Expansion.{good_by}
use Rattle.sc_meaning.proofs.Fitting.{source_fits, main_fits}
use Rattle.sc_meaning.proofs.Known.{Good, stands}
use Rattle.sc_meaning.proofs.Last.{each_mid}
use Rattle.sc_meaning.proofs.MoveActs.{CallBy}
use Rattle.sc_meaning.proofs.Moving.{CalledAt, AreCalls}
use Rattle.sc_meaning.proofs.Top.{all_events, main_moves, read_is, not_refused}

module _ (program : Program) (choice : Choice) (E : Key → List Wire → Numbers → List Event) where
  called_in : (next : Numbers) (before rest : List Event) (key : Key) (wires : List Wire) → AreCalls program choice E next (before ++ Enter key wires ∷ rest)
      → CalledAt program choice E key wires (after_events next before) rest
  called_in next [] rest key wires h = h.0
  called_in next (Enter k ws ∷ before) rest key wires h = called_in next before rest key wires h.1
  called_in next (Fresh c n ∷ before) rest key wires h = called_in (with_more c n next) before rest key wires h
  called_in next (Apply g ∷ before) rest key wires h = called_in next before rest key wires h
  called_in next (Return k ∷ before) rest key wires h = called_in next before rest key wires h

  -- what a run does that is not refused: its enterings, and that they have returned
  calls_by : (o q : Outcome Numbers) → CallBy program choice E o q no_wires [] no_wires → refusal_of q ≡ None
      → AreCalls program choice E no_wires (events_of q) × Each (λ k. In (instances_of choice (events_of q)) k) (events_of q)
  calls_by (Done lev k) (Done gev n) (e, a) none =
      let deck : a.laters [] ≡ instances_of choice gev = sym (ap (λ (m : Made). m.deck) (a.does [] [] [])) ∙ read_is program choice E lev gev n a in
      (a.calls, subst (λ (d : List Module). Each (λ k. In d k) gev) deck (a.there []))
  calls_by (Stopped lev f) (Stopped gev g) h none = absurd (not_refused (nat_lt 65536 (length (entered_keys gev []))) g none)
  calls_by (Done lev k) (Stopped gev g) h none = absurd h
  calls_by (Stopped lev f) (Done gev n) h none = absurd h

run_calls : (t : TypedSource) (i : ℕ) → IsChecked t i → refusal t ≡ None → (choice : Choice)
    → AreCalls (program_of t) choice (all_events choice (program_of t)) no_wires (events_of (run t)) × Each (λ k. In (instances t choice) k) (events_of (run t))
run_calls t i checked none choice =
    let program : Program = program_of t in
    calls_by program choice (all_events choice program) (local program 256 main_key [] no_wires) (run_program program)
    (main_moves choice program _ (source_fits t i checked) (main_fits t i checked)) none

-- what is known of an entering
pub entering_in : (t : TypedSource) (i : ℕ) → IsChecked t i → refusal t ≡ None → (choice : Choice) (before rest : List Event) (key : Key) (wires : List Wire)
    → events_of (run t) ≡ before ++ Enter key wires ∷ rest → CalledAt (program_of t) choice (all_events choice (program_of t)) key wires (after_events no_wires before) rest
entering_in t i checked none choice before rest key wires split =
    let program : Program = program_of t in
    let E : Key → List Wire → Numbers → List Event = all_events choice program in
    called_in program choice E no_wires before rest key wires (subst (AreCalls program choice E no_wires) split (run_calls t i checked none choice).0)

pub each_is_instance : EachIsInstance
each_is_instance t i checked none choice before rest key wires split =
    let program : Program = program_of t in
    let E : Key → List Wire → Numbers → List Event = all_events choice program in
    let deck : List Module = instances t choice in
    let c = entering_in t i checked none choice before rest key wires split in
    let returned : Each (λ k. In deck k) (before ++ Enter key wires ∷ rest) = subst (λ (es : List Event). Each (λ k. In deck k) es) split (run_calls t i checked none choice).1 in
    let here : In deck key = (each_mid (λ k. In deck k) before (Enter key wires ∷ rest) returned).0 in
    let s = stands deck key here in
    let good : Good E deck =
    good_by program choice E (local program 256 main_key [] no_wires) (run_program program) (main_moves choice program _ (source_fits t i checked) (main_fits t i checked)) none in
    record {
      inside = c.inner;
      behind = c.behind;
      is = c.is;
      alone = c.alone;
      found = ap (option_map key_of) s.is ∙ ap Some s.named;
      unfolds = good.known key wires (after_events no_wires before) here c.passes ∙ c.whole;
    }
