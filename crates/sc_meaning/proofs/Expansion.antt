-- THE EXPANSION: the last instance with all its calls written out is the run.
use Rattle.std.proofs.Common.{◌≡◌, ℕ, suc, ◌-◌, List, [], ◌∷◌, ◌++◌, map, length, Option, Some, None, refl, sym, ap, ◌∙◌, subst, arith}
use Rattle.std.specs.Prelude.{slice_get, nat_lt}
use Rattle.std.specs.Option.{option_map, option_map_or}
use Rattle.std.proofs.lemmas.List.{length-map}
use Rattle.sc_gate.specs.declared.gate.Wire.{Wire}
use Rattle.sc_gate.specs.declared.gate.Gate.{Gate}
use Rattle.sc_gate.specs.Numbers.{Numbers, no_wires}
use Rattle.sc_types.specs.Accepted.{Taken}
use Rattle.sc_deck.specs.declared.key.Key.{Key}
use Rattle.sc_deck.specs.Events.{Event, Enter, Fresh, Apply, Return, gates_in}
use Rattle.sc_deck.specs.Keys.{main_key, param_classes, params_of}
use Rattle.sc_deck.specs.Modules.{Module, key_of}
use Rattle.sc_deck.specs.Turns.{folded_modules}
use Rattle.sc_deck.specs.Unfolding.{unfold_on, expansion, numbered}
use Rattle.sc_deck.proofs.TurnLaws.{expansion-folded}
use Rattle.sc_meaning.specs.declared.choice.Choice.{Choice}
use Rattle.sc_meaning.specs.declared.choice.Choice.TheVariants.{Keep}
use Rattle.sc_meaning.specs.Definitions.{Program, definition}
use Rattle.sc_meaning.specs.Instances.{chosen, chosen_events, refusal_of, meaning_of, number_in_deck, entered_keys, instances_of}
use Rattle.sc_meaning.specs.Local.{local, Made}
use Rattle.sc_meaning.specs.Meaning.{run, instances, other_events, expansion_of_last, AllExpand}
use Rattle.sc_meaning.specs.Outcomes.{Outcome, Done, Stopped, events_of}
use Rattle.sc_meaning.specs.Programs.{program_of}
use Rattle.sc_meaning.specs.Run.{run_program}
use Rattle.sc_meaning.specs.Kept.{In, FitsBy}
use Rattle.sc_meaning.proofs.Fitting.{source_fits, main_fits}
use Rattle.sc_meaning.proofs.Known.{Passes, Good, good_none, stands}
use Rattle.sc_meaning.proofs.MoveActs.{CallBy}
use Rattle.sc_meaning.proofs.MoveBodies.{IsFit}
use Rattle.sc_meaning.proofs.Top.{all_events, main_moves, read_is, main_last, not_refused}

-- ---- events with the chosen gates

applied_gates : (gs : List Gate) (es : List Event) → gates_in (map Apply gs ++ es) ≡ gs ++ gates_in es
applied_gates [] es = refl
applied_gates (g ∷ gs) es = ap (λ (hs : List Gate). g ∷ hs) (applied_gates gs es)

chosen_gates : (choice : Choice) (es : List Event) → gates_in (chosen_events choice es) ≡ meaning_of choice es
chosen_gates choice [] = refl
chosen_gates choice (Enter key wires ∷ es) = chosen_gates choice es
chosen_gates choice (Fresh c n ∷ es) = chosen_gates choice es
chosen_gates choice (Apply g ∷ es) = applied_gates (chosen choice g) (chosen_events choice es) ∙ ap (λ (hs : List Gate). chosen choice g ++ hs) (chosen_gates choice es)
chosen_gates choice (Return key ∷ es) = chosen_gates choice es

applied_others : (gs : List Gate) (es : List Event) → other_events (map Apply gs ++ es) ≡ other_events es
applied_others [] es = refl
applied_others (g ∷ gs) es = applied_others gs es

chosen_others : (choice : Choice) (es : List Event) → other_events (chosen_events choice es) ≡ other_events es
chosen_others choice [] = refl
chosen_others choice (Enter key wires ∷ es) = ap (λ (xs : List Event). Enter key wires ∷ xs) (chosen_others choice es)
chosen_others choice (Fresh c n ∷ es) = ap (λ (xs : List Event). Fresh c n ∷ xs) (chosen_others choice es)
chosen_others choice (Apply g ∷ es) = applied_others (chosen choice g) (chosen_events choice es) ∙ chosen_others choice es
chosen_others choice (Return key ∷ es) = ap (λ (xs : List Event). Return key ∷ xs) (chosen_others choice es)

chosen_kept : (es : List Event) → chosen_events Keep es ≡ es
chosen_kept [] = refl
chosen_kept (Enter key wires ∷ es) = ap (λ (xs : List Event). Enter key wires ∷ xs) (chosen_kept es)
chosen_kept (Fresh c n ∷ es) = ap (λ (xs : List Event). Fresh c n ∷ xs) (chosen_kept es)
chosen_kept (Apply g ∷ es) = ap (λ (xs : List Event). Apply g ∷ xs) (chosen_kept es)
chosen_kept (Return key ∷ es) = ap (λ (xs : List Event). Return key ∷ xs) (chosen_kept es)

-- ---- the module of a key

pub main_passes : Passes main_key [] no_wires
main_passes = record { classes = refl; distinct = tt; below = tt }

-- what main expands to, where it is the last module
expanded : (E : Key → List Wire → Numbers → List Event) (deck : List Module) → Good E deck → suc (number_in_deck deck main_key) ≡ length deck
    → (option_map key_of (slice_get deck (length deck - 1)) ≡ Some main_key) × (expansion_of_last deck ≡ E main_key [] no_wires)
expanded E deck good last =
    let i : In deck main_key = omega arith in
    let at : length deck - 1 ≡ number_in_deck deck main_key = omega arith in
    let s = stands deck main_key i in
    let here : slice_get deck (length deck - 1) ≡ Some s.found = ap (slice_get deck) at ∙ s.is in (
      ap (option_map key_of) here ∙ ap Some s.named,
      ap (λ (o : Option Module). option_map_or (λ m. unfold_on deck (length deck - 1) (numbered (param_classes m.key) no_wires) (params_of m.key)) o []) here
          ∙ ap (λ (k : Key). unfold_on deck (length deck - 1) (numbered (param_classes k) no_wires) (params_of k)) s.named
          ∙ ap (λ (j : ℕ). unfold_on deck j [] no_wires) at
          ∙ good.known main_key [] no_wires i main_passes,
    )

pub good_by : (program : Program) (choice : Choice) (E : Key → List Wire → Numbers → List Event) (o q : Outcome Numbers) → CallBy program choice E o q no_wires [] no_wires → refusal_of q ≡ None → Good E (instances_of choice (events_of q))
good_by program choice E (Done lev k) (Done gev n) (e, a) none =
    subst (Good E) (sym (ap (λ (m : Made). m.deck) (a.does [] [] [])) ∙ read_is program choice E lev gev n a) (a.good [] (good_none E))
good_by program choice E (Stopped lev f) (Stopped gev g) h none = absurd (not_refused (nat_lt 65536 (length (entered_keys gev []))) g none)
good_by program choice E (Done lev k) (Stopped gev g) h none = absurd h
good_by program choice E (Stopped lev f) (Done gev n) h none = absurd h

-- THE EXPANSION of a program's instances
program_expands : (choice : Choice) (program : Program) (taken : Taken) → IsFit program taken → FitsBy (definition program main_key.name) [] → refusal_of (run_program program) ≡ None
    → (option_map key_of (slice_get (instances_of choice (events_of (run_program program))) (length (instances_of choice (events_of (run_program program))) - 1)) ≡ Some main_key)
    × (expansion_of_last (instances_of choice (events_of (run_program program))) ≡ chosen_events choice (events_of (run_program program)))
program_expands choice program taken fit main none =
    expanded (all_events choice program) (instances_of choice (events_of (run_program program)))
    (good_by program choice (all_events choice program) (local program 256 main_key [] no_wires) (run_program program) (main_moves choice program taken fit main) none)
    (main_last choice program taken fit main none)

pub all_expand : AllExpand
all_expand t i checked none choice =
    let h = program_expands choice (program_of t) _ (source_fits t i checked) (main_fits t i checked) none in
    let same : length (folded_modules (instances t choice)) ≡ length (instances t choice) = length-map (instances t choice) _ in
    record {
      main_last = h.0;
      gates = ap gates_in h.1 ∙ chosen_gates choice (events_of (run t));
      others = ap other_events h.1 ∙ chosen_others choice (events_of (run t));
      kept = λ e. h.1 ∙ ap (λ (c : Choice). chosen_events c (events_of (run t))) e ∙ chosen_kept (events_of (run t));
      folded = ap (λ (n : ℕ). expansion (folded_modules (instances t choice)) (n - 1)) same ∙ expansion-folded (instances t choice) (length (instances t choice) - 1);
    }
