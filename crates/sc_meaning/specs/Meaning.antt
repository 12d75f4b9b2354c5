-- The run of a source, its refusal, its meaning and its instances.
use Rattle.std.specs.Prelude.{◌≡◌, ℕ, ◌-◌, Option, Some, None, Result, Ok, Err, List, [], ◌∷◌, length, slice_get}
use Rattle.std.specs.Option.{option_map}
use Rattle.sc_gate.specs.declared.gate.Gate.{Gate}
use Rattle.sc_gate.specs.Numbers.{Numbers}
use Rattle.sc_deck.specs.Events.{Event, Enter, Fresh, Apply, Return, gates_in}
use Rattle.sc_deck.specs.Keys.{main_key}
use Rattle.sc_deck.specs.Modules.{Module, key_of}
use Rattle.sc_deck.specs.Turns.{folded_modules}
use Rattle.sc_deck.specs.Unfolding.{expansion}
use Rattle.sc_types.specs.Typing.{TypedSource, IsChecked}
use Rattle.sc_meaning.specs.declared.choice.Choice.{Choice}
use Rattle.sc_meaning.specs.declared.choice.Choice.TheVariants.{Keep}
use Rattle.sc_meaning.specs.declared.fault.ElabFault.{ElabFault}
use Rattle.sc_meaning.specs.Instances.{refusal_of, meaning_of, instances_of}
use Rattle.sc_meaning.specs.Outcomes.{Outcome, events_of}
use Rattle.sc_meaning.specs.Programs.{program_of}
use Rattle.sc_meaning.specs.Run.{run_program}

-- the run of a source
abbrev pub run : TypedSource → Outcome Numbers
run t = run_program (program_of t)

abbrev pub refusal : TypedSource → Option ElabFault
refusal t = refusal_of (run t)

abbrev pub meaning : TypedSource → Choice → List Gate
meaning t choice = meaning_of choice (events_of (run t))

abbrev pub instances : TypedSource → Choice → List Module
instances t choice = instances_of choice (events_of (run t))

-- ---- elaboration

abbrev pub unless_refused : Option ElabFault → List Module → Result (List Module) ElabFault
unless_refused None modules = Ok modules
unless_refused (Some fault) modules = Err fault

-- the refusal of a source, or its folded instances
abbrev pub elaborated : TypedSource → Choice → Result (List Module) ElabFault
elaborated t choice = unless_refused (refusal t) (folded_modules (instances t choice))

-- ---- expansion

-- the events but the gates
abbrev pub other_events : List Event → List Event
other_events [] = []
other_events (Enter key wires ∷ events) = Enter key wires ∷ other_events events
other_events (Fresh class n ∷ events) = Fresh class n ∷ other_events events
other_events (Apply gate ∷ events) = other_events events
other_events (Return key ∷ events) = Return key ∷ other_events events

-- the events of the last module with all its calls written out
abbrev pub expansion_of_last : List Module → List Event
expansion_of_last modules = expansion modules (length modules - 1)

-- Main is the last instance. The instances expand to the gates of the meaning and, gates aside, to the events of the run in their
-- order; where the gates are kept, to the events of the run. The folded instances expand to the same.
pub record Expands (t : TypedSource) (choice : Choice) : Type 0 where
  pub main_last : option_map key_of (slice_get (instances t choice) (length (instances t choice) - 1)) ≡ Some main_key
  pub gates : gates_in (expansion_of_last (instances t choice)) ≡ meaning t choice
  pub others : other_events (expansion_of_last (instances t choice)) ≡ other_events (events_of (run t))
  pub kept : choice ≡ Keep → expansion_of_last (instances t choice) ≡ events_of (run t)
  pub folded : expansion_of_last (folded_modules (instances t choice)) ≡ expansion_of_last (instances t choice)

-- so it is where a source has no refusal
abbrev pub AllExpand : Type 0
AllExpand = (t : TypedSource) (main : ℕ) → IsChecked t main → refusal t ≡ None → (choice : Choice) → Expands t choice
