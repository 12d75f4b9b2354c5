-- The enterings of a run, and the instances of their keys.
use Rattle.std.specs.Prelude.{◌≡◌, ℕ, Some, None, List, [], ◌∷◌, ◌++◌, slice_get}
use Rattle.std.specs.Option.{option_map}
use Rattle.sc_gate.specs.declared.gate.Wire.{Wire}
use Rattle.sc_gate.specs.Numbers.{Numbers, no_wires}
use Rattle.sc_deck.specs.declared.Key.{Key}
use Rattle.sc_deck.specs.Events.{Event, Enter, Return, after_events}
use Rattle.sc_deck.specs.Modules.{Module, key_of}
use Rattle.sc_deck.specs.Keys.{param_classes}
use Rattle.sc_deck.specs.Unfolding.{numbered, unfold_on}
use Rattle.sc_types.specs.Typing.{TypedSource, IsChecked}
use Rattle.sc_meaning.specs.declared.choice.Choice.{Choice}
use Rattle.sc_meaning.specs.Definitions.{Program}
use Rattle.sc_meaning.specs.Instances.{chosen_events, number_in_deck, read}
use Rattle.sc_meaning.specs.Local.{local, nothing, make}
use Rattle.sc_meaning.specs.Meaning.{run, refusal, instances}
use Rattle.sc_meaning.specs.Outcomes.{events_of}
use Rattle.sc_meaning.specs.Programs.{program_of}

-- what is read from an entering by itself, as if a caller had just its wires
abbrev pub read_alone : Choice → Key → List Wire → List Event → Numbers → List Module
read_alone choice key wires inside next =
    read choice (Enter key wires ∷ (inside ++ Return key ∷ [])) (record { wires = []; places = wires; items = [] } ∷ []) [] next

-- what an entering of a key makes in local numbers
abbrev pub key_modules : Choice → Program → Key → List Module
key_modules choice program key = (make choice (events_of (local program 256 key (numbered (param_classes key) no_wires) no_wires)) nothing).deck

-- An entering goes on until its return. Read by itself it gives the modules of its key, whatever its wires. Among the instances one
-- has its key, and unfolds on its wires and from its next fresh ones on to its events.
pub record IsInstance (program : Program) (modules : List Module) (choice : Choice) (key : Key) (wires : List Wire) (next : Numbers) (rest : List Event) : Type 0 where
  pub inside : List Event
  pub behind : List Event
  pub is : rest ≡ inside ++ Return key ∷ behind
  pub alone : read_alone choice key wires inside next ≡ key_modules choice program key
  pub found : option_map key_of (slice_get modules (number_in_deck modules key)) ≡ Some key
  pub unfolds : unfold_on modules (number_in_deck modules key) wires next ≡ chosen_events choice (Enter key wires ∷ (inside ++ Return key ∷ []))

-- So is each entering in a run that is not refused. So the enterings of one key have the same items, and but for their wires the
-- same events.
abbrev pub EachIsInstance : Type 0
EachIsInstance =
    (t : TypedSource) (main : ℕ) → IsChecked t main → refusal t ≡ None → (choice : Choice) (before rest : List Event) (key : Key) (wires : List Wire)
    → events_of (run t) ≡ before ++ Enter key wires ∷ rest → IsInstance (program_of t) (instances t choice) choice key wires (after_events no_wires before) rest
