-- What the limit on open bodies does to a run.
use Rattle.std.specs.Prelude.{◌≡◌, ℕ, ◌≤◌, ◌⊎◌, List, ◌++◌}
use Rattle.sc_gate.specs.declared.gate.Wire.{Wire}
use Rattle.sc_gate.specs.Numbers.{Numbers}
use Rattle.sc_deck.specs.declared.Key.{Key}
use Rattle.sc_deck.specs.Events.{Event}
use Rattle.sc_meaning.specs.declared.fault.ElabFault.TheVariants.{TooDeep}
use Rattle.sc_meaning.specs.Definitions.{Program}
use Rattle.sc_meaning.specs.Outcomes.{Outcome, Stopped, events_of}
use Rattle.sc_meaning.specs.Run.{enter}

-- the second is the first, or stops after some of its events by `TooDeep`
abbrev pub CutBy : {A : Type 0} → Outcome A → Outcome A → Type 0
CutBy o o' = (o' ≡ o) ⊎ ((x : List Event) × (y : List Event) × (o' ≡ Stopped x TooDeep) × (events_of o ≡ x ++ y))

-- Where fewer bodies may be open, an entering is the same, or stops earlier by `TooDeep`.
abbrev pub DepthCuts : Type 0
DepthCuts =
    (program : Program) (n m : ℕ) → m ≤ n → (key : Key) (wires : List Wire) (next : Numbers)
    → CutBy (enter program n key wires next) (enter program m key wires next)
