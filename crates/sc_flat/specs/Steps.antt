-- One step of a walk.
use Rattle.std.specs.Prelude.{◌≡◌, ◌≤◌, List, [], ◌∷◌, ◌++◌, length}
use Rattle.sc_gate.specs.declared.gate.Gate.{Gate}
use Rattle.sc_deck.specs.Events.{Event, gates_in, after_events}
use Rattle.sc_deck.specs.Modules.{Module}
use Rattle.sc_flat.specs.declared.step.Step.{Step}
use Rattle.sc_flat.specs.declared.step.Step.TheVariants as step
use Rattle.sc_flat.specs.declared.walk.Walk.{Walk}
use Rattle.sc_flat.specs.declared.frames.Frame.{Frame}
use Rattle.sc_flat.specs.Walks.{numbers, rest, outside}

-- events at the front of those that were left are gone, at least one
pub record Went (modules : List Module) (old new : Walk) (gates : List Gate) : Type 0 where
  pub events : List Event
  pub some : 1 ≤ length events
  pub left : rest modules old ≡ events ++ rest modules new
  pub next : numbers new ≡ after_events (numbers old) events
  pub gates_are : gates_in events ≡ gates

-- a step that gives a gate, one that gives none, or none at all where no gate is left
abbrev pub Stepped : List Module → Walk → Step → Walk → Type 0
Stepped modules old (step.Gate gate) new = Went modules old new (gate ∷ [])
Stepped modules old step.Moved new = Went modules old new []
Stepped modules old step.Ended new = (gates_in (rest modules old) ≡ []) × (new ≡ old)

-- out of the innermost body, where it is not the outermost one
abbrev pub Leaves : Walk → Step → Walk → Type 0
Leaves old (step.Gate gate) new = ⊥
Leaves old step.Moved new = (f : Frame) × (frames : List Frame) × (old.below.frames ≡ f ∷ frames) × (new ≡ outside f frames old)
Leaves old step.Ended new = (old.below.frames ≡ []) × (new ≡ old)
