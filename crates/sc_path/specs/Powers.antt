-- Turns: gate lists one after another on the same parameter wires, each with fresh wires of its own.
use Rattle.std.specs.Prelude.{◌≡◌, ℕ, ◌+◌, ◌<◌, ◌⊎◌, Bool, true, false, List, [], ◌++◌, map, length, None, ◌-◌, ◌*◌, slice_index}
use Rattle.sc_gate.specs.declared.gate.Wire.{Wire}
use Rattle.sc_gate.specs.Chains.{Timed, timed, best}
use Rattle.sc_gate.specs.Numbers.{no_wires}
use Rattle.sc_deck.specs.Events.{gates_in}
use Rattle.sc_deck.specs.Keys.{param_classes, params_of}
use Rattle.sc_deck.specs.Modules.{Module}
use Rattle.sc_deck.specs.Unfolding.{numbered, repeated, unfold_on}
use Rattle.sc_gate.specs.Paths.{WiresAre, TakeTime}
use Rattle.sc_gate.specs.Renaming.{rename_timed, IsOneToOne}
use Rattle.sc_path.specs.declared.row.Entry.{Entry}
use Rattle.sc_path.specs.declared.fault.PathFault.{PathFault}
use Rattle.sc_path.specs.declared.fault.PathFault.TheVariants.{CountTooLarge, Memory}
use Rattle.sc_path.specs.Rows.{Passes}
use Rattle.sc_path.specs.Tables.{param, IsTable}
use Rattle.sc_path.specs.Fronts.{Sites, Stands}

-- a wire is one of the first k parameter wires
abbrev pub IsParam : ℕ → ℕ → Wire → Type 0
IsParam q k w = (u : ℕ) × (u < k) × (w ≡ param q u)

-- The gates `zs` are the gates `xs` and then the gates `ys` with other names of their fresh wires: parameter wires keep their
-- names, and no gate of `xs` has one of the new names.
pub record Follows (q k : ℕ) (xs ys zs : List Timed) : Type 0 where
  pub rename : Wire → Wire
  pub own : Wire → Bool
  pub one_to_one : IsOneToOne rename
  pub params : (u : ℕ) → u < k → rename (param q u) ≡ param q u
  pub shared : (u : ℕ) → u < k → own (param q u) ≡ false
  pub before : WiresAre (λ w. own w ≡ false) xs
  pub after : WiresAre (λ w. IsParam q k w ⊎ (own w ≡ true)) (map (rename_timed rename) ys)
  pub is : zs ≡ xs ++ map (rename_timed rename) ys

-- the gate lists of 0, 1, 2 and more turns
pub record AreTurns (q k : ℕ) (turns : ℕ → List Timed) : Type 0 where
  pub none : turns 0 ≡ []
  pub times : (n : ℕ) → TakeTime (turns n)
  pub adds : (a b : ℕ) → Follows q k (turns a) (turns b) (turns (a + b))

-- what chains see of the gates of n calls of module i, one after another on its parameter wires, each with fresh wires of its own
abbrev pub calls_in_a_row : List ℕ → List Module → ℕ → Module → ℕ → List Timed
calls_in_a_row times modules i m n =
    map (timed times) (gates_in (repeated n (unfold_on modules i (numbered (param_classes m.key) no_wires)) (params_of m.key)))

-- why a power is refused: a chain of its turns is too heavy
abbrev pub WhyPower : List (List Entry) → ℕ → PathFault → Type 0
WhyPower rows n Memory = Unit {0}
WhyPower rows n CountTooLarge = (q : ℕ) (turns : ℕ → List Timed) → AreTurns q (length rows - 1) turns → IsTable (turns 1) q (length rows - 1) rows → Passes (best (turns n) None None)

-- the rows and the starts are the parameter wires
abbrev pub params_at : ℕ → Sites
params_at q = record { at = param q; start = param q }

-- the numbers from 0 on
abbrev pub IsRange : List ℕ → Type 0
IsRange wires = (i : ℕ) → i < length wires → slice_index wires i ≡ i

-- why a turn is refused
abbrev pub WhyTurn : List (List Entry) → List ℕ → ℕ → List (List Entry) → PathFault → Type 0
WhyTurn rows last k table Memory = Unit {0}
WhyTurn rows last k table CountTooLarge =
    (q a b : ℕ) (turns : ℕ → List Timed) → AreTurns q k turns → Stands (turns a) (params_at q) rows last → IsTable (turns b) q k table → Passes (best (turns (a + b)) None None)

-- why two turns are refused
abbrev pub WhyTwice : List (List Entry) → ℕ → PathFault → Type 0
WhyTwice rows k Memory = Unit {0}
WhyTwice rows k CountTooLarge = (q b : ℕ) (turns : ℕ → List Timed) → AreTurns q k turns → IsTable (turns b) q k rows → Passes (best (turns (b + b)) None None)

-- why more turns are refused
abbrev pub WhyTurns : List (List Entry) → List ℕ → ℕ → List (List Entry) → ℕ → PathFault → Type 0
WhyTurns rows last k table n Memory = Unit {0}
WhyTurns rows last k table n CountTooLarge =
    (q a b : ℕ) (turns : ℕ → List Timed) → AreTurns q k turns → Stands (turns a) (params_at q) rows last → IsTable (turns b) q k table → Passes (best (turns (a + n * b)) None None)
