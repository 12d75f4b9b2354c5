-- Unfoldings on other wires and from other fresh numbers.
use Rattle.std.specs.Prelude.{◌≡◌, ℕ, ◌+◌, List, map}
use Rattle.sc_base.specs.declared.names.Class.{Class}
use Rattle.sc_gate.specs.declared.gate.Wire.{Wire}
use Rattle.sc_gate.specs.Gates.{class_of}
use Rattle.sc_deck.specs.Events.{rename_event}
use Rattle.sc_deck.specs.Keys.{param_classes}
use Rattle.sc_deck.specs.Modules.{Module}
use Rattle.sc_gate.specs.Numbers.{Numbers, number_of}
use Rattle.sc_deck.specs.Unfolding.{Unfolding}

abbrev pub wire : Class → ℕ → Wire
wire class number = record { class = class; number = number }

-- the renaming keeps classes, and takes the fresh wires from the one next numbers on to those from the other
pub record Renames (f : Wire → Wire) (next next' : Numbers) : Type 0 where
  pub classes : (w : Wire) → class_of (f w) ≡ class_of w
  pub fresh : (class : Class) (k : ℕ) → f (wire class (number_of class next + k)) ≡ wire class (number_of class next' + k)

-- On renamed wires and from the other next numbers on, a module unfolds to the same events with their wires renamed.
abbrev pub CanRename : Module → Unfolding → Type 0
CanRename m u =
    (f : Wire → Wire) (wires : List Wire) (next next' : Numbers) → map class_of wires ≡ param_classes m.key → Renames f next next' →
    u (map f wires) next' ≡ map (rename_event f) (u wires next)
