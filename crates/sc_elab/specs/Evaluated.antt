-- Evaluated arguments, as the code keeps them.
use Rattle.std.specs.Prelude.{ℕ, ◌-◌, nat_lt, if◌then◌else◌, Option, Some, None, List, [], ◌∷◌, map, length}
use Rattle.sc_base.specs.declared.Place.{Place}
use Rattle.sc_elab.specs.declared.arguments.Evaluated.{Evaluated}
use Rattle.sc_meaning.specs.Arguments.{Passed}
use Rattle.sc_elab.specs.Spans.{span_wires}

abbrev pub passed_by : Evaluated → Passed
passed_by e = record { at = e.at; arg = e.arg; wires = span_wires e.span }

abbrev pub all_passed : List Evaluated → List Passed
all_passed es = map passed_by es

-- the place of the argument that holds the wire at a position
abbrev pub holder : List Passed → ℕ → Option Place
holder [] i = None
holder (p ∷ ps) i = if nat_lt i (length p.wires) then Some p.at else holder ps (i - length p.wires)
