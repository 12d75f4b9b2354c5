-- Wires that stand next to one another, as the code keeps them.
use Rattle.std.specs.Prelude.{List}
use Rattle.sc_gate.specs.declared.gate.Wire.{Wire}
use Rattle.sc_deck.specs.Unfolding.{wires_from}
use Rattle.sc_elab.specs.declared.span.Span.{Span}

-- the wires of a span
abbrev pub span_wires : Span → List Wire
span_wires s = wires_from s.class s.first s.len
