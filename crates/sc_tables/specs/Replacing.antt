-- What stands in the place of each gate where Toffoli and Fredkin gates are replaced.
use Rattle.std.specs.Prelude.{IsTrue, List, [], ◌∷◌, Option, Some, None}
use Rattle.std.specs.List.{AllByRecursion}
use Rattle.sc_gate.specs.declared.gate.Wire.{Wire}
use Rattle.sc_gate.specs.declared.gate.Kind.{Kind}
use Rattle.sc_gate.specs.declared.gate.Kind.TheVariants.{Toffoli, Fredkin}
use Rattle.sc_gate.specs.declared.gate.Gate.{Gate}
use Rattle.sc_gate.specs.Gates.{operands}
use Rattle.sc_gate.specs.Wires.{member}
use Rattle.sc_tables.specs.Tables.{toffoli_list, fredkin_list}

-- the gates for a gate of this kind with these second and third operands
abbrev pub replaced_on : Gate → Kind → Option Wire → Option Wire → List Gate
replaced_on gate Toffoli (Some b) (Some c) = toffoli_list gate.a b c
replaced_on gate Fredkin (Some b) (Some c) = fredkin_list gate.a b c
replaced_on gate kind b c = gate ∷ []

-- a Toffoli and a Fredkin by their lists, every other gate by itself
abbrev pub replaced : Gate → List Gate
replaced gate = replaced_on gate gate.kind gate.b gate.c

-- each operand of the second gate is one of the first
abbrev pub HasOperandsOf : Gate → Gate → Type 0
HasOperandsOf gate other = AllByRecursion (λ w. IsTrue (member w (operands gate))) (operands other)
