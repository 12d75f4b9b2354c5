-- Tests on wires, and gates that share one.
use Rattle.std.specs.Prelude.{◌≡◌, Bool, true, false, ◌&&◌, ◌||◌, nat_eq, List, [], ◌∷◌}
use Rattle.std.specs.List.{list_any}
use Rattle.sc_base.specs.declared.names.Class.{Class}
use Rattle.sc_base.specs.declared.names.Class.TheVariants.{Q, C}
use Rattle.sc_gate.specs.declared.gate.Wire.{Wire}
use Rattle.sc_gate.specs.declared.gate.Gate.{Gate}
use Rattle.sc_gate.specs.Gates.{operands}

abbrev pub same_class : Class → Class → Bool
same_class Q Q = true
same_class Q C = false
same_class C Q = false
same_class C C = true

-- the same class and the same number
abbrev pub same_wire : Wire → Wire → Bool
same_wire v w = same_class v.class w.class && nat_eq v.number w.number

-- the wire is one of these
abbrev pub member : Wire → List Wire → Bool
member w [] = false
member w (v ∷ vs) = same_wire v w || member w vs

-- a wire of both gates
abbrev pub Shares : Gate → Gate → Type 0
Shares g h = (w : Wire) × (member w (operands g) ≡ true) × (member w (operands h) ≡ true)

-- some operand of the one is an operand of the other
abbrev pub shares : Gate → Gate → Bool
shares g h = list_any (λ w. member w (operands h)) (operands g)
