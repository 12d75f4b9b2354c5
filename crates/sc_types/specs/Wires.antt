-- The checks of operands and arguments.
use Rattle.std.specs.Prelude.{ℕ, Bool, true, false, nat_eq, Option, Some, None, List, [], ◌∷◌, ◌++◌}
use Rattle.sc_base.specs.declared.Place.{Place}
use Rattle.sc_base.specs.declared.Class.{Class}
use Rattle.sc_base.specs.declared.Class.TheVariants.{Q, C}
use Rattle.sc_base.specs.declared.GateName.{GateName}
use Rattle.sc_base.specs.declared.GateName.TheVariants as gate
use Rattle.sc_syntax.specs.declared.NameKind.{NameKind}
use Rattle.sc_syntax.specs.declared.NameKind.TheVariants as kind
use Rattle.sc_syntax.specs.Alike.{PureExpr, PureNode, PureNamed}
use Rattle.sc_syntax.specs.NameKind.{Kinds}
use Rattle.sc_types.specs.declared.want.Want.{Want}
use Rattle.sc_types.specs.declared.want.Want.TheVariants.{OneWire, ManyWires, Word, AnInt, ADouble}
use Rattle.sc_types.specs.declared.fault.TypeFault.TheVariants.{UnknownName, WrongKind}
use Rattle.sc_types.specs.Checks.{Check, check}
use Rattle.sc_types.specs.Numbers.{number_checks, int_checks}

abbrev pub same_class : Class → Class → Bool
same_class Q Q = true
same_class C C = true
same_class _ _ = false

-- a name of this kind, without an index, is what is wanted
abbrev pub suits : Want → NameKind → Bool
suits (OneWire c) (kind.One d) = same_class c d
suits (ManyWires c) (kind.Many d) = same_class c d
suits Word (kind.One d) = same_class Q d
suits Word (kind.Many d) = same_class Q d
suits _ _ = false

-- one element of a name of this kind is what is wanted: what has no length is not indexed
abbrev pub suits_indexed : Want → NameKind → Bool
suits_indexed (OneWire c) (kind.Many d) = same_class c d
suits_indexed Word (kind.Many d) = same_class Q d
suits_indexed _ _ = false

-- a name is known, and is what is wanted
abbrev pub is_wire : (NameKind → Bool) → Place → Option NameKind → Check
is_wire suited at None = check false (UnknownName at)
is_wire suited at (Some k) = check (suited k) (WrongKind at)

-- a wire is a name or an indexed name: the name and its kind, then the index; what is no name is walked no further
abbrev pub wire_node : Kinds → Want → Place → PureNode → List Check
wire_node ks want at (PureNode.name t) = is_wire (suits want) at (ks t) ∷ []
wire_node ks want at (PureNode.index t p n) = is_wire (suits_indexed want) at (ks t) ∷ int_checks ks (record { place = p; node = n })
wire_node ks want at _ = check false (WrongKind at) ∷ []

abbrev pub argument_checks : Kinds → Want → PureExpr → List Check
argument_checks ks AnInt e = int_checks ks e
argument_checks ks ADouble e = number_checks ks e
argument_checks ks want e = wire_node ks want e.place e.node

-- an operand of a measurement
abbrev pub operand_checks : Kinds → Want → PureNamed → List Check
operand_checks ks want o = by_index o.value
  where
    by_index : Option PureExpr → List Check
    by_index None = is_wire (suits want) o.name.place (ks o.name.text) ∷ []
    by_index (Some e) = is_wire (suits_indexed want) o.name.place (ks o.name.text) ∷ int_checks ks e

-- the arguments from left to right
abbrev pub arguments_checks : Kinds → List Want → List PureExpr → List Check
arguments_checks ks [] es = []
arguments_checks ks (w ∷ ws) [] = []
arguments_checks ks (w ∷ ws) (e ∷ es) = argument_checks ks w e ++ arguments_checks ks ws es

-- what a gate takes; a preparation takes a start value where it has two arguments
abbrev pub gate_wants : GateName → ℕ → List Want
gate_wants gate.Cnot n = OneWire Q ∷ OneWire Q ∷ []
gate_wants gate.Toffoli n = OneWire Q ∷ OneWire Q ∷ OneWire Q ∷ []
gate_wants gate.Fredkin n = OneWire Q ∷ OneWire Q ∷ OneWire Q ∷ []
gate_wants gate.Rx n = OneWire Q ∷ ADouble ∷ []
gate_wants gate.Ry n = OneWire Q ∷ ADouble ∷ []
gate_wants gate.Rz n = OneWire Q ∷ ADouble ∷ []
gate_wants gate.PrepX n = prepared (nat_eq n 2)
  where
    prepared : Bool → List Want
    prepared true = OneWire Q ∷ AnInt ∷ []
    prepared false = OneWire Q ∷ []
gate_wants gate.PrepZ n = prepared (nat_eq n 2)
  where
    prepared : Bool → List Want
    prepared true = OneWire Q ∷ AnInt ∷ []
    prepared false = OneWire Q ∷ []
gate_wants _ n = OneWire Q ∷ []
