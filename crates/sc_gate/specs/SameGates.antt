-- Tests of kinds, optional wires and gates for equality.
use Rattle.std.specs.Prelude.{ℤ, pos, nat_eq, Bool, true, false, ◌&&◌, Option, Some, None, if◌then◌else◌}
use Rattle.std.specs.Ordering.{int_eq}
use Rattle.sc_gate.specs.declared.gate.Wire.{Wire}
use Rattle.sc_gate.specs.declared.gate.Kind.{Kind}
use Rattle.sc_gate.specs.declared.gate.Kind.TheVariants as kind
use Rattle.sc_gate.specs.declared.gate.Gate.{Gate}
use Rattle.sc_gate.specs.Gates.{name_of, place_of}
use Rattle.sc_gate.specs.Wires.{same_wire}

-- the angle of a rotation, 0 or 1 for the start value of a preparation, and 0 for every other kind
abbrev pub value_of : Kind → ℤ
value_of (kind.Rx angle) = angle.0
value_of (kind.Ry angle) = angle.0
value_of (kind.Rz angle) = angle.0
value_of (kind.PrepX start) = if start then pos 1 else pos 0
value_of (kind.PrepZ start) = if start then pos 1 else pos 0
value_of _ = pos 0

-- the same name and the same angle or start value
abbrev pub same_kind : Kind → Kind → Bool
same_kind k l = nat_eq (place_of (name_of k)) (place_of (name_of l)) && int_eq (value_of k) (value_of l)

abbrev pub same_option : Option Wire → Option Wire → Bool
same_option None None = true
same_option None (Some w) = false
same_option (Some v) None = false
same_option (Some v) (Some w) = same_wire v w

-- the same kind on the same wires
abbrev pub same_gate : Gate → Gate → Bool
same_gate g h = same_kind g.kind h.kind && (same_wire g.a h.a && (same_option g.b h.b && same_option g.c h.c))
