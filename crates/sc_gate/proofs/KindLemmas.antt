-- Kinds and their names.
use Rattle.std.proofs.Common.{◌≡◌, Bool, Option, Some, None, inl, inr, refl, subst}
use Rattle.sc_base.specs.declared.names.Fixed.{Fixed}
use Rattle.sc_base.specs.declared.names.GateName.{GateName}
use Rattle.sc_base.specs.declared.names.GateName.TheVariants as name
use Rattle.sc_gate.specs.declared.gate.Kind.{Kind}
use Rattle.sc_gate.specs.declared.gate.Kind.TheVariants as kind
use Rattle.sc_gate.specs.Gates.{name_of}
use Rattle.sc_gate.specs.Kinds.{plain_kind, rotation_kind, preparation_kind, IsNamed}

-- the kind, where there is one, has this name
abbrev HasName : GateName → Option Kind → Type 0
HasName n None = Unit {0}
HasName n (Some k) = name_of k ≡ n

plain_has : (n : GateName) → HasName n (plain_kind n)
plain_has name.X = refl
plain_has name.Y = refl
plain_has name.Z = refl
plain_has name.H = refl
plain_has name.S = refl
plain_has name.T = refl
plain_has name.Sdag = refl
plain_has name.Tdag = refl
plain_has name.Cnot = refl
plain_has name.Toffoli = refl
plain_has name.Fredkin = refl
plain_has name.Rx = tt
plain_has name.Ry = tt
plain_has name.Rz = tt
plain_has name.PrepX = tt
plain_has name.PrepZ = tt
plain_has name.MeasX = refl
plain_has name.MeasZ = refl

rotation_has : (n : GateName) (angle : Fixed) → HasName n (rotation_kind n angle)
rotation_has name.Rx angle = refl
rotation_has name.Ry angle = refl
rotation_has name.Rz angle = refl
rotation_has _ angle = tt

preparation_has : (n : GateName) (start : Bool) → HasName n (preparation_kind n start)
preparation_has name.PrepX start = refl
preparation_has name.PrepZ start = refl
preparation_has _ start = tt

pub plain_kind-name : (n : GateName) (k : Kind) → plain_kind n ≡ Some k → name_of k ≡ n
plain_kind-name n k e = subst (HasName n) e (plain_has n)

pub rotation_kind-name : (n : GateName) (angle : Fixed) (k : Kind) → rotation_kind n angle ≡ Some k → name_of k ≡ n
rotation_kind-name n angle k e = subst (HasName n) e (rotation_has n angle)

pub preparation_kind-name : (n : GateName) (start : Bool) (k : Kind) → preparation_kind n start ≡ Some k → name_of k ≡ n
preparation_kind-name n start k e = subst (HasName n) e (preparation_has n start)

pub kind_named : (k : Kind) → IsNamed k
kind_named kind.X = inl refl
kind_named kind.Y = inl refl
kind_named kind.Z = inl refl
kind_named kind.H = inl refl
kind_named kind.S = inl refl
kind_named kind.T = inl refl
kind_named kind.Sdag = inl refl
kind_named kind.Tdag = inl refl
kind_named kind.Cnot = inl refl
kind_named kind.Toffoli = inl refl
kind_named kind.Fredkin = inl refl
kind_named (kind.Rx angle) = inr (inl (angle, refl))
kind_named (kind.Ry angle) = inr (inl (angle, refl))
kind_named (kind.Rz angle) = inr (inl (angle, refl))
kind_named (kind.PrepX start) = inr (inr (start, refl))
kind_named (kind.PrepZ start) = inr (inr (start, refl))
kind_named kind.MeasX = inl refl
kind_named kind.MeasZ = inl refl
