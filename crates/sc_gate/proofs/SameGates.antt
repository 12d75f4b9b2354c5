-- Tests on kinds, optional wires and gates tell that they are equal.
use Rattle.std.proofs.Common.{◌≡◌, Bool, true, false, ◌&&◌, Option, Some, None, nat_eq, refl, sym, ap, ◌∙◌, subst, true≢false, eqb-true, eq-eqb, ◌↔◌, IsTrue}
use Rattle.std.specs.Prelude.{ℤ, pos}
use Rattle.std.specs.Ordering.{int_eq}
use Rattle.std.proofs.lemmas.Bool.Decides.{Decides-int_eq}
use Rattle.sc_base.specs.declared.names.GateName.{GateName}
use Rattle.sc_base.specs.declared.names.GateName.TheVariants as name
use Rattle.sc_base.proofs.GateNameLemmas.{place_of-apart}
use Rattle.sc_gate.specs.declared.gate.Wire.{Wire}
use Rattle.sc_gate.specs.declared.gate.Kind.{Kind}
use Rattle.sc_gate.specs.declared.gate.Kind.TheVariants as kind
use Rattle.sc_gate.specs.declared.gate.Gate.{Gate}
use Rattle.sc_gate.specs.Gates.{name_of, place_of}
use Rattle.sc_gate.specs.Wires.{same_wire}
use Rattle.sc_gate.proofs.WireLemmas.{same_wire-true, same_wire-refl}
use Rattle.sc_gate.specs.SameGates.{value_of, same_kind, same_option, same_gate}

both_true : (s t : Bool) → (s && t) ≡ true → (s ≡ true) × (t ≡ true)
both_true true t h = (refl, h)
both_true false t h = absurd (true≢false (sym h))

-- the kind of a name with a value
unfoldable pub kind_of : GateName → ℤ → Kind
kind_of name.X v = kind.X
kind_of name.Y v = kind.Y
kind_of name.Z v = kind.Z
kind_of name.H v = kind.H
kind_of name.S v = kind.S
kind_of name.T v = kind.T
kind_of name.Sdag v = kind.Sdag
kind_of name.Tdag v = kind.Tdag
kind_of name.Cnot v = kind.Cnot
kind_of name.Toffoli v = kind.Toffoli
kind_of name.Fredkin v = kind.Fredkin
kind_of name.Rx v = kind.Rx (record { 0 = v })
kind_of name.Ry v = kind.Ry (record { 0 = v })
kind_of name.Rz v = kind.Rz (record { 0 = v })
kind_of name.PrepX v = kind.PrepX (int_eq v (pos 1))
kind_of name.PrepZ v = kind.PrepZ (int_eq v (pos 1))
kind_of name.MeasX v = kind.MeasX
kind_of name.MeasZ v = kind.MeasZ

pub kind_again : (k : Kind) → kind_of (name_of k) (value_of k) ≡ k
unfolding kind_of
kind_again kind.X = refl
kind_again kind.Y = refl
kind_again kind.Z = refl
kind_again kind.H = refl
kind_again kind.S = refl
kind_again kind.T = refl
kind_again kind.Sdag = refl
kind_again kind.Tdag = refl
kind_again kind.Cnot = refl
kind_again kind.Toffoli = refl
kind_again kind.Fredkin = refl
kind_again (kind.Rx angle) = refl
kind_again (kind.Ry angle) = refl
kind_again (kind.Rz angle) = refl
kind_again (kind.PrepX true) = refl
kind_again (kind.PrepX false) = refl
kind_again (kind.PrepZ true) = refl
kind_again (kind.PrepZ false) = refl
kind_again kind.MeasX = refl
kind_again kind.MeasZ = refl

pub same_kind-true : (k l : Kind) → same_kind k l ≡ true → k ≡ l
same_kind-true k l h =
    let p = both_true (nat_eq (place_of (name_of k)) (place_of (name_of l))) (int_eq (value_of k) (value_of l)) h in
    let names = place_of-apart (name_of k) (name_of l) (eqb-true (place_of (name_of k)) (place_of (name_of l)) p.0) in
    let values = (Decides-int_eq (value_of k) (value_of l)).0 p.1 in
    sym (kind_again k) ∙ (λ i. kind_of (names i) (values i)) ∙ kind_again l

pub same_option-true : (v w : Option Wire) → same_option v w ≡ true → v ≡ w
same_option-true None None h = refl
same_option-true None (Some w) h = absurd (true≢false (sym h))
same_option-true (Some v) None h = absurd (true≢false (sym h))
same_option-true (Some v) (Some w) h = ap Some (same_wire-true v w h)

pub same_gate-true : (g h : Gate) → same_gate g h ≡ true → g ≡ h
same_gate-true g h t =
    let p = both_true (same_kind g.kind h.kind) (same_wire g.a h.a && (same_option g.b h.b && same_option g.c h.c)) t in
    let q = both_true (same_wire g.a h.a) (same_option g.b h.b && same_option g.c h.c) p.1 in
    let r = both_true (same_option g.b h.b) (same_option g.c h.c) q.1 in
    let k = same_kind-true g.kind h.kind p.0 in
    let a = same_wire-true g.a h.a q.0 in
    let b = same_option-true g.b h.b r.0 in
    let c = same_option-true g.c h.c r.1 in
    λ i. record { kind = k i; a = a i; b = b i; c = c i }

-- a test that passes at equal things decides equality
both : (s t : Bool) → s ≡ true → t ≡ true → (s && t) ≡ true
both s t h k = ap (λ (b : Bool). b && t) h ∙ k

pub same_kind-refl : (k : Kind) → same_kind k k ≡ true
same_kind-refl k =
    both (nat_eq (place_of (name_of k)) (place_of (name_of k))) (int_eq (value_of k) (value_of k)) (eq-eqb (place_of (name_of k)) (place_of (name_of k)) refl)
    ((Decides-int_eq (value_of k) (value_of k)).1 refl)

pub same_option-refl : (v : Option Wire) → same_option v v ≡ true
same_option-refl None = refl
same_option-refl (Some v) = same_wire-refl v

pub same_gate-refl : (g : Gate) → same_gate g g ≡ true
same_gate-refl g =
    both (same_kind g.kind g.kind) (same_wire g.a g.a && (same_option g.b g.b && same_option g.c g.c)) (same_kind-refl g.kind)
    (both (same_wire g.a g.a) (same_option g.b g.b && same_option g.c g.c) (same_wire-refl g.a)
    (both (same_option g.b g.b) (same_option g.c g.c) (same_option-refl g.b) (same_option-refl g.c)))

pub same_kind-decides : (k l : Kind) → IsTrue (same_kind k l) ↔ (k ≡ l)
same_kind-decides k l = (same_kind-true k l, λ e. subst (λ (x : Kind). same_kind k x ≡ true) e (same_kind-refl k))

pub same_option-decides : (v w : Option Wire) → IsTrue (same_option v w) ↔ (v ≡ w)
same_option-decides v w = (same_option-true v w, λ e. subst (λ (x : Option Wire). same_option v x ≡ true) e (same_option-refl v))

pub same_gate-decides : (g h : Gate) → IsTrue (same_gate g h) ↔ (g ≡ h)
same_gate-decides g h = (same_gate-true g h, λ e. subst (λ (x : Gate). same_gate g x ≡ true) e (same_gate-refl g))

-- gates of one kind are equal where a test of their operands passes
pub equal_parts : (g h : Gate) {t : Bool} → g.kind ≡ h.kind → IsTrue t ↔ ((g.a ≡ h.a) × (g.b ≡ h.b) × (g.c ≡ h.c)) → IsTrue t ↔ (g ≡ h)
equal_parts g h k tells = (
  λ t. let p = tells.0 t in λ i. record { kind = k i; a = p.0 i; b = p.1 i; c = p.2 i },
  λ e. tells.1 (ap (λ (x : Gate). x.a) e, ap (λ (x : Gate). x.b) e, ap (λ (x : Gate). x.c) e),
)

-- gates of other kinds differ
pub other_kinds : (g h : Gate) {t : Bool} → IsTrue t ↔ (g.kind ≡ h.kind) → t ≡ false → IsTrue t ↔ (g ≡ h)
other_kinds g h tells fails =
    (λ t. absurd (true≢false (sym t ∙ fails)), λ e. absurd (true≢false (sym (tells.1 (ap (λ (x : Gate). x.kind) e)) ∙ fails)))
