-- Tests on wires tell what they test.
use Rattle.std.proofs.Common.{◌≡◌, ℕ, Bool, true, false, List, [], ◌∷◌, ◌⊎◌, inl, inr, refl, sym, ap, ◌∙◌, subst, eqb-true, eq-eqb, ◌↔◌, IsTrue}
use Rattle.std.specs.Prelude.{◌&&◌, ◌||◌, nat_eq}
use Rattle.std.specs.List.{list_any}
use Rattle.std.proofs.lemmas.Bool.{or_cases}
use Rattle.sc_base.specs.declared.names.Class.{Class}
use Rattle.sc_base.specs.declared.names.Class.TheVariants.{Q, C}
use Rattle.sc_gate.specs.declared.gate.Wire.{Wire}
use Rattle.sc_gate.specs.declared.gate.Gate.{Gate}
use Rattle.sc_gate.specs.Gates.{operands}
use Rattle.sc_gate.specs.Wires.{same_class, same_wire, member, Shares, shares}

and_true : (s t : Bool) → (s && t) ≡ true → (s ≡ true) × (t ≡ true)
and_true true t h = (refl, h)
and_true false t h = (h, (let e : false ≡ true = h in cc))

or_right : (s t : Bool) → t ≡ true → (s || t) ≡ true
or_right true t h = refl
or_right false t h = h

pub same_class-true : (c d : Class) → same_class c d ≡ true → c ≡ d
same_class-true Q Q h = refl
same_class-true Q C h = cc
same_class-true C Q h = cc
same_class-true C C h = refl

pub same_class-refl : (c : Class) → same_class c c ≡ true
same_class-refl Q = refl
same_class-refl C = refl

unfoldable wire_of : Class → ℕ → Wire
wire_of class number = record { class = class; number = number }

pub same_parts : (v w : Wire) → v.class ≡ w.class → v.number ≡ w.number → v ≡ w
unfolding wire_of
same_parts v w c n = ap (λ (x : Class). wire_of x v.number) c ∙ ap (λ (x : ℕ). wire_of w.class x) n

pub same_wire-true : (v w : Wire) → same_wire v w ≡ true → v ≡ w
same_wire-true v w h =
    let both = and_true (same_class v.class w.class) (nat_eq v.number w.number) h in
    same_parts v w (same_class-true v.class w.class both.0) (eqb-true v.number w.number both.1)

pub same_wire-refl : (w : Wire) → same_wire w w ≡ true
same_wire-refl w = ap (λ (t : Bool). t && nat_eq w.number w.number) (same_class-refl w.class) ∙ eq-eqb w.number w.number refl

pub member_here : (w : Wire) (ws : List Wire) → member w (w ∷ ws) ≡ true
member_here w ws = ap (λ (t : Bool). t || member w ws) (same_wire-refl w)

pub member_later : (v w : Wire) (ws : List Wire) → member w ws ≡ true → member w (v ∷ ws) ≡ true
member_later v w ws h = or_right (same_wire v w) (member w ws) h

first_or_later : (v w : Wire) (ws : List Wire) → (same_wire v w ≡ true) ⊎ (member w ws ≡ true) → (v ≡ w) ⊎ (member w ws ≡ true)
first_or_later v w ws (inl h) = inl (same_wire-true v w h)
first_or_later v w ws (inr h) = inr h

pub member_cases : (v w : Wire) (ws : List Wire) → member w (v ∷ ws) ≡ true → (v ≡ w) ⊎ (member w ws ≡ true)
member_cases v w ws h = first_or_later v w ws (or_cases (same_wire v w) (member w ws) h)

-- some wire of the first list is one of the second
abbrev pub Meet : List Wire → List Wire → Type 0
Meet vs ws = (w : Wire) × (member w vs ≡ true) × (member w ws ≡ true)

meet_by : (v : Wire) (vs ws : List Wire) → (list_any (λ w. member w ws) vs ≡ true → Meet vs ws) → (member v ws ≡ true) ⊎ (list_any (λ w. member w ws) vs ≡ true) → Meet (v ∷ vs) ws
meet_by v vs ws later (inl h) = (v, member_here v vs, h)
meet_by v vs ws later (inr h) = let m = later h in (m.0, member_later v m.0 vs m.1, m.2)

meet_from : (vs ws : List Wire) → list_any (λ w. member w ws) vs ≡ true → Meet vs ws
meet_from [] ws h = cc
meet_from (v ∷ vs) ws h = meet_by v vs ws (meet_from vs ws) (or_cases (member v ws) (list_any (λ w. member w ws) vs) h)

or_left : (s t : Bool) → s ≡ true → (s || t) ≡ true
or_left s t h = ap (λ (b : Bool). b || t) h

any_by : (v w : Wire) (vs ws : List Wire) → (member w vs ≡ true → list_any (λ w. member w ws) vs ≡ true) → member w ws ≡ true → (v ≡ w) ⊎ (member w vs ≡ true) → list_any (λ w. member w ws) (v ∷ vs) ≡ true
any_by v w vs ws later k (inl e) = or_left (member v ws) (list_any (λ w. member w ws) vs) (subst (λ (x : Wire). member x ws ≡ true) (sym e) k)
any_by v w vs ws later k (inr h) = or_right (member v ws) (list_any (λ w. member w ws) vs) (later h)

any_from : (w : Wire) (vs ws : List Wire) → member w vs ≡ true → member w ws ≡ true → list_any (λ w. member w ws) vs ≡ true
any_from w [] ws h k = cc
any_from w (v ∷ vs) ws h k = any_by v w vs ws (λ m. any_from w vs ws m k) k (member_cases v w vs h)

pub shares_tells : (g h : Gate) → IsTrue (shares g h) ↔ Shares g h
shares_tells g h = (meet_from (operands g) (operands h), λ m. any_from m.0 (operands g) (operands h) m.1 m.2)
