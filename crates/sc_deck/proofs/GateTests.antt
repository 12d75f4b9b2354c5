-- Tests on calls tell that they are equal.
use Rattle.std.proofs.Common.{◌≡◌, ℕ, Bool, true, false, ◌&&◌, List, [], ◌∷◌, nat_eq, refl, sym, true≢false, eqb-true}
use Rattle.std.specs.Cmp.Lexicographic.{pointwise}
use Rattle.std.proofs.lemmas.Bool.{eq-eqb}
use Rattle.sc_gate.specs.declared.gate.Wire.{Wire}
use Rattle.sc_gate.specs.Wires.{same_wire}
use Rattle.sc_gate.proofs.WireLemmas.{same_wire-true, same_wire-refl}
use Rattle.sc_deck.specs.Turns.{same_call}

both_true : (s t : Bool) → (s && t) ≡ true → (s ≡ true) × (t ≡ true)
both_true true t h = (refl, h)
both_true false t h = absurd (true≢false (sym h))

pub same_wires-true : (vs ws : List Wire) → pointwise same_wire vs ws ≡ true → vs ≡ ws
same_wires-true [] [] h = refl
same_wires-true [] (w ∷ ws) h = absurd (true≢false (sym h))
same_wires-true (v ∷ vs) [] h = absurd (true≢false (sym h))
same_wires-true (v ∷ vs) (w ∷ ws) h =
    let p = both_true (same_wire v w) (pointwise same_wire vs ws) h in
    let a = same_wire-true v w p.0 in
    let b = same_wires-true vs ws p.1 in
    λ i. a i ∷ b i

pub same_call-true : (c : ℕ) (ws : List Wire) (d : ℕ) (vs : List Wire) → same_call c ws d vs ≡ true → (c ≡ d) × (ws ≡ vs)
same_call-true c ws d vs h =
    let p = both_true (nat_eq c d) (pointwise same_wire ws vs) h in
    (eqb-true c d p.0, same_wires-true ws vs p.1)

and_true : (s t : Bool) → s ≡ true → t ≡ true → (s && t) ≡ true
and_true s t p q = λ i. p i && q i

pub same_wires-refl : (ws : List Wire) → pointwise same_wire ws ws ≡ true
same_wires-refl [] = refl
same_wires-refl (w ∷ ws) = and_true (same_wire w w) (pointwise same_wire ws ws) (same_wire-refl w) (same_wires-refl ws)

pub same_call-refl : (c : ℕ) (ws : List Wire) → same_call c ws c ws ≡ true
same_call-refl c ws = and_true (nat_eq c c) (pointwise same_wire ws ws) (eq-eqb c c refl) (same_wires-refl ws)
