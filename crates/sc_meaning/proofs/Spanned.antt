-- The wires of a span.
use Rattle.std.proofs.Common.{◌≡◌, ℕ, zero, suc, ◌+◌, ◌<◌, ◌≤◌, List, [], ◌∷◌, ◌++◌, length, Some, None, refl, ap, ◌∙◌, arith}
use Rattle.std.specs.Prelude.{slice_get}
use Rattle.sc_base.specs.declared.Class.{Class}
use Rattle.sc_gate.specs.declared.gate.Wire.{Wire}
use Rattle.sc_deck.specs.Unfolding.{wires_from}

abbrev pub wire : Class → ℕ → Wire
wire c n = record { class = c; number = n }

pub length_made : (c : Class) (first n : ℕ) → length (wires_from c first n) ≡ n
length_made c first zero = refl
length_made c first (suc n) = let h : length (wires_from c (suc first) n) ≡ n = length_made c (suc first) n in omega arith

pub get_made : (c : Class) (first n i : ℕ) → i < n → slice_get (wires_from c first n) i ≡ Some (wire c (first + i))
get_made c first zero i h = absurd (omega arith)
get_made c first (suc n) zero h = let e : first ≡ first + 0 = omega arith in ap (λ (k : ℕ). Some (wire c k)) e
get_made c first (suc n) (suc i) h =
    let e : suc first + i ≡ first + suc i = omega arith in
    get_made c (suc first) n i (omega arith) ∙ ap (λ (k : ℕ). Some (wire c k)) e

pub get_past : (c : Class) (first n i : ℕ) → n ≤ i → slice_get (wires_from c first n) i ≡ None
get_past c first zero i h = refl
get_past c first (suc n) zero h = absurd (omega arith)
get_past c first (suc n) (suc i) h = get_past c (suc first) n i (omega arith)

pub made_one : (c : Class) (first : ℕ) → wires_from c first 1 ≡ wire c first ∷ []
made_one c first = refl

pub made_more : (c : Class) (first n : ℕ) → wires_from c first (n + 1) ≡ wires_from c first n ++ wire c (first + n) ∷ []
made_more c first n = more n first
  where
    more : (n first : ℕ) → wires_from c first (n + 1) ≡ wires_from c first n ++ wire c (first + n) ∷ []
    more zero first = let e : first ≡ first + 0 = omega arith in ap (λ (k : ℕ). wire c k ∷ []) e
    more (suc n) first =
        let e : suc n + 1 ≡ suc (n + 1) = omega arith in
        let f : suc first + n ≡ first + suc n = omega arith in
        ap (λ (k : ℕ). wires_from c first k) e
        ∙ ap (λ (ws : List Wire). wire c first ∷ ws) (more n (suc first))
        ∙ ap (λ (k : ℕ). wire c first ∷ (wires_from c (suc first) n ++ wire c k ∷ [])) f
