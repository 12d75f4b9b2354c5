-- Runs of neighbouring numbers.
use Rattle.std.proofs.Common.{◌≡◌, ℕ, zero, suc, ◌+◌, ◌<◌, ◌≤◌, List, [], ◌∷◌, ◌++◌, length, drop, refl, ap, ◌∙◌, arith}
use Rattle.std.proofs.lemmas.List.{length-append, length-drop}
use Rattle.sc_base.specs.declared.names.Class.{Class}
use Rattle.sc_base.specs.declared.names.Class.TheVariants.{Q, C}
use Rattle.sc_flat.specs.Frames.{Held, numbers_of, numbers_from, with_numbers, held_wires}

numbers_next : (first n : ℕ) → numbers_from first (suc n) ≡ numbers_from first n ++ (first + n) ∷ []
numbers_next first zero = let e : first ≡ first + 0 = omega arith in ap (λ k. k ∷ []) e
numbers_next first (suc n) =
    let e : suc first + n ≡ first + suc n = omega arith in
    ap (λ ns. first ∷ ns) (numbers_next (suc first) n ∙ ap (λ k. numbers_from (suc first) n ++ k ∷ []) e)

pub numbers_more : (first n : ℕ) → numbers_from first (n + 1) ≡ numbers_from first n ++ (first + n) ∷ []
numbers_more first n = let e : n + 1 ≡ suc n = omega arith in ap (numbers_from first) e ∙ numbers_next first n

pub length-numbers : (first n : ℕ) → length (numbers_from first n) ≡ n
length-numbers first zero = refl
length-numbers first (suc n) = ap suc (length-numbers (suc first) n)

pub held-with : (class : Class) (more : List ℕ) (h : Held) → held_wires (with_numbers class more h) ≡ held_wires h + length more
held-with Q more h = let e = length-append h.qubits more in omega arith
held-with C more h = let e = length-append h.cbits more in omega arith

-- a place among the wires of a frame is within the room
pub place_within : (class : Class) (h : Held) (start place : ℕ) → place < length (drop start (numbers_of class h)) → held_wires h ≤ h.room → start + place < h.room
place_within Q h start place below within = let d = length-drop start h.qubits in omega arith
place_within C h start place below within = let d = length-drop start h.cbits in omega arith
