-- Places of a list.
use Rattle.std.proofs.Common.{◌≡◌, ℕ, zero, suc, ◌<◌, ◌≤◌, List, [], ◌∷◌, ◌++◌, length, slice_get, Some, refl, ap, arith}

pub slice_get_left : {X : Type 0} (xs ys : List X) (i : ℕ) → i < length xs → slice_get (xs ++ ys) i ≡ slice_get xs i
slice_get_left [] ys i below = absurd (omega arith)
slice_get_left (x ∷ xs) ys zero below = refl
slice_get_left (x ∷ xs) ys (suc i) below = let lt : i < length xs = omega arith in slice_get_left xs ys i lt

-- past the list there is one more element
pub slice_get_last : {X : Type 0} (xs : List X) (x : X) (i : ℕ) (y : X) → length xs ≤ i → slice_get (xs ++ x ∷ []) i ≡ Some y → (i ≡ length xs) × (x ≡ y)
slice_get_last [] x zero y late at = (refl, cc)
slice_get_last [] x (suc i) y late at = cc
slice_get_last (z ∷ xs) x zero y late at = absurd (omega arith)
slice_get_last (z ∷ xs) x (suc i) y late at = let le : length xs ≤ i = omega arith in let h = slice_get_last xs x i y le at in (ap suc h.0, h.1)

pub slice_get_there : {X : Type 0} (xs : List X) (i : ℕ) → i < length xs → (x : X) × (slice_get xs i ≡ Some x)
slice_get_there [] i below = absurd (omega arith)
slice_get_there (x ∷ xs) zero below = (x, refl)
slice_get_there (x ∷ xs) (suc i) below = let lt : i < length xs = omega arith in slice_get_there xs i lt
