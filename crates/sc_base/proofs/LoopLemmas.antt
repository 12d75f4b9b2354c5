-- Texts that a loop writes, piece by piece. A piece is `f` of an element, and the whole is all pieces in a row.
use Rattle.std.proofs.Common.{◌≡◌, ℕ, ◌+◌, ◌<◌, ◌≤◌, Bool, List, [], ◌∷◌, ◌++◌, length, get_or, take, drop, sym, ap, ◌∙◌, add-one, append-nil}
use Rattle.std.specs.Prelude.{flat_map}
use Rattle.std.proofs.lemmas.List.{take-append-drop, take_all}
use Rattle.std.proofs.Math.Seq.{take-suc}
use Rattle.std.proofs.lemmas.List.Concat.{flat_map-append}
use Rattle.sc_base.specs.Output.{Wrote, WrotePrefix}
use Rattle.sc_base.proofs.OutputLemmas.{wrote_then, prefix_then, prefix_more, wrote_as}

-- a prefix of the same text, written otherwise
pub prefix_as : {S : Type 0} {tells : S → Bool} {bytes : S → List ℕ} {old new : S} {x : List ℕ} (text : List ℕ) → text ≡ x →
    WrotePrefix tells bytes old new x → WrotePrefix tells bytes old new text
prefix_as text same first = rw same first

-- one more piece
pub flat_more : {A : Type 0} (f : A → List ℕ) (xs : List A) (i : ℕ) (d : A) → i < length xs →
    flat_map f (take (i + 1) xs) ≡ flat_map f (take i xs) ++ f (get_or xs i d)
flat_more f xs i d within =
    rw add-one (ap (flat_map f) (take-suc xs i d within)
    ∙ (flat_map-append f (take i xs) (get_or xs i d ∷ []) ∙ ap (λ (z : List ℕ). flat_map f (take i xs) ++ z) (append-nil (f (get_or xs i d)))))

-- the pieces before a place, and those from it on
pub flat_cut : {A : Type 0} (f : A → List ℕ) (xs : List A) (i : ℕ) → flat_map f xs ≡ flat_map f (take i xs) ++ flat_map f (drop i xs)
flat_cut f xs i = ap (flat_map f) (sym (take-append-drop i xs)) ∙ flat_map-append f (take i xs) (drop i xs)

-- one turn of the loop: the piece `y` of the element at `i` was written
pub loop_step : {S A : Type 0} {tells : S → Bool} {bytes : S → List ℕ} {old mid new : S} (f : A → List ℕ) (xs : List A) (i : ℕ) (d : A) (y : List ℕ) →
    i < length xs → f (get_or xs i d) ≡ y →
    Wrote tells bytes old mid (flat_map f (take i xs)) → Wrote tells bytes mid new y → Wrote tells bytes old new (flat_map f (take (i + 1) xs))
loop_step f xs i d y within is first second =
    wrote_as _ (flat_more f xs i d within ∙ ap (λ (z : List ℕ). flat_map f (take i xs) ++ z) is) (wrote_then first second)

-- a fault in the turn at `i`
pub loop_fault : {S A : Type 0} {tells : S → Bool} {bytes : S → List ℕ} {old mid new : S} (f : A → List ℕ) (xs : List A) (i : ℕ) (d : A) (y : List ℕ) →
    i < length xs → f (get_or xs i d) ≡ y →
    Wrote tells bytes old mid (flat_map f (take i xs)) → WrotePrefix tells bytes mid new y → WrotePrefix tells bytes old new (flat_map f xs)
loop_fault f xs i d y within is first second =
    prefix_as _ (flat_cut f xs (i + 1)) (prefix_more (flat_map f (drop (i + 1) xs))
    (prefix_as _ (flat_more f xs i d within ∙ ap (λ (z : List ℕ). flat_map f (take i xs) ++ z) is) (prefix_then first second)))

-- the loop is over
pub loop_done : {S A : Type 0} {tells : S → Bool} {bytes : S → List ℕ} {old new : S} (f : A → List ℕ) (xs : List A) (i : ℕ) → length xs ≤ i →
    Wrote tells bytes old new (flat_map f (take i xs)) → Wrote tells bytes old new (flat_map f xs)
loop_done f xs i over first = wrote_as _ (ap (flat_map f) (sym (take_all i xs over))) first
