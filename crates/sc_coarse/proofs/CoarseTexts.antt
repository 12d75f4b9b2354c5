-- Coarse texts from their parts.
use Rattle.std.proofs.Common.{◌≡◌, ℕ, ◌+◌, ◌<◌, ◌≤◌, Option, Some, None, Bor, List, [], ◌∷◌, ◌++◌, length, get_or, take, drop, slice_get, refl, sym, ap, ◌∙◌, append_assoc, arith, inl, inr, add-one}
use Rattle.std.specs.Option.{option_map, option_copied, IsSome}
use Rattle.std.proofs.lemmas.List.{append-nil, take-append-drop, length-take-le}
use Rattle.std.proofs.lemmas.Option.{slice_get_within, get_or_from_slice_get, slice_get_cases, none-some}
use Rattle.std.proofs.Math.Seq.{take-suc}
use Rattle.sc_deck.specs.declared.key.Key.{Key}
use Rattle.sc_coarse.specs.declared.coarse.Instance.{Instance}
use Rattle.sc_coarse.specs.CoarseText.{instance_text, instances_text}

-- an element that is within a list is found
pub mapped_found : {A B : Type 0} (answer : Option (Bor A)) (f : B → A) (xs : List B) (i : ℕ) → i < length xs → option_copied answer ≡ option_map f (slice_get xs i) → IsSome answer
mapped_found (Some x) f xs i within same = refl
mapped_found None f xs i within same = elim ((slice_get_cases xs i).1) [
  | inl p ↦ absurd (none-some (f p.0) (same ∙ ap (option_map f) p.2))
  | inr p ↦ absurd (omega (arith, within, p.0))
]

pub item_found : {A : Type 0} (answer : Option (Bor A)) (xs : List A) (i : ℕ) → i < length xs → option_copied answer ≡ slice_get xs i → IsSome answer
item_found (Some x) xs i within same = refl
item_found None xs i within same = elim ((slice_get_cases xs i).1) [
  | inl p ↦ absurd (none-some p.0 (same ∙ p.2))
  | inr p ↦ absurd (omega (arith, within, p.0))
]

-- instances in two parts
instances-append : (n : ℕ) (ks ls : List Key) (xs ys : List Instance) → length ks ≡ length xs →
    instances_text n (ks ++ ls) (xs ++ ys) ≡ instances_text n ks xs ++ instances_text (n + length ks) ls ys
instances-append n [] ls [] ys same = ap (λ (m : ℕ). instances_text m ls ys) (omega arith)
instances-append n [] ls (x ∷ xs) ys same = absurd (omega arith)
instances-append n (k ∷ ks) ls [] ys same = absurd (omega arith)
instances-append n (k ∷ ks) ls (x ∷ xs) ys same =
    ap (λ (t : List ℕ). instance_text n k x ++ t) (instances-append (n + 1) ks ls xs ys (omega arith) ∙ ap (λ (m : ℕ). instances_text (n + 1) ks xs ++ instances_text m ls ys) (omega arith))
    ∙ sym (append_assoc (instance_text n k x) (instances_text (n + 1) ks xs) (instances_text (n + length (k ∷ ks)) ls ys))

-- the first instances and one more
pub instances_more : (ks : List Key) (xs : List Instance) (i : ℕ) (key : Key) (one : Instance) → length ks ≡ length xs → slice_get ks i ≡ Some key → slice_get xs i ≡ Some one →
    instances_text 0 (take (i + 1) ks) (take (i + 1) xs) ≡ instances_text 0 (take i ks) (take i xs) ++ instance_text i key one
instances_more ks xs i key one same at there =
    let below : i < length ks = slice_get_within ks i key at in
    let within : i < length xs = slice_get_within xs i one there in
    let front : length (take i ks) ≡ i = length-take-le i ks (omega arith) in
    let other : length (take i xs) ≡ i = length-take-le i xs (omega arith) in
    rw add-one ((λ j. instances_text 0 (take-suc ks i key below j) (take-suc xs i one within j))
    ∙ (instances-append 0 (take i ks) (get_or ks i key ∷ []) (take i xs) (get_or xs i one ∷ []) (front ∙ sym other)
    ∙ ap (λ (t : List ℕ). instances_text 0 (take i ks) (take i xs) ++ t)
    (append-nil (instance_text (0 + length (take i ks)) (get_or ks i key) (get_or xs i one))
    ∙ (ap (λ (n : ℕ). instance_text n (get_or ks i key) (get_or xs i one)) (omega (arith, front))
    ∙ (λ j. instance_text i (get_or_from_slice_get ks i key key at j) (get_or_from_slice_get xs i one one there j))))))

-- a fault in an instance: those before it, it, and those behind it
pub instances_around : (ks : List Key) (xs : List Instance) (i : ℕ) (key : Key) (one : Instance) → length ks ≡ length xs → slice_get ks i ≡ Some key → slice_get xs i ≡ Some one →
    instances_text 0 ks xs ≡ (instances_text 0 (take i ks) (take i xs) ++ instance_text i key one) ++ instances_text (i + 1) (drop (i + 1) ks) (drop (i + 1) xs)
instances_around ks xs i key one same at there =
    let below : i + 1 ≤ length ks = (let b = slice_get_within ks i key at in omega arith) in
    let front : length (take (i + 1) ks) ≡ i + 1 = length-take-le (i + 1) ks below in
    let other : length (take (i + 1) xs) ≡ i + 1 = length-take-le (i + 1) xs (omega arith) in
    (λ j. instances_text 0 (sym (take-append-drop (i + 1) ks) j) (sym (take-append-drop (i + 1) xs) j))
    ∙ (instances-append 0 (take (i + 1) ks) (drop (i + 1) ks) (take (i + 1) xs) (drop (i + 1) xs) (front ∙ sym other)
    ∙ ((λ j. instances_more ks xs i key one same at there j ++ instances_text (0 + length (take (i + 1) ks)) (drop (i + 1) ks) (drop (i + 1) xs))
    ∙ ap (λ (n : ℕ). (instances_text 0 (take i ks) (take i xs) ++ instance_text i key one) ++ instances_text n (drop (i + 1) ks) (drop (i + 1) xs)) (omega (arith, front))))
