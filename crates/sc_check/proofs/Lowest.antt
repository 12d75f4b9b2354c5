-- The lowest number that passes, and the first step that does.
use Rattle.std.proofs.Common.{◌≡◌, ℕ, zero, suc, ◌+◌, ◌<◌, ◌≤◌, Bool, true, false, Some, None, List, [], ◌∷◌, length, get_or, refl, sym, ap, ◌∙◌, arith, inl, inr}
use Rattle.std.specs.List.{list_any, position_or_len}
use Rattle.std.proofs.lemmas.Bool.{lt-ltb, le-ltb}
use Rattle.std.proofs.lemmas.List.{get_or_default}
use Rattle.std.proofs.lemmas.List.Folds.{find-append, list_any_none}
use Rattle.std.proofs.lemmas.List.Elements.{All-from_get_or}
use Rattle.std.proofs.lemmas.List.Sums.{position_or_len_is}
use Rattle.sc_sched.specs.Legal.{Step}
use Rattle.sc_sched.specs.Schedule.{positions}
use Rattle.sc_sched.proofs.Count.{lt_cases}
use Rattle.sc_check.specs.Places.{lowest}
use Rattle.sc_check.specs.Finding.{lowest_step}

pub lowest_none : (test : ℕ → Bool) (n : ℕ) → ((k : ℕ) → k < n → test k ≡ false) → lowest test n ≡ None
lowest_none test zero h = refl
lowest_none test (suc n) h = find-append test (positions n) (n ∷ []) ∙ rw (lowest_none test n (λ k l. h k (omega (arith, l))), h n (omega arith)) refl

pub lowest_found : (test : ℕ → Bool) (n i : ℕ) → i < n → ((k : ℕ) → k < i → test k ≡ false) → test i ≡ true → lowest test n ≡ Some i
lowest_found test zero i l h t = absurd (omega (arith, l))
lowest_found test (suc n) i l h t = find-append test (positions n) (n ∷ []) ∙ elim (lt_cases i n l) [
  | inl e ↦ (let k : test n ≡ true = ap test (sym e) ∙ t in rw (lowest_none test n (λ j b. h j (omega (arith, b, e))), k, e) refl)
  | inr m ↦ rw (lowest_found test n i m h t) refl
]

pub lowest_same : (p q : ℕ → Bool) (n : ℕ) → ((k : ℕ) → k < n → p k ≡ q k) → lowest p n ≡ lowest q n
lowest_same p q zero h = refl
lowest_same p q (suc n) h = find-append p (positions n) (n ∷ []) ∙ (rw (lowest_same p q n (λ k l. h k (omega (arith, l))), h n (omega arith)) refl ∙ sym (find-append q (positions n) (n ∷ [])))

pub step_found : (test : Step → Bool) (steps : List Step) (i : ℕ) (d : Step) → i < length steps → ((k : ℕ) → k < i → test (get_or steps k d) ≡ false) → test (get_or steps i d) ≡ true →
    lowest_step test steps ≡ Some (i + 1)
step_found test steps i d l h t =
    let at : position_or_len test steps ≡ i = position_or_len_is test steps i d (omega (arith, l)) h (λ b. t) in
    rw (at, lt-ltb i (length steps) l) refl

pub step_none : (test : Step → Bool) (steps : List Step) (d : Step) → ((k : ℕ) → k < length steps → test (get_or steps k d) ≡ false) → lowest_step test steps ≡ None
step_none test steps d h =
    let at : position_or_len test steps ≡ length steps = position_or_len_is test steps (length steps) d (omega arith) h (λ b. absurd (omega (arith, b))) in
    rw (at, le-ltb (length steps) (length steps) (omega arith)) refl

pub none_passes : {A : Type 0} (test : A → Bool) (xs : List A) (d : A) → ((k : ℕ) → k < length xs → test (get_or xs k d) ≡ false) → list_any test xs ≡ false
none_passes test xs d h = list_any_none test xs (All-from_get_or (λ x. test x ≡ false) xs d h)

pub lowest_none_at : (test : ℕ → Bool) (n i : ℕ) → n ≤ i → ((k : ℕ) → k < i → test k ≡ false) → lowest test n ≡ None
lowest_none_at test n i l h = lowest_none test n (λ k b. h k (omega (arith, b, l)))

pub step_none_at : (test : Step → Bool) (steps : List Step) (d : Step) (i : ℕ) → length steps ≤ i → ((k : ℕ) → k < i → test (get_or steps k d) ≡ false) → lowest_step test steps ≡ None
step_none_at test steps d i l h = step_none test steps d (λ k b. h k (omega (arith, b, l)))

pub none_passes_at : {A : Type 0} (test : A → Bool) (xs : List A) (d : A) (i : ℕ) → length xs ≤ i → ((k : ℕ) → k < i → test (get_or xs k d) ≡ false) → list_any test xs ≡ false
none_passes_at test xs d i l h = none_passes test xs d (λ k b. h k (omega (arith, b, l)))

-- an element, whatever stands for one past the end
pub item_is : {A : Type 0} (xs : List A) (i : ℕ) (v d : A) → i < length xs → v ≡ get_or xs i v → get_or xs i d ≡ v
item_is xs i v d l is = get_or_default xs i d v l ∙ sym is
