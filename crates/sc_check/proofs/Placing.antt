-- Where positions stand, as regions, steps and schedules are gone through.
use Rattle.std.proofs.Common.{◌≡◌, ◌≢◌, ℕ, zero, suc, ◌+◌, ◌<◌, List, [], ◌∷◌, ◌++◌, length, get_or, take, set, refl, sym, ap, ◌∙◌, arith, inl, inr, add-one, add-zero, zero-add, add-suc}
use Rattle.std.specs.Prelude.{◌==◌}
use Rattle.std.specs.List.{count_by}
use Rattle.std.proofs.lemmas.Bool.{false≢true, cases_Bool, eqb-true, eq-eqb}
use Rattle.std.proofs.lemmas.List.{get_or-set_same, get_or-set_other}
use Rattle.std.proofs.lemmas.List.{length-take}
use Rattle.std.proofs.Math.Seq.{take-suc, take-append_seam}
use Rattle.std.proofs.lemmas.List.Sums.{count_by_more_yes, count_by_more_no, sum_by_more, sum_by-append}
use Rattle.sc_sched.specs.Legal.{Step, stands_in, placed, times_in, times_placed, step_of}
use Rattle.sc_sched.proofs.StepNumbers.{times_none, placed_some, placed_none, step_of_old, step_of_new}
use Rattle.sc_check.specs.Places.{marked, marked_times, standing, found_at}
use Rattle.sc_check.specs.declared.places.Stands.{Stands}
use Rattle.sc_check.specs.declared.places.Stands.TheVariants.{Nowhere, Once, Again}

marked_times-add : (m : Stands) (s a b : ℕ) → marked_times m s (a + b) ≡ marked_times (marked_times m s a) s b
marked_times-add m s a zero = rw add-zero refl
marked_times-add m s a (suc b) = rw add-suc (ap (λ k. marked k s) (marked_times-add m s a b))

-- the next position of a region
pub mark_more : (places : List Stands) (step p : ℕ) (r old : Stands) (region : List ℕ) (i : ℕ) → i < length region → get_or region i 0 < length places →
    r ≡ marked (get_or places (get_or region i 0) Nowhere) step →
    get_or places p Nowhere ≡ marked_times old step (count_by (λ y. y == p) (take i region)) →
    get_or (set places (get_or region i 0) r) p Nowhere ≡ marked_times old step (count_by (λ y. y == p) (take (i + 1) region))
mark_more places step p r old region i l b e inv = elim (cases_Bool (get_or region i 0 == p)) [
  | inl t ↦ (let same : get_or region i 0 ≡ p = eqb-true _ _ t in
      let here : get_or (set places (get_or region i 0) r) (get_or region i 0) Nowhere ≡ r = get_or-set_same places (get_or region i 0) r Nowhere b in
      let now : get_or places (get_or region i 0) Nowhere ≡ get_or places p Nowhere = ap (λ (q : ℕ). get_or places q Nowhere) same in
      rw (count_by_more_yes (λ y. y == p) region i 0 l t, add-one)
      (ap (λ (q : ℕ). get_or (set places (get_or region i 0) r) q Nowhere) (sym same) ∙ (here ∙ (e ∙ ap (λ (m : Stands). marked m step) (now ∙ inv)))))
  | inr f ↦ (let other : p ≢ get_or region i 0 = λ q. false≢true (sym f ∙ eq-eqb _ _ (sym q)) in
      rw (count_by_more_no (λ y. y == p) region i 0 l f) (get_or-set_other places (get_or region i 0) p r Nowhere other ∙ inv))
]

-- the next region of a step
pub step_more : (places new : List Stands) (step p : ℕ) (old : Stands) (regions : List (List ℕ)) (region : List ℕ) (i : ℕ) → i < length regions →
    region ≡ get_or regions i region →
    get_or new p Nowhere ≡ marked_times (get_or places p Nowhere) step (count_by (λ y. y == p) region) →
    get_or places p Nowhere ≡ marked_times old step (times_in p (take i regions)) →
    get_or new p Nowhere ≡ marked_times old step (times_in p (take (i + 1) regions))
step_more places new step p old regions region i l is e inv =
    e ∙ (ap (λ (m : Stands). marked_times m step (count_by (λ y. y == p) region)) inv
    ∙ (sym (marked_times-add old step (times_in p (take i regions)) (count_by (λ y. y == p) region))
    ∙ ap (marked_times old step) (ap (λ (r : List ℕ). times_in p (take i regions) + count_by (λ y. y == p) r) is
    ∙ sym (sum_by_more (λ region. count_by (λ y. y == p) region) regions i region l))))

again_stays : (s n : ℕ) → marked_times Again s n ≡ Again
again_stays s zero = refl
again_stays s (suc n) = rw (again_stays s n) refl

once_more : (t s n : ℕ) → marked_times (Once t) s (suc n) ≡ Again
once_more t s zero = refl
once_more t s (suc n) = rw (once_more t s n) refl

twice_more : (s n : ℕ) → marked_times Nowhere s (suc (suc n)) ≡ Again
twice_more s zero = refl
twice_more s (suc n) = rw (twice_more s n) refl

standing_more : (t n s s' here : ℕ) → (0 < t → s' ≡ s) → (t ≡ 0 → 0 < n → s' ≡ here) → standing (t + n) s' ≡ marked_times (standing t s) here n
standing_more zero zero s s' here h g = refl
standing_more zero (suc zero) s s' here h g = ap Once (g refl (omega arith))
standing_more zero (suc (suc n)) s s' here h g = rw zero-add (sym (twice_more here n))
standing_more (suc zero) zero s s' here h g = ap Once (h (omega arith))
standing_more (suc zero) (suc n) s s' here h g = let e : suc zero + suc n ≡ suc (suc n) = omega arith in rw e (sym (once_more s here n))
standing_more (suc (suc t)) n s s' here h g = let e : suc (suc t) + n ≡ suc (suc (t + n)) = omega arith in rw e (sym (again_stays here n))

-- one step more
pub found_more : (xs : List Step) (step : Step) (x : ℕ) → found_at (xs ++ step ∷ []) x ≡ marked_times (found_at xs x) (length xs) (times_in x step)
found_more xs step x =
    let e : times_placed (xs ++ step ∷ []) x ≡ times_placed xs x + times_in x step = sum_by-append (times_in x) xs (step ∷ []) ∙ ap (λ (n : ℕ). times_placed xs x + n) (zero-add (times_in x step)) in
    rw e (standing_more (times_placed xs x) (times_in x step) (step_of xs x) (step_of (xs ++ step ∷ []) x) (length xs)
    (λ some. step_of_old xs (step ∷ []) x (elim (cases_Bool (placed xs x)) [ inl t ↦ t | inr f ↦ absurd (omega (arith, some, placed_none xs x f)) ]))
    (λ none some. step_of_new xs (step ∷ []) x (elim (cases_Bool (placed xs x)) [ inl t ↦ absurd (omega (arith, none, placed_some xs x t)) | inr f ↦ f ])
    ∙ elim (cases_Bool (stands_in step x)) [ inl t ↦ rw t (omega arith) | inr f ↦ absurd (omega (arith, some, times_none step x f)) ]))

-- what a slice of a whole list wrote back
pub written_back : {A : Type 0} (ys zs : List A) (n : ℕ) → length ys ≡ n → take n (ys ++ zs) ≡ ys
written_back ys zs n e = rw (← e) (take-append_seam ys zs)

-- the next step of a schedule
pub place_more : (places new : List Stands) (p i : ℕ) (steps : List Step) (step : Step) → i < length steps → step ≡ get_or steps i step →
    get_or new p Nowhere ≡ marked_times (get_or places p Nowhere) i (times_in p step) →
    get_or places p Nowhere ≡ found_at (take i steps) p →
    get_or new p Nowhere ≡ found_at (take (i + 1) steps) p
place_more places new p i steps step l is e inv =
    let so_far : length (take i steps) ≡ i = rw length-take (omega arith) in
    let more : found_at (take i steps ++ step ∷ []) p ≡ marked_times (found_at (take i steps) p) i (times_in p step) =
    found_more (take i steps) step p ∙ ap (λ (n : ℕ). marked_times (found_at (take i steps) p) n (times_in p step)) so_far in
    let front : take (i + 1) steps ≡ take i steps ++ step ∷ [] = rw add-one (take-suc steps i step l ∙ ap (λ (s : Step). take i steps ++ s ∷ []) (sym is)) in
    e ∙ (ap (λ (m : Stands). marked_times m i (times_in p step)) inv ∙ (sym more ∙ ap (λ (s : List Step). found_at s p) (sym front)))
