-- How often a position stands in a schedule, and in which step.
use Rattle.std.proofs.Common.{◌≡◌, ℕ, suc, ◌+◌, ◌<◌, Bool, true, false, cond, List, [], ◌∷◌, ◌++◌, length, get_or, refl, sym, ap, arith, inl, inr, zero-add}
use Rattle.std.specs.Prelude.{◌==◌}
use Rattle.std.specs.List.{list_any, sum_by, count_by}
use Rattle.std.proofs.lemmas.Bool.{false≢true, cases_Bool, eqb-true}
use Rattle.std.proofs.lemmas.List.Sums.{sum_by-cons}
use Rattle.sc_sched.specs.Legal.{Region, Step, stands_in, placed, times_in, times_placed, step_of}
use Rattle.sc_sched.proofs.Count.{either}

sums_some : {A : Type 0} (f : A → ℕ) (p : A → Bool) → ((x : A) → p x ≡ true → 0 < f x) → (xs : List A) → list_any p xs ≡ true → 0 < sum_by f xs
sums_some f p g [] h = absurd (false≢true h)
sums_some f p g (x ∷ xs) h = rw sum_by-cons (elim (cases_Bool (p x)) [ inl t ↦ (let a : 0 < f x = g x t in omega arith) | inr e ↦ (let a : 0 < sum_by f xs = sums_some f p g xs (rw e at h) in omega arith) ])

sums_none : {A : Type 0} (f : A → ℕ) (p : A → Bool) → ((x : A) → p x ≡ false → f x ≡ 0) → (xs : List A) → list_any p xs ≡ false → sum_by f xs ≡ 0
sums_none f p g [] h = refl
sums_none f p g (x ∷ xs) h = rw sum_by-cons (elim (cases_Bool (p x)) [ inl t ↦ absurd (false≢true (sym (rw t at h))) | inr e ↦ (let a : sum_by f xs ≡ 0 = sums_none f p g xs (rw e at h) in let b : f x ≡ 0 = g x e in omega arith) ])

counts_some : {A : Type 0} (p : A → Bool) (xs : List A) → list_any p xs ≡ true → 0 < count_by p xs
counts_some p xs h = sums_some (λ x. cond (p x) 1 0) p (λ x e. rw e (omega arith)) xs h

counts_none : {A : Type 0} (p : A → Bool) (xs : List A) → list_any p xs ≡ false → count_by p xs ≡ 0
counts_none p xs h = sums_none (λ x. cond (p x) 1 0) p (λ x e. rw e refl) xs h

-- it stands where it is counted
pub times_some : (step : Step) (x : ℕ) → stands_in step x ≡ true → 0 < times_in x step
times_some step x h = sums_some (λ region. count_by (λ y. y == x) region) _ (λ region. counts_some (λ y. y == x) region) step h

pub times_none : (step : Step) (x : ℕ) → stands_in step x ≡ false → times_in x step ≡ 0
times_none step x h = sums_none (λ region. count_by (λ y. y == x) region) _ (λ region. counts_none (λ y. y == x) region) step h

pub placed_some : (steps : List Step) (x : ℕ) → placed steps x ≡ true → 0 < times_placed steps x
placed_some steps x h = sums_some (times_in x) (λ step. stands_in step x) (λ step. times_some step x) steps h

pub placed_none : (steps : List Step) (x : ℕ) → placed steps x ≡ false → times_placed steps x ≡ 0
placed_none steps x h = sums_none (times_in x) (λ step. stands_in step x) (λ step. times_none step x) steps h

pub placed_once : (steps : List Step) (x : ℕ) → times_placed steps x ≡ 1 → placed steps x ≡ true
placed_once steps x h = elim (cases_Bool (placed steps x)) [ inl t ↦ t | inr f ↦ (let none : times_placed steps x ≡ 0 = placed_none steps x f in absurd (omega (arith, h, none))) ]

-- the step of a position in two schedules, one after the other
pub step_of_old : (xs ys : List Step) (x : ℕ) → placed xs x ≡ true → step_of (xs ++ ys) x ≡ step_of xs x
step_of_old [] ys x h = absurd (false≢true h)
step_of_old (s ∷ xs) ys x h = elim (cases_Bool (stands_in s x)) [ inl t ↦ rw t refl | inr f ↦ rw f (ap suc (step_of_old xs ys x (rw f at h))) ]

pub step_of_new : (xs ys : List Step) (x : ℕ) → placed xs x ≡ false → step_of (xs ++ ys) x ≡ length xs + step_of ys x
step_of_new [] ys x h = sym (zero-add _)
step_of_new (s ∷ xs) ys x h = elim (cases_Bool (stands_in s x)) [ inl t ↦ absurd (false≢true (sym (rw t at h))) | inr f ↦ (let a : step_of (xs ++ ys) x ≡ length xs + step_of ys x = step_of_new xs ys x (rw f at h) in rw f (omega arith)) ]

pub placed_before : (earlier later : List Step) (x : ℕ) → placed earlier x ≡ true → step_of (earlier ++ later) x < length earlier
placed_before [] later x h = absurd (false≢true h)
placed_before (s ∷ earlier) later x h = elim (cases_Bool (stands_in s x)) [
  | inl t ↦ rw t (omega arith)
  | inr f ↦ (let r : step_of (earlier ++ later) x < length earlier = placed_before earlier later x (rw f at h) in rw f (omega (arith, r)))
]

any_at : {A : Type 0} (p : A → Bool) (xs : List A) (d : A) → list_any p xs ≡ true → (i : ℕ) × (i < length xs) × (p (get_or xs i d) ≡ true)
any_at p [] d h = absurd (false≢true h)
any_at p (x ∷ xs) d h = elim (either (p x) _ h) [ inl t ↦ (0, omega arith, t) | inr r ↦ (let (i, b, f) = any_at p xs d r in (suc i, omega (arith, b), f)) ]

-- where a position that is placed stands
pub record Spot (steps : List Step) (x : ℕ) : Type 0 where
  pub step : ℕ
  pub region : ℕ
  pub place : ℕ
  pub in_steps : step < length steps
  pub in_step : region < length (get_or steps step [])
  pub in_region : place < length (get_or (get_or steps step []) region [])
  pub is : get_or (get_or (get_or steps step []) region []) place 0 ≡ x

pub spot : (steps : List Step) (x : ℕ) → placed steps x ≡ true → Spot steps x
spot steps x p =
    let (i, b, f) = any_at (λ (step : Step). stands_in step x) steps [] p in
    let (j, c, g) = any_at (λ (region : Region). list_any (λ y. y == x) region) (get_or steps i []) [] f in
    let (m, e, q) = any_at (λ (y : ℕ). y == x) (get_or (get_or steps i []) j []) 0 g in
    record { step = i; region = j; place = m; in_steps = b; in_step = c; in_region = e; is = eqb-true (get_or (get_or (get_or steps i []) j []) m 0) x q }
