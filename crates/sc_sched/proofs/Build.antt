-- There is a priority schedule.
use Rattle.std.proofs.Common.{◌≡◌, ℕ, zero, suc, ◌+◌, ◌%◌, ◌<◌, ◌≤◌, Bool, true, false, cond, List, [], ◌∷◌, ◌++◌, refl, sym, ap, ◌∙◌, subst, arith, ◌⊎◌, inl, inr, ◌&&◌, ◌||◌, not, eqb, append_assoc, append-nil}
use Rattle.std.specs.Prelude.{◌==◌}
use Rattle.std.proofs.lemmas.Bool.{false≢true, cases_Bool, cases_lt}
use Rattle.std.proofs.lemmas.List.Folds.{list_any-append}
use Rattle.sc_sched.specs.Step.{count_below, div_up, Shop, size, needed, beside, IsStep, IsOrder, IsShop}
use Rattle.sc_sched.specs.Legal.{Step, placed, stands_in}
use Rattle.sc_sched.specs.Schedule.{all_below, ready, cut, IsPriority}
use Rattle.sc_sched.proofs.Count.{and_left, and_right, both, or_left, or_right, count_below_lt}
use Rattle.sc_sched.proofs.Step.{tried_same, pick, step_exists, fits_same, count_all}
use Rattle.sc_sched.proofs.SameSchedules.{cut_same, not_true}
use Rattle.sc_sched.proofs.Take.{with_gate, needed_with}
use Rattle.sc_sched.proofs.Cut.{all_zero, div_none}
use Rattle.sc_sched.proofs.Stands.{stands_cut, count_some}
use Rattle.sc_sched.proofs.Fill.{fits_yes}

none_at_all : (n : ℕ) → count_below (λ y. false) n ≡ 0
none_at_all zero = refl
none_at_all (suc n) = rw (none_at_all n) refl

pub size_none : {K : Type 0} (s : Shop K) (kind : K) → size s (λ y. false) kind ≡ 0
unfolding size
size_none s kind = none_at_all s.gates

pub needed_none : {K : Type 0} (s : Shop K) → IsShop s → needed s (λ y. false) ≡ 0
unfolding needed
needed_none s o = all_zero _ s.kinds (λ kind. ap (λ (v : ℕ). div_up v (s.room kind)) (size_none s kind) ∙ div_none (s.room kind) (o.roomy kind))

bit_le_one : (v : Bool) → cond v 1 0 ≤ 1
bit_le_one true = omega arith
bit_le_one false = omega arith

-- one gate alone fits
alone : {K : Type 0} (s : Shop K) (o : IsShop s) (x : ℕ) → x < s.gates → 1 ≤ s.regions → needed s (with_gate (λ y. false) x) ≤ s.regions
alone s o x b r =
    let v : ℕ = cond (eqb (size s (λ y. false) (s.kind_of x) % s.room (s.kind_of x)) 0) 1 0 in
    let e : needed s (with_gate (λ y. false) x) ≡ needed s (λ y. false) + v = needed_with s o (λ y. false) x b refl in
    let u : v ≤ 1 = bit_le_one (eqb (size s (λ y. false) (s.kind_of x) % s.room (s.kind_of x)) 0) in
    omega (arith, e, r, u, needed_none s o)

pub search_below : (p : ℕ → Bool) (n : ℕ) → ((x : ℕ) × (x < n) × (p x ≡ true) × ((y : ℕ) → y < x → p y ≡ false)) ⊎ ((y : ℕ) → y < n → p y ≡ false)
search_below p zero = inr (λ y l. absurd (omega (arith, l)))
search_below p (suc n) = elim (search_below p n) [
  | inl t ↦ inl (t.0, omega (arith, t.1), t.2, t.3)
  | inr none ↦ elim (cases_Bool (p n)) [
    | inl h ↦ inl (n, omega arith, h, none)
    | inr f ↦ inr (λ y l. elim (cases_lt y n) [ inl k ↦ none y k | inr g ↦ ap p (omega (arith, l, g)) ∙ f ])
  ]
]

all_true : (p : ℕ → Bool) (n : ℕ) → ((y : ℕ) → y < n → p y ≡ true) → all_below p n ≡ true
all_true p zero h = refl
all_true p (suc n) h = both _ _ (h n (omega arith)) (all_true p n (λ y l. h y (omega (arith, l))))

pub all_at : (p : ℕ → Bool) (n y : ℕ) → all_below p n ≡ true → y < n → p y ≡ true
all_at p zero y h l = absurd (omega (arith, l))
all_at p (suc n) y h l = elim (cases_lt y n) [ inl k ↦ all_at p n y (and_right (p n) _ h) k | inr g ↦ ap p (omega (arith, l, g)) ∙ and_left _ _ h ]

pub not_false : (b : Bool) → not b ≡ false → b ≡ true
not_false true h = refl
not_false false h = absurd (false≢true (sym h))

not_yes : (b : Bool) → not b ≡ true → b ≡ false
not_yes true h = absurd (false≢true h)
not_yes false h = refl

-- the lowest gate that is left is ready
pub some_ready : {K : Type 0} (s : Shop K) (earlier : List Step) → all_below (placed earlier) s.gates ≡ false → (x : ℕ) × (x < s.gates) × (ready s earlier x ≡ true)
some_ready s earlier h = elim (search_below (λ x. not (placed earlier x)) s.gates) [
  | inl t ↦ (t.0, t.1, both _ _ t.2 (all_true _ t.0 (λ y l. or_right (not (s.shares y t.0)) _ (not_false _ (t.3 y l)))))
  | inr none ↦ absurd (false≢true (sym h ∙ all_true _ s.gates (λ y l. not_false _ (none y l))))
]

-- a step of a rule with a ready gate is not empty
pub some_chosen : {K : Type 0} (s : Shop K) (o : IsShop s) (free c : ℕ → Bool) → 1 ≤ s.regions → IsStep s free c → (x : ℕ) → x < s.gates → free x ≡ true → (y : ℕ) × (y < s.gates) × (c y ≡ true)
some_chosen s o free c r h x b f = elim (search_below c s.gates) [
  | inl t ↦ (t.0, t.1, t.2)
  | inr none ↦ absurd (false≢true (sym (none x b) ∙ (h.exact x b ∙ both _ _ f
      (fits_same s (beside s c x) (with_gate (λ y. false) x) (λ y l. ap (λ (v : Bool). (y == x) || (v && s.before y x)) (none y l)) ∙ fits_yes s _ (alone s o x b r)))))
]

-- the step that follows some
unfoldable pub next_step : {K : Type 0} → Shop K → List Step → Step
next_step s earlier = cut s (pick s (ready s earlier) (suc s.gates))

pub record Follows {K : Type 0} (s : Shop K) (earlier : List Step) (step : Step) : Type 0 where
  pub some : (x : ℕ) × (x < s.gates) × (stands_in step x ≡ true)
  pub exact : IsStep s (ready s earlier) (stands_in step)
  pub regions : step ≡ cut s (stands_in step)

next_follows : {K : Type 0} (s : Shop K) (p : IsOrder s) (o : IsShop s) → 1 ≤ s.regions → (earlier : List Step) → all_below (placed earlier) s.gates ≡ false → Follows s earlier (next_step s earlier)
unfolding next_step
next_follows s p o r earlier h =
    let c : ℕ → Bool = pick s (ready s earlier) (suc s.gates) in
    let e : IsStep s (ready s earlier) c = step_exists s p (ready s earlier) in
    let same : (x : ℕ) → x < s.gates → stands_in (cut s c) x ≡ c x = stands_cut s o c in
    let (x, b, f) = some_ready s earlier h in
    let (y, d, k) = some_chosen s o (ready s earlier) c r e x b f in
    record {
      some = (y, d, same y d ∙ k);
      exact = record { exact = λ z l. same z l ∙ (e.exact z l ∙ tried_same s (ready s earlier) c (stands_in (cut s c)) z (λ w m q. sym (same w m))) };
      regions = cut_same s c (stands_in (cut s c)) (λ z l. sym (same z l));
    }

-- the steps that follow some, at most m
unfoldable pub build : {K : Type 0} → Shop K → ℕ → List Step → List Step
build s zero earlier = []
build s (suc m) earlier = cond (all_below (placed earlier) s.gates) [] (next_step s earlier ∷ build s m (earlier ++ next_step s earlier ∷ []))

unfoldable pub first_of : Step → List Step → Step
first_of d [] = d
first_of d (x ∷ xs) = x

unfoldable pub rest_of : List Step → List Step
rest_of [] = []
rest_of (x ∷ xs) = xs

is_none : List Step → Bool
is_none [] = true
is_none (x ∷ xs) = false

pub no_split : (a b : List Step) (step : Step) → [] ≡ a ++ step ∷ b → ⊥
unfolding is_none
no_split [] b step e = false≢true (sym (ap is_none e))
no_split (x ∷ a) b step e = false≢true (sym (ap is_none e))

follows_at : {K : Type 0} (s : Shop K) (p : IsOrder s) (o : IsShop s) → 1 ≤ s.regions → (earlier more a : List Step) (step : Step) (b : List Step) → all_below (placed earlier) s.gates ≡ false →
    ((a : List Step) (step : Step) (b : List Step) → more ≡ a ++ step ∷ b → Follows s ((earlier ++ next_step s earlier ∷ []) ++ a) step) →
    next_step s earlier ∷ more ≡ a ++ step ∷ b → Follows s (earlier ++ a) step
unfolding first_of rest_of
follows_at s p o r earlier more [] step b f h e =
    let same : next_step s earlier ≡ step = ap (first_of step) e in
    rw (append-nil earlier) (subst (λ (z : Step). Follows s earlier z) same (next_follows s p o r earlier f))
follows_at s p o r earlier more (x ∷ a) step b f h e =
    let same : next_step s earlier ≡ x = ap (first_of x) e in
    let g : Follows s ((earlier ++ next_step s earlier ∷ []) ++ a) step = h a step b (ap rest_of e) in
    subst (λ (z : Step). Follows s (earlier ++ z ∷ a) step) same (rw (append_assoc earlier (next_step s earlier ∷ []) a) at g)

build_follows : {K : Type 0} (s : Shop K) (p : IsOrder s) (o : IsShop s) → 1 ≤ s.regions → (m : ℕ) (earlier a : List Step) (step : Step) (b : List Step) → build s m earlier ≡ a ++ step ∷ b → Follows s (earlier ++ a) step
unfolding build
build_follows s p o r zero earlier a step b e = absurd (no_split a b step e)
build_follows s p o r (suc m) earlier a step b e = elim (cases_Bool (all_below (placed earlier) s.gates)) [
  | inl t ↦ absurd (no_split a b step (rw t at e))
  | inr f ↦ follows_at s p o r earlier (build s m (earlier ++ next_step s earlier ∷ [])) a step b f (build_follows s p o r m (earlier ++ next_step s earlier ∷ [])) (rw f at e)
]

left_of : {K : Type 0} → Shop K → List Step → ℕ
left_of s earlier = count_below (λ x. not (placed earlier x)) s.gates

pub placed_more : (earlier later : List Step) (x : ℕ) → placed earlier x ≡ true → placed (earlier ++ later) x ≡ true
placed_more earlier later x h = list_any-append (λ step. stands_in step x) earlier later ∙ or_left _ _ h

fewer_left : {K : Type 0} (s : Shop K) (p : IsOrder s) (o : IsShop s) → 1 ≤ s.regions → (earlier : List Step) → all_below (placed earlier) s.gates ≡ false → left_of s (earlier ++ next_step s earlier ∷ []) < left_of s earlier
unfolding left_of
fewer_left s p o r earlier f =
    let g : Follows s earlier (next_step s earlier) = next_follows s p o r earlier f in
    let (x, b, there) = g.some in
    let q : ready s earlier x ≡ true = and_left (ready s earlier x) _ (sym (g.exact.exact x b) ∙ there) in
    let now : placed (earlier ++ next_step s earlier ∷ []) x ≡ true = list_any-append (λ step. stands_in step x) earlier (next_step s earlier ∷ []) ∙ or_right (placed earlier x) _ (or_left _ false there) in
    count_below_lt (λ y. not (placed (earlier ++ next_step s earlier ∷ []) y)) (λ y. not (placed earlier y)) s.gates x
    (λ y l k. elim (cases_Bool (placed earlier y)) [
      | inl t ↦ absurd (not_true _ k (placed_more earlier (next_step s earlier ∷ []) y t))
      | inr u ↦ rw u refl
    ]) b (rw now refl) (and_left _ _ q)

build_all : {K : Type 0} (s : Shop K) (p : IsOrder s) (o : IsShop s) → 1 ≤ s.regions → (m : ℕ) (earlier : List Step) → left_of s earlier ≤ m → (x : ℕ) → x < s.gates → placed (earlier ++ build s m earlier) x ≡ true
unfolding build left_of
build_all s p o r zero earlier l x b = elim (cases_Bool (placed earlier x)) [
  | inl t ↦ placed_more earlier [] x t
  | inr u ↦ absurd (omega (arith, l, count_some (λ y. not (placed earlier y)) s.gates x b (rw u refl)))
]
build_all s p o r (suc m) earlier l x b = elim (cases_Bool (all_below (placed earlier) s.gates)) [
  | inl t ↦ placed_more earlier _ x (all_at (placed earlier) s.gates x t b)
  | inr f ↦ rw f (rw (append_assoc earlier (next_step s earlier ∷ []) (build s m (earlier ++ next_step s earlier ∷ []))) at
      (build_all s p o r m (earlier ++ next_step s earlier ∷ []) (omega (arith, l, fewer_left s p o r earlier f)) x b))
]

-- at least one
pub some_schedule : {K : Type 0} (s : Shop K) → IsOrder s → IsShop s → 1 ≤ s.regions → IsPriority s (build s s.gates [])
unfolding left_of
some_schedule s p o r = record {
  everywhere = build_all s p o r s.gates [] (count_all (λ x. not (placed [] x)) s.gates);
  not_empty = λ earlier step later e. (build_follows s p o r s.gates [] earlier step later e).some;
  exact = λ earlier step later e. (build_follows s p o r s.gates [] earlier step later e).exact;
  regions = λ earlier step later e. (build_follows s p o r s.gates [] earlier step later e).regions;
}
