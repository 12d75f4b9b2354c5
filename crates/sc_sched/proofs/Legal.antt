-- The step of the rule fits, and gates that share a wire are in order.
use Rattle.std.proofs.Common.{◌≡◌, ℕ, zero, suc, ◌<◌, ◌≤◌, Bool, true, false, List, [], ◌∷◌, ◌++◌, length, refl, sym, ap, ◌∙◌, arith, ◌⊎◌, inl, inr, ◌&&◌, ◌||◌, not, append_assoc, append-nil}
use Rattle.std.specs.Prelude.{◌==◌, nat_lt}
use Rattle.std.proofs.lemmas.Bool.{false≢true, cases_Bool, cases_lt, eqb-true, eq-eqb, lt-ltb, le-ltb, ltb-true, leb-true}
use Rattle.sc_sched.specs.Step.{Shop, needed, fits, beside, IsStep, IsOrder, IsShop}
use Rattle.sc_sched.specs.Legal.{Step, placed, stands_in}
use Rattle.sc_sched.specs.Schedule.{all_below, ready, cut, IsPriority}
use Rattle.sc_sched.proofs.Count.{and_left, and_right, both, either, or_left, or_right, same_truth}
use Rattle.sc_sched.proofs.Step.{place, place_lt, needed_same, count_all, pick, step_unique, step_exists}
use Rattle.sc_sched.proofs.Cut.{length_cut}
use Rattle.sc_sched.proofs.Build.{search_below, needed_none, all_at, build, next_step}
use Rattle.sc_sched.proofs.SameSchedules.{cut_same}

fits_le : {K : Type 0} (s : Shop K) (c : ℕ → Bool) → fits s c ≡ true → needed s c ≤ s.regions
unfolding fits
fits_le s c h = leb-true _ _ h

-- the chosen gates with fewer than m gates before them
upto : {K : Type 0} → Shop K → (ℕ → Bool) → ℕ → ℕ → Bool
upto s c m y = c y && nat_lt (place s y) m

-- y is x or before it, where it has no more gates before it
at_most : {K : Type 0} (s : Shop K) (o : IsOrder s) (x y : ℕ) → x < s.gates → y < s.gates → place s y ≤ place s x → (y ≡ x) ⊎ (s.before y x ≡ true)
at_most s o x y b d l = elim (cases_Bool (s.before y x)) [
  | inl t ↦ inr t
  | inr f ↦ elim (cases_Bool (s.before x y)) [
    | inl t ↦ absurd (omega (arith, l, place_lt s o x y b t))
    | inr g ↦ inl (o.total y x d b f g)
  ]
]

none_and : (v : Bool) → (v && false) ≡ false
none_and true = refl
none_and false = refl

not_last : (v : Bool) (a m : ℕ) → v ≡ true → (v && (a == m)) ≡ false → a < suc m → a < m
not_last v a m h n l = elim (cases_lt a m) [ inl k ↦ k | inr g ↦ absurd (false≢true (sym n ∙ both _ _ h (eq-eqb a m (omega (arith, l, g))))) ]

upto_fits : {K : Type 0} (s : Shop K) (o : IsOrder s) (p : IsShop s) (free c : ℕ → Bool) → IsStep s free c → (m : ℕ) → needed s (upto s c m) ≤ s.regions
unfolding upto
upto_fits s o p free c h zero =
    let e : needed s (upto s c zero) ≡ needed s (λ y. false) = needed_same s _ _ (λ y l. rw (le-ltb (place s y) 0 (omega arith)) (none_and (c y))) in
    omega (arith, e, needed_none s p)
upto_fits s o p free c h (suc m) = elim (search_below (λ x. c x && (place s x == m)) s.gates) [
  | inl t ↦ (let x : ℕ = t.0 in
      let q : place s x ≡ m = eqb-true _ _ (and_right (c x) _ t.2) in
      let k : c x ≡ true = and_left (c x) _ t.2 in
      let e : needed s (upto s c (suc m)) ≡ needed s (beside s c x) = needed_same s _ _ (λ y l. same_truth _ _
      (λ u. elim (at_most s o x y t.1 l (omega (arith, q, ltb-true _ _ (and_right (c y) _ u)))) [
        | inl i ↦ or_left _ _ (eq-eqb y x i)
        | inr i ↦ or_right (y == x) _ (both _ _ (and_left (c y) _ u) i)
      ])
      (λ u. elim (either (y == x) _ u) [
        | inl i ↦ (let j : y ≡ x = eqb-true y x i in both _ _ (ap c j ∙ k) (lt-ltb _ _ (omega (arith, q, ap (place s) j))))
        | inr i ↦ both _ _ (and_left (c y) _ i) (lt-ltb _ _ (omega (arith, q, place_lt s o y x l (and_right (c y) _ i))))
      ])) in
      omega (arith, e, fits_le s (beside s c x) (and_right (free x) _ (sym (h.exact x t.1) ∙ k))))
  | inr none ↦ (let e : needed s (upto s c (suc m)) ≡ needed s (upto s c m) = needed_same s _ _ (λ y l. same_truth _ _
      (λ u. both _ _ (and_left (c y) _ u) (lt-ltb _ _ (not_last (c y) (place s y) m (and_left (c y) _ u) (none y l) (ltb-true _ _ (and_right (c y) _ u)))))
      (λ u. both _ _ (and_left (c y) _ u) (lt-ltb _ _ (omega (arith, ltb-true _ _ (and_right (c y) _ u)))))) in
      omega (arith, e, upto_fits s o p free c h m))
]

-- what the rule chooses fits
pub step_fits : {K : Type 0} (s : Shop K) (o : IsOrder s) (p : IsShop s) (free c : ℕ → Bool) → IsStep s free c → needed s c ≤ s.regions
unfolding upto place
step_fits s o p free c h =
    let e : needed s (upto s c (suc s.gates)) ≡ needed s c = needed_same s _ _ (λ y l. same_truth _ _ (λ u. and_left (c y) _ u)
    (λ u. both _ _ u (lt-ltb _ _ (omega (arith, count_all (λ z. s.before z y) s.gates))))) in
    omega (arith, e, upto_fits s o p free c h (suc s.gates))

-- each step has at most the regions that there are
pub narrow : {K : Type 0} (s : Shop K) (o : IsOrder s) (p : IsShop s) (steps : List Step) → IsPriority s steps → (earlier : List Step) (step : Step) (later : List Step) → steps ≡ earlier ++ step ∷ later → length step ≤ s.regions
narrow s o p steps h earlier step later e = rw (ap length (h.regions earlier step later e) ∙ length_cut s p (stands_in step)) (step_fits s o p _ _ (h.exact earlier step later e))

-- an earlier gate that shares a wire stands in an earlier step
pub in_order : {K : Type 0} (s : Shop K) (steps : List Step) → IsPriority s steps → (x y : ℕ) → x < y → y < s.gates → s.shares x y ≡ true → (earlier : List Step) (step : Step) (later : List Step) → steps ≡ earlier ++ step ∷ later → stands_in step y ≡ true → placed earlier x ≡ true
in_order s steps h x y l b w earlier step later e there =
    let r : ready s earlier y ≡ true = and_left (ready s earlier y) _ (sym ((h.exact earlier step later e).exact y b) ∙ there) in
    elim (either (not (s.shares x y)) (placed earlier x) (all_at (λ z. not (s.shares z y) || placed earlier z) y x (and_right (not (placed earlier y)) _ r) l)) [
      | inl n ↦ absurd (false≢true (rw w at n))
      | inr t ↦ t
    ]

-- a step that the code makes by the rule is the next one
pub step_is_next : {K : Type 0} (s : Shop K) (o : IsOrder s) (earlier : List Step) (c : ℕ → Bool) → IsStep s (ready s earlier) c → cut s c ≡ next_step s earlier
unfolding next_step
step_is_next s o earlier c h = cut_same s c (pick s (ready s earlier) (suc s.gates)) (step_unique s o (ready s earlier) c _ h (step_exists s o (ready s earlier)))

-- the main loop: the steps so far and what follows them are the whole schedule
pub build_more : {K : Type 0} (s : Shop K) (o : IsOrder s) (m : ℕ) (earlier whole : List Step) (c : ℕ → Bool) → IsStep s (ready s earlier) c → all_below (placed earlier) s.gates ≡ false → whole ≡ earlier ++ build s (suc m) earlier → whole ≡ (earlier ++ cut s c ∷ []) ++ build s m (earlier ++ cut s c ∷ [])
unfolding build
build_more s o m earlier whole c h f e =
    let n : cut s c ≡ next_step s earlier = step_is_next s o earlier c h in
    rw n (rw (append_assoc earlier (next_step s earlier ∷ []) (build s m (earlier ++ next_step s earlier ∷ []))) (rw f at e))

pub build_end : {K : Type 0} (s : Shop K) (m : ℕ) (earlier whole : List Step) → all_below (placed earlier) s.gates ≡ true → whole ≡ earlier ++ build s (suc m) earlier → whole ≡ earlier
unfolding build
build_end s m earlier whole t e = (rw t at e) ∙ append-nil earlier
