-- One step has one answer: chosen gates that meet the rule are determined, and there are such.
use Rattle.std.proofs.Common.{◌≡◌, ℕ, zero, suc, ◌+◌, ◌<◌, ◌≤◌, Bool, true, false, List, [], ◌∷◌, refl, sym, ap, ◌∙◌, arith, inl, inr, ◌&&◌, ◌||◌}
use Rattle.std.specs.Prelude.{◌==◌, nat_le}
use Rattle.std.specs.List.{sum_by}
use Rattle.std.proofs.lemmas.List.Sums.{sum_by-cons}
use Rattle.std.proofs.lemmas.Bool.{false≢true, cases_Bool}
use Rattle.sc_sched.specs.Step.{count_below, div_up, Shop, size, needed, fits, beside, IsStep, IsOrder}
use Rattle.sc_sched.proofs.Count.{count_below_same, count_below_lt, and_right, either, or_left, same_truth}

pub size_same : {K : Type 0} (s : Shop K) (c c' : ℕ → Bool) (kind : K) → ((y : ℕ) → y < s.gates → c y ≡ c' y) → size s c kind ≡ size s c' kind
unfolding size
size_same s c c' kind h = count_below_same _ _ s.gates (λ y b. ap (λ (v : Bool). v && s.is kind y) (h y b))

needed_same_over : {K : Type 0} (s : Shop K) (c c' : ℕ → Bool) (kinds : List K) → ((y : ℕ) → y < s.gates → c y ≡ c' y) → sum_by (λ kind. div_up (size s c kind) (s.room kind)) kinds ≡ sum_by (λ kind. div_up (size s c' kind) (s.room kind)) kinds
needed_same_over s c c' [] h = refl
needed_same_over s c c' (kind ∷ kinds) h =
    sum_by-cons (λ kind. div_up (size s c kind) (s.room kind)) kind kinds
    ∙ (ap (λ (n : ℕ). div_up n (s.room kind) + sum_by (λ kind. div_up (size s c kind) (s.room kind)) kinds) (size_same s c c' kind h)
    ∙ (ap (λ (n : ℕ). div_up (size s c' kind) (s.room kind) + n) (needed_same_over s c c' kinds h)
    ∙ sym (sum_by-cons (λ kind. div_up (size s c' kind) (s.room kind)) kind kinds)))

pub needed_same : {K : Type 0} (s : Shop K) (c c' : ℕ → Bool) → ((y : ℕ) → y < s.gates → c y ≡ c' y) → needed s c ≡ needed s c'
unfolding needed
needed_same s c c' h = needed_same_over s c c' s.kinds h

pub fits_same : {K : Type 0} (s : Shop K) (c c' : ℕ → Bool) → ((y : ℕ) → y < s.gates → c y ≡ c' y) → fits s c ≡ fits s c'
unfolding fits
fits_same s c c' h = ap (λ (n : ℕ). nat_le n s.regions) (needed_same s c c' h)

-- how many gates are before one
unfoldable pub place : {K : Type 0} → Shop K → ℕ → ℕ
place s x = count_below (λ y. s.before y x) s.gates

pub place_lt : {K : Type 0} (s : Shop K) (o : IsOrder s) (y x : ℕ) → y < s.gates → s.before y x ≡ true → place s y < place s x
unfolding place
place_lt s o y x b h =
    count_below_lt (λ z. s.before z y) (λ z. s.before z x) s.gates y (λ z b k. o.transitive z y x k h) b (o.irreflexive y) h

-- where the choices agree on the gates before x, so do the sets that x is tried with
beside_same : {K : Type 0} (s : Shop K) (c c' : ℕ → Bool) (x y : ℕ) → (s.before y x ≡ true → c y ≡ c' y) → beside s c x y ≡ beside s c' x y
beside_same s c c' x y h =
    elim (cases_Bool (s.before y x)) [
      | inl t ↦ ap (λ (v : Bool). (y == x) || (v && s.before y x)) (h t)
      | inr f ↦ rw f (same_truth _ _
          (λ k. elim (either (y == x) _ k) [ inl e ↦ or_left _ _ e | inr u ↦ absurd (false≢true (and_right (c y) false u)) ])
          (λ k. elim (either (y == x) _ k) [ inl e ↦ or_left _ _ e | inr u ↦ absurd (false≢true (and_right (c' y) false u)) ]))
    ]

pub tried_same : {K : Type 0} (s : Shop K) (ready c c' : ℕ → Bool) (x : ℕ) → ((y : ℕ) → y < s.gates → s.before y x ≡ true → c y ≡ c' y) → (ready x && fits s (beside s c x)) ≡ (ready x && fits s (beside s c' x))
tried_same s ready c c' x h = ap (λ (v : Bool). ready x && v) (fits_same s (beside s c x) (beside s c' x) (λ y b. beside_same s c c' x y (h y b)))

unique_by : {K : Type 0} (s : Shop K) (o : IsOrder s) (ready c c' : ℕ → Bool) → IsStep s ready c → IsStep s ready c' → (m x : ℕ) → x < s.gates → place s x < m → c x ≡ c' x
unique_by s o ready c c' h h' zero x b l = absurd (omega (arith, l))
unique_by s o ready c c' h h' (suc m) x b l =
    h.exact x b ∙ (tried_same s ready c c' x (λ y d k. unique_by s o ready c c' h h' m y d (omega (arith, l, place_lt s o y x d k))) ∙ sym (h'.exact x b))

-- at most one
pub step_unique : {K : Type 0} (s : Shop K) (o : IsOrder s) (ready c c' : ℕ → Bool) → IsStep s ready c → IsStep s ready c' → (x : ℕ) → x < s.gates → c x ≡ c' x
step_unique s o ready c c' h h' x b = unique_by s o ready c c' h h' (suc (place s x)) x b (omega arith)

-- the choice, as far as m gates are before
pub pick : {K : Type 0} → Shop K → (ℕ → Bool) → ℕ → ℕ → Bool
pick s ready zero x = false
pick s ready (suc m) x = ready x && fits s (beside s (pick s ready m) x)

stable : {K : Type 0} (s : Shop K) (o : IsOrder s) (ready : ℕ → Bool) → (m n x : ℕ) → x < s.gates → place s x < m → place s x < n → pick s ready m x ≡ pick s ready n x
unfolding pick
stable s o ready zero n x b l k = absurd (omega (arith, l))
stable s o ready (suc m) zero x b l k = absurd (omega (arith, k))
stable s o ready (suc m) (suc n) x b l k =
    tried_same s ready (pick s ready m) (pick s ready n) x (λ y d q. let f : place s y < place s x = place_lt s o y x d q in stable s o ready m n y d (omega (arith, f, l)) (omega (arith, f, k)))

pub count_all : (p : ℕ → Bool) (n : ℕ) → count_below p n ≤ n
count_all p zero = omega arith
count_all p (suc n) = let a : count_below p n ≤ n = count_all p n in elim (cases_Bool (p n)) [ inl e ↦ rw e (omega arith) | inr e ↦ rw e (omega arith) ]

-- at least one
pub step_exists : {K : Type 0} (s : Shop K) (o : IsOrder s) (ready : ℕ → Bool) → IsStep s ready (pick s ready (suc s.gates))
unfolding pick place
step_exists s o ready = record {
  exact = λ x b. tried_same s ready (pick s ready s.gates) (pick s ready (suc s.gates)) x
      (λ y d q. let f : place s y < place s x = place_lt s o y x d q in
      let k : place s x ≤ s.gates = count_all (λ y. s.before y x) s.gates in
      stable s o ready s.gates (suc s.gates) y d (omega (arith, f, k)) (omega (arith, f, k)));
}
