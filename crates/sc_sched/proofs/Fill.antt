-- What a step takes first, and how the regions that are open are then filled.
use Rattle.std.proofs.Common.{◌≡◌, ℕ, ◌+◌, ◌-◌, ◌<◌, ◌≤◌, Bool, true, false, List, ◌∷◌, ◌++◌, refl, sym, ap, ◌∙◌, arith, rules, inl, inr, ◌&&◌}
use Rattle.std.specs.Prelude.{◌==◌}
use Rattle.std.specs.List.{sum_by}
use Rattle.std.proofs.lemmas.List.Sums.{sum_by-cons, sum_by-append, sum_by-le-sum_by}
use Rattle.std.proofs.lemmas.Bool.{false≢true, cases_Bool, eqb-true, eq-eqb}
use Rattle.std.proofs.lemmas.Nat.{le-div}
use Rattle.std.proofs.Math.Nat.{div-mul-le_self}
use Rattle.sc_sched.specs.Step.{div_up, Shop, size, needed, fits, beside, IsStep, IsListed, IsShop}
use Rattle.sc_sched.specs.Rounds.{Filled}
use Rattle.sc_sched.proofs.Count.{count_below_le, count_below_lt, and_left, and_right, both, either, or_left, or_right}

pub div_up_le : (m n c : ℕ) → 0 < c → m ≤ n → div_up m c ≤ div_up n c
div_up_le m n c p h = le-div _ _ c p (omega (arith, div-mul-le_self (m + (c - 1)) c))

pub size_le : {K : Type 0} (s : Shop K) (c c' : ℕ → Bool) (kind : K) → ((y : ℕ) → y < s.gates → s.is kind y ≡ true → c y ≡ true → c' y ≡ true) → size s c kind ≤ size s c' kind
unfolding size
size_le s c c' kind h = count_below_le _ _ s.gates (λ y b k. both _ _ (h y b (and_right (c y) _ k) (and_left _ _ k)) (and_right (c y) _ k))

pub size_lt : {K : Type 0} (s : Shop K) (c c' : ℕ → Bool) (kind : K) (x : ℕ) → ((y : ℕ) → y < s.gates → s.is kind y ≡ true → c y ≡ true → c' y ≡ true) → x < s.gates → s.is kind x ≡ true → c x ≡ false → c' x ≡ true → size s c kind < size s c' kind
unfolding size
size_lt s c c' kind x h b i u v = count_below_lt _ _ s.gates x (λ y b k. both _ _ (h y b (and_right (c y) _ k) (and_left _ _ k)) (and_right (c y) _ k)) b (rw u refl) (both _ _ v i)

pub needed_le : {K : Type 0} (s : Shop K) (c c' : ℕ → Bool) → ((kind : K) → div_up (size s c kind) (s.room kind) ≤ div_up (size s c' kind) (s.room kind)) → needed s c ≤ needed s c'
unfolding needed
needed_le s c c' h = sum_by-le-sum_by _ _ s.kinds h

pub sum_apart : {K : Type 0} (f : K → ℕ) (kinds front back : List K) (kind : K) → kinds ≡ front ++ kind ∷ back → sum_by f kinds ≡ sum_by f front + (f kind + sum_by f back)
sum_apart f kinds front back kind e = ap (sum_by f) e ∙ (sum_by-append f front (kind ∷ back) ∙ ap (λ (n : ℕ). sum_by f front + n) (sum_by-cons f kind back))

sum_lt : {K : Type 0} (f g : K → ℕ) (kinds front back : List K) (kind : K) → kinds ≡ front ++ kind ∷ back → ((k : K) → f k ≤ g k) → f kind < g kind → sum_by f kinds < sum_by g kinds
sum_lt f g kinds front back kind h le lt =
    let a : sum_by f front ≤ sum_by g front = sum_by-le-sum_by f g front le in
    let b : sum_by f back ≤ sum_by g back = sum_by-le-sum_by f g back le in
    omega (arith, a, b, lt, sum_apart f kinds front back kind h, sum_apart g kinds front back kind h)

pub needed_lt : {K : Type 0} (s : Shop K) (c c' : ℕ → Bool) (x : ℕ) → IsListed s x → ((k : K) → div_up (size s c k) (s.room k) ≤ div_up (size s c' k) (s.room k)) → div_up (size s c (s.kind_of x)) (s.room (s.kind_of x)) < div_up (size s c' (s.kind_of x)) (s.room (s.kind_of x)) → needed s c < needed s c'
unfolding needed
needed_lt s c c' x h le lt = sum_lt _ _ s.kinds h.front h.back (s.kind_of x) h.is le lt

eq_true : (y x : ℕ) → (y == x) ≡ true → y ≡ x
eq_true y x h = eqb-true y x h

-- where x is chosen it fits
fits_chosen : {K : Type 0} (s : Shop K) (o : IsShop s) (ready taken chosen : ℕ → Bool) → Filled s ready taken chosen → (x : ℕ) → x < s.gates → chosen x ≡ true → needed s (beside s chosen x) ≤ s.regions
fits_chosen s o ready taken chosen f x b c =
    let p : (kind : _) → div_up (size s (beside s chosen x) kind) (s.room kind) ≤ div_up (size s taken kind) (s.room kind) =
    λ kind. rw (← f.level kind) (div_up_le _ _ (s.room kind) (o.roomy kind) (size_le s (beside s chosen x) chosen kind
    (λ y d i k. elim (either (y == x) _ k) [ inl e ↦ rw (eq_true y x e) c | inr u ↦ and_left (chosen y) _ u ]))) in
    omega (arith, needed_le s (beside s chosen x) taken p, f.within)

-- where a ready x is not chosen it does not fit
misfits_left : {K : Type 0} (s : Shop K) (o : IsShop s) (ready taken chosen : ℕ → Bool) → Filled s ready taken chosen → (x : ℕ) → x < s.gates → ready x ≡ true → chosen x ≡ false → s.regions < needed s (beside s chosen x)
misfits_left s o ready taken chosen f x b r c =
    let not_taken : taken x ≡ false = elim (cases_Bool (taken x)) [ inl t ↦ absurd (false≢true (sym c ∙ f.keeps x b t)) | inr u ↦ u ] in
    let p : (kind : _) → div_up (size s taken kind) (s.room kind) ≤ div_up (size s (beside s chosen x) kind) (s.room kind) =
    λ kind. div_up_le _ _ (s.room kind) (o.roomy kind) (size_le s taken (beside s chosen x) kind
    (λ y d i k. or_right _ _ (both _ _ (f.keeps y d k) (f.first y x d b k r not_taken)))) in
    let more : size s chosen (s.kind_of x) < size s (beside s chosen x) (s.kind_of x) =
    size_lt s chosen (beside s chosen x) (s.kind_of x) x
    (λ y d i k. or_right _ _ (both _ _ k (f.in_order (s.kind_of x) y x d b i (o.of_kind x b) k r c))) b (o.of_kind x b) c (or_left (x == x) (chosen x && s.before x x) (eq-eqb x x refl)) in
    let q : div_up (size s taken (s.kind_of x)) (s.room (s.kind_of x)) < div_up (size s (beside s chosen x) (s.kind_of x)) (s.room (s.kind_of x)) =
    omega (arith, f.level (s.kind_of x), f.full x b r c, div_up_le (size s chosen (s.kind_of x) + 1) (size s (beside s chosen x) (s.kind_of x)) (s.room (s.kind_of x)) (o.roomy (s.kind_of x)) (omega (arith, more))) in
    omega (arith, f.used_up x b r c, needed_lt s taken (beside s chosen x) x (o.listed x b) p q)

pub fits_yes : {K : Type 0} (s : Shop K) (c : ℕ → Bool) → needed s c ≤ s.regions → fits s c ≡ true
unfolding fits
fits_yes s c h = search (rules, h)

fits_no : {K : Type 0} (s : Shop K) (c : ℕ → Bool) → s.regions < needed s c → fits s c ≡ false
unfolding fits
fits_no s c h = search (rules, h)

pub filled_is_step : {K : Type 0} (s : Shop K) → IsShop s → (ready taken chosen : ℕ → Bool) → Filled s ready taken chosen → IsStep s ready chosen
filled_is_step s o ready taken chosen f = record {
  exact = λ x b.
      elim (cases_Bool (chosen x)) [
        | inl c ↦ rw (c, f.only_ready x b c, fits_yes s _ (fits_chosen s o ready taken chosen f x b c)) refl
        | inr c ↦ elim (cases_Bool (ready x)) [
          | inl r ↦ rw (c, r, fits_no s _ (misfits_left s o ready taken chosen f x b r c)) refl
          | inr r ↦ rw (c, r) refl
        ]
      ];
}
