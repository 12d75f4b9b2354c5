-- A step over the layout of a gate list is one of the list.
use Rattle.std.proofs.Common.{◌≡◌, ℕ, zero, suc, ◌+◌, ◌%◌, ◌<◌, ◌≤◌, Bool, true, false, cond, List, refl, sym, ap, ◌∙◌, arith, inl, inr, ◌&&◌, ◌||◌, eqb}
use Rattle.std.specs.Prelude.{◌==◌, nat_lt, nat_le, slice_index}
use Rattle.std.proofs.lemmas.Bool.{cases_Bool, cases_order, eq-eqb, lt-ltb, le-ltb, and_right}
use Rattle.std.proofs.lemmas.List.{get_or_default}
use Rattle.sc_gate.specs.declared.gate.Gate.{Gate}
use Rattle.sc_sched.specs.Step.{count_below, Shop, size, needed, fits, beside, IsShop, IsStep}
use Rattle.sc_sched.specs.Layout.{Layout}
use Rattle.sc_sched.specs.Rounds.{shop_of}
use Rattle.sc_sched.specs.PrioritySchedules.{shop_of_gates, NoneIsWider}
use Rattle.sc_sched.specs.Laid.{IsLaid}
use Rattle.sc_sched.proofs.Count.{count_below_same}
use Rattle.sc_sched.proofs.Step.{needed_same, fits_same}
use Rattle.sc_sched.proofs.Take.{with_gate, not_eq, needed_with}
use Rattle.sc_sched.proofs.Build.{needed_none}
use Rattle.sc_sched.proofs.Shops.{shop_is}
use Rattle.sc_sched.proofs.Lawful.{shop_of_gates_is}

-- two shops that part the same gates into kinds in the same way, with the same rooms
pub record AreAlike (s t : Shop ℕ) : Type 0 where
  pub gates : s.gates ≡ t.gates
  pub kinds : (x y : ℕ) → x < t.gates → y < t.gates → s.is (s.kind_of x) y ≡ t.is (t.kind_of x) y
  pub rooms : (x : ℕ) → x < t.gates → s.room (s.kind_of x) ≡ t.room (t.kind_of x)
  pub regions : s.regions ≡ t.regions

size_alike : (s t : Shop ℕ) (a : AreAlike s t) (c : ℕ → Bool) (x : ℕ) → x < t.gates → size s c (s.kind_of x) ≡ size t c (t.kind_of x)
unfolding size
size_alike s t a c x l =
    ap (count_below (λ p. c p && s.is (s.kind_of x) p)) a.gates
    ∙ count_below_same _ _ t.gates (λ y b. ap (λ (v : Bool). c y && v) (a.kinds x y l b))

-- the chosen gates below a position
upto : (ℕ → Bool) → ℕ → ℕ → Bool
upto c m y = c y && nat_lt y m

upto_more : (c : ℕ → Bool) (m y : ℕ) → c m ≡ true → upto c (suc m) y ≡ with_gate (upto c m) m y
unfolding upto
upto_more c m y t = elim (cases_order y m) [
  | inl e ↦ rw (eq-eqb y m e, ap c e ∙ t, lt-ltb y (suc m) (omega (arith, e))) refl
  | inr o ↦ elim o [
    | inl l ↦ rw (not_eq m y (λ e. omega (arith, e, l)), lt-ltb y m l, lt-ltb y (suc m) (omega (arith, l))) refl
    | inr g ↦ rw (not_eq m y (λ e. omega (arith, e, g)), le-ltb y m (omega (arith, g)), le-ltb y (suc m) (omega (arith, g))) refl
  ]
]

upto_less : (c : ℕ → Bool) (m y : ℕ) → c m ≡ false → upto c (suc m) y ≡ upto c m y
unfolding upto
upto_less c m y f = elim (cases_order y m) [
  | inl e ↦ rw (ap c e ∙ f) refl
  | inr o ↦ elim o [
    | inl l ↦ rw (lt-ltb y m l, lt-ltb y (suc m) (omega (arith, l))) refl
    | inr g ↦ rw (le-ltb y m (omega (arith, g)), le-ltb y (suc m) (omega (arith, g))) refl
  ]
]

upto_none : (c : ℕ → Bool) (y : ℕ) → upto c 0 y ≡ false
unfolding upto
upto_none c y = rw (le-ltb y 0 (omega arith)) (and_right (c y) false refl)

upto_all : (c : ℕ → Bool) (n y : ℕ) → y < n → c y ≡ upto c n y
unfolding upto
upto_all c n y l = rw (lt-ltb y n l) (and_all (c y))
  where
    and_all : (b : Bool) → b ≡ (b && true)
    and_all true = refl
    and_all false = refl

upto_here : (c : ℕ → Bool) (m : ℕ) → upto c m m ≡ false
unfolding upto
upto_here c m = rw (le-ltb m m (omega arith)) (and_right (c m) false refl)

-- one more gate beside so many of its kind opens a region
opens : ℕ → ℕ → ℕ
opens many room = cond (eqb (many % room) 0) 1 0

grows : (s : Shop ℕ) (o : IsShop s) (c : ℕ → Bool) (m : ℕ) → m < s.gates → c m ≡ true → needed s (upto c (suc m)) ≡ needed s (upto c m) + opens (size s (upto c m) (s.kind_of m)) (s.room (s.kind_of m))
unfolding opens
grows s o c m l e = needed_same s (upto c (suc m)) (with_gate (upto c m) m) (λ y b. upto_more c m y e) ∙ needed_with s o (upto c m) m l (upto_here c m)

-- gate by gate, both shops need one region more at the same gates
module _ (s t : Shop ℕ) (a : AreAlike s t) (o : IsShop s) (p : IsShop t) (c : ℕ → Bool) where
  one_more : (m : ℕ) → m < t.gates → c m ≡ true → needed s (upto c m) ≡ needed t (upto c m) → needed s (upto c (suc m)) ≡ needed t (upto c (suc m))
  one_more m l e h =
      let bit : opens (size s (upto c m) (s.kind_of m)) (s.room (s.kind_of m)) ≡ opens (size t (upto c m) (t.kind_of m)) (t.room (t.kind_of m)) =
      ap (λ (n : ℕ). opens n (s.room (s.kind_of m))) (size_alike s t a (upto c m) m l) ∙ ap (opens (size t (upto c m) (t.kind_of m))) (a.rooms m l) in
      let left = grows s o c m (omega (arith, a.gates, l)) e in
      let right = grows t p c m l e in
      omega (arith, left, right, bit, h)

  needed_upto : (m : ℕ) → m ≤ t.gates → needed s (upto c m) ≡ needed t (upto c m)
  needed_upto zero l =
      needed_same s (upto c 0) (λ y. false) (λ y b. upto_none c y) ∙ (needed_none s o ∙ sym (needed_same t (upto c 0) (λ y. false) (λ y b. upto_none c y) ∙ needed_none t p))
  needed_upto (suc m) l = elim (cases_Bool (c m)) [
    | inl e ↦ one_more m (omega (arith, l)) e (needed_upto m (omega (arith, l)))
    | inr f ↦ needed_same s (upto c (suc m)) (upto c m) (λ y b. upto_less c m y f) ∙ (needed_upto m (omega (arith, l)) ∙ sym (needed_same t (upto c (suc m)) (upto c m) (λ y b. upto_less c m y f)))
  ]

  pub needed_alike : needed s c ≡ needed t c
  needed_alike =
      needed_same s c (upto c t.gates) (λ y b. upto_all c t.gates y (omega (arith, a.gates, b))) ∙ (needed_upto t.gates (omega arith) ∙ sym (needed_same t c (upto c t.gates) (λ y b. upto_all c t.gates y b)))

pub fits_alike : (s t : Shop ℕ) (a : AreAlike s t) (o : IsShop s) (p : IsShop t) (c : ℕ → Bool) → fits s c ≡ fits t c
unfolding fits
fits_alike s t a o p c = ap (λ (n : ℕ). nat_le n s.regions) (needed_alike s t a o p c) ∙ ap (λ (n : ℕ). nat_le (needed t c) n) a.regions

-- the two take the same steps where their orders are the same
pub step_alike : (s t : Shop ℕ) (a : AreAlike s t) (o : IsShop s) (p : IsShop t) → ((x y : ℕ) → x < t.gates → y < t.gates → s.before x y ≡ t.before x y) →
    (ready chosen : ℕ → Bool) → IsStep s ready chosen → IsStep t ready chosen
step_alike s t a o p order ready chosen h = record {
  exact = λ x l. h.exact x (omega (arith, a.gates, l)) ∙ ap (λ (v : Bool). ready x && v)
      (fits_alike s t a o p (beside s chosen x)
      ∙ fits_same t (beside s chosen x) (beside t chosen x) (λ y b. ap (λ (v : Bool). (y == x) || (chosen y && v)) (order y x b l)));
}

module _ (gates : List Gate) (k d : ℕ) (before : ℕ → ℕ → Bool) (l : Layout) (room : List ℕ) where
  pub laid_shop : IsLaid gates d before l room → NoneIsWider d gates → IsShop (shop_of l room k)
  laid_shop h wide = shop_is l room k (h.roomy wide) (λ x b. h.kinds x (omega (arith, h.many, b)))

  pub laid_alike : IsLaid gates d before l room → AreAlike (shop_of l room k) (shop_of_gates gates k d before)
  laid_alike h = record {
    gates = h.many;
    kinds = λ x y b c. h.same y x c b;
    rooms = λ x b. get_or_default room (slice_index l.kind x) 1 0 (h.kinds x b) ∙ h.room_is x b;
    regions = refl;
  }

  -- a step over the layout is one of the list
  pub laid_step : IsLaid gates d before l room → NoneIsWider d gates → (ready chosen : ℕ → Bool) → IsStep (shop_of l room k) ready chosen → IsStep (shop_of_gates gates k d before) ready chosen
  laid_step h wide ready chosen s =
      step_alike (shop_of l room k) (shop_of_gates gates k d before) (laid_alike h) (laid_shop h wide) (shop_of_gates_is gates k d before wide) h.order ready chosen s
