-- One more gate in a step, and the two loops that make a step.
use Rattle.std.proofs.Common.{◌≡◌, ℕ, zero, suc, ◌+◌, ◌-◌, ◌/◌, ◌*◌, ◌%◌, ◌<◌, ◌≤◌, Bool, true, false, cond, List, [], ◌∷◌, refl, sym, ap, ◌∙◌, arith, ◌⊎◌, inl, inr, ◌&&◌, ◌||◌, eqb}
use Rattle.std.specs.Prelude.{◌==◌}
use Rattle.std.specs.List.{sum_by, All}
use Rattle.std.proofs.lemmas.List.Sums.{sum_by-cons}
use Rattle.std.proofs.lemmas.Bool.{false≢true, cases_Bool, eqb-true, eq-eqb, cases_lt}
use Rattle.std.proofs.lemmas.List.Elements.{All-head, All-tail, All-weaker}
use Rattle.std.proofs.lemmas.Nat.{div-add-mod'}
use Rattle.std.proofs.Math.Nat.{div-eq_of_lt-le, mod-lt}
use Rattle.sc_sched.specs.Step.{count_below, div_up, Shop, size, needed, IsListed, IsShop}
use Rattle.sc_sched.specs.Rounds.{Filled, Taking, Filling}
use Rattle.sc_sched.proofs.Count.{count_below_same, either, or_left, or_right, lt_cases}
use Rattle.sc_sched.proofs.Fill.{sum_apart}

-- a set with one more number
abbrev pub with_gate : (ℕ → Bool) → ℕ → ℕ → Bool
with_gate c x y = (y == x) || c y

pub not_eq : (x y : ℕ) → (y ≡ x → ⊥) → (y == x) ≡ false
not_eq x y h = elim (cases_Bool (y == x)) [ inl t ↦ absurd (h (eqb-true y x t)) | inr f ↦ f ]

count_with_by : (p : ℕ → Bool) (n x : ℕ) → n ≤ x → count_below (with_gate p x) n ≡ count_below p n
count_with_by p n x l = count_below_same (with_gate p x) p n (λ y b. ap (λ (v : Bool). v || p y) (not_eq x y (λ e. omega (arith, e, b, l))))

count_with : (p : ℕ → Bool) (n x : ℕ) → x < n → p x ≡ false → count_below (with_gate p x) n ≡ count_below p n + 1
count_with p zero x l f = absurd (omega (arith, l))
count_with p (suc n) x l f =
    elim (lt_cases x n l) [
      | inl e ↦
          (let a : count_below (with_gate p x) n ≡ count_below p n = count_with_by p n x (omega (arith, e)) in
          let t : (n == x) ≡ true = eq-eqb n x (sym e) in
          let u : p n ≡ false = ap p (sym e) ∙ f in
          rw (a, t, u) (omega arith))
      | inr k ↦
          (let a : count_below (with_gate p x) n ≡ count_below p n + 1 = count_with p n x k f in
          let t : (n == x) ≡ false = not_eq x n (λ e. omega (arith, e, k)) in
          rw (a, t) (omega arith))
    ]

and_false : (a b : Bool) → (a && false) ≡ (b && false)
and_false true true = refl
and_false true false = refl
and_false false true = refl
and_false false false = refl

pub mul_add : (k n : ℕ) → (k + 1) * n ≡ k * n + n
mul_add k n = grind arith

pub quotient : (k n m : ℕ) → k * n ≤ m → m < k * n + n → m / n ≡ k
quotient k n m l h = div-eq_of_lt-le n l (rw (mul_add k n) h)

rest_cases : (q r m c : ℕ) → 0 < c → m ≡ q * c + r → r < c → (b : Bool) → eqb r 0 ≡ b → div_up (m + 1) c ≡ div_up m c + cond b 1 0
rest_cases q r m c p e l true f =
    let z : r ≡ 0 = eqb-true r 0 f in
    rw (quotient (q + 1) c (m + 1 + (c - 1)) (rw (mul_add q c) (omega (arith, e, p))) (rw (mul_add q c) (omega (arith, e, z, p, l))), quotient q c (m + (c - 1)) (omega (arith, e)) (omega (arith, e, z, p))) refl
rest_cases q r m c p e l false f =
    let z : 0 < r = elim (cases_lt 0 r) [ inl k ↦ k | inr g ↦ absurd (false≢true (sym f ∙ eq-eqb r 0 (omega (arith, g)))) ] in
    rw (quotient (q + 1) c (m + 1 + (c - 1)) (rw (mul_add q c) (omega (arith, e, p))) (rw (mul_add q c) (omega (arith, e, p, l))), quotient (q + 1) c (m + (c - 1)) (rw (mul_add q c) (omega (arith, e, z, p))) (rw (mul_add q c) (omega (arith, e, p, l)))) (omega arith)

-- counts of kinds
pub size_with : {K : Type 0} (s : Shop K) (c : ℕ → Bool) (x : ℕ) (kind : K) → x < s.gates → c x ≡ false → s.is kind x ≡ true → size s (with_gate c x) kind ≡ size s c kind + 1
unfolding size
size_with s c x kind l f i =
    count_below_same _ (with_gate (λ p. c p && s.is kind p) x) s.gates (λ y b. elim (cases_Bool (y == x)) [
      | inl t ↦ rw (t, ap (s.is kind) (eqb-true y x t) ∙ i) refl
      | inr u ↦ rw u refl
    ])
    ∙ count_with (λ p. c p && s.is kind p) s.gates x l (rw f refl)

pub size_beside : {K : Type 0} (s : Shop K) (c : ℕ → Bool) (x : ℕ) (kind : K) → s.is kind x ≡ false → size s (with_gate c x) kind ≡ size s c kind
unfolding size
size_beside s c x kind i =
    count_below_same _ _ s.gates (λ y b. elim (cases_Bool (y == x)) [
      | inl t ↦ rw (ap (s.is kind) (eqb-true y x t) ∙ i) (and_false _ _)
      | inr u ↦ rw u refl
    ])

-- a rest of 0 means that every region of the kind is full
pub div_up_more : (m c : ℕ) → 0 < c → div_up (m + 1) c ≡ div_up m c + cond (eqb (m % c) 0) 1 0
div_up_more m c p = rest_cases (m / c) (m % c) m c p (sym (div-add-mod' m c)) (mod-lt m p) _ refl

pub sum_same : {K : Type 0} (f g : K → ℕ) (kinds : List K) → All (λ kind. f kind ≡ g kind) kinds → sum_by f kinds ≡ sum_by g kinds
sum_same f g [] h = refl
sum_same f g (kind ∷ kinds) h =
    sum_by-cons f kind kinds ∙ (ap (λ (n : ℕ). n + sum_by f kinds) (All-head (λ k. f k ≡ g k) kind kinds h)
    ∙ (ap (λ (n : ℕ). g kind + n) (sum_same f g kinds (All-tail (λ k. f k ≡ g k) kind kinds h)) ∙ sym (sum_by-cons g kind kinds)))

-- what one more gate needs
pub needed_with : {K : Type 0} (s : Shop K) (o : IsShop s) (c : ℕ → Bool) (x : ℕ) → x < s.gates → c x ≡ false → needed s (with_gate c x) ≡ needed s c + cond (eqb (size s c (s.kind_of x) % s.room (s.kind_of x)) 0) 1 0
unfolding needed
needed_with {K} s o c x l f =
    let h : IsListed s x = o.listed x l in
    let m : K → ℕ = λ kind. div_up (size s c kind) (s.room kind) in
    let n : K → ℕ = λ kind. div_up (size s (with_gate c x) kind) (s.room kind) in
    let a : sum_by n h.front ≡ sum_by m h.front = sum_same n m h.front (All-weaker (λ (kind : K). s.is kind x ≡ false) (λ (kind : K). n kind ≡ m kind) (λ kind i. ap (λ (v : ℕ). div_up v (s.room kind)) (size_beside s c x kind i)) h.front h.not_front) in
    let b : sum_by n h.back ≡ sum_by m h.back = sum_same n m h.back (All-weaker (λ (kind : K). s.is kind x ≡ false) (λ (kind : K). n kind ≡ m kind) (λ kind i. ap (λ (v : ℕ). div_up v (s.room kind)) (size_beside s c x kind i)) h.back h.not_back) in
    let k : n (s.kind_of x) ≡ m (s.kind_of x) + cond (eqb (size s c (s.kind_of x) % s.room (s.kind_of x)) 0) 1 0 =
    ap (λ (v : ℕ). div_up v (s.room (s.kind_of x))) (size_with s c x (s.kind_of x) l f (o.of_kind x l)) ∙ div_up_more (size s c (s.kind_of x)) (s.room (s.kind_of x)) (o.roomy (s.kind_of x)) in
    omega (arith, a, b, k, sum_apart n s.kinds h.front h.back (s.kind_of x) h.is, sum_apart m s.kinds h.front h.back (s.kind_of x) h.is)

-- a gate of a set with one more is the new one or an old one
in_with : (c : ℕ → Bool) (x y : ℕ) → with_gate c x y ≡ true → (y ≡ x) ⊎ (c y ≡ true)
in_with c x y h = elim (either (y == x) (c y) h) [ inl e ↦ inl (eqb-true y x e) | inr k ↦ inr k ]

-- what is not in it is neither
not_in_with : (c : ℕ → Bool) (x y : ℕ) → with_gate c x y ≡ false → (y ≡ x → ⊥) × (c y ≡ false)
not_in_with c x y h = elim (cases_Bool (y == x)) [
  | inl t ↦ absurd (false≢true (sym h ∙ or_left _ _ t))
  | inr f ↦ ((λ e. false≢true (sym f ∙ eq-eqb y x e)), rw f at h)
]

pub taking_none : {K : Type 0} (s : Shop K) (ready : ℕ → Bool) → needed s (λ y. false) ≡ 0 → Taking s ready (λ y. false)
taking_none s ready z = record {
  only_ready = λ y b h. absurd (false≢true h);
  first = λ y x b c h. absurd (false≢true h);
  within = omega (arith, z);
}

bit_within : (m n k : ℕ) (v : Bool) → n ≡ m + cond v 1 0 → m < k → n ≤ k
bit_within m n k true e l = omega (arith, e, l)
bit_within m n k false e l = omega (arith, e, l)

-- the first gate that is left, where a region is free
pub taking_more : {K : Type 0} (s : Shop K) (o : IsShop s) (ready taken : ℕ → Bool) (x : ℕ) → Taking s ready taken → x < s.gates → ready x ≡ true → taken x ≡ false →
    ((z : ℕ) → z < s.gates → ready z ≡ true → taken z ≡ false → (z ≡ x → ⊥) → s.before x z ≡ true) → needed s taken < s.regions → Taking s ready (with_gate taken x)
taking_more s o ready taken x t b r f least free = record {
  only_ready = λ y d h. elim (in_with taken x y h) [ inl e ↦ rw e r | inr k ↦ t.only_ready y d k ];
  first = λ y z d l h rz nz. let n = not_in_with taken x z nz in elim (in_with taken x y h) [ inl e ↦ rw e (least z l rz n.1 n.0) | inr k ↦ t.first y z d l k rz n.1 ];
  within = bit_within (needed s taken) (needed s (with_gate taken x)) s.regions _ (needed_with s o taken x b f) free;
}

-- where none is left, that is the step
pub taking_all : {K : Type 0} (s : Shop K) (ready taken : ℕ → Bool) → Taking s ready taken → ((x : ℕ) → x < s.gates → ready x ≡ true → taken x ≡ false → ⊥) → Filled s ready taken taken
taking_all s ready taken t none = record {
  keeps = λ y b h. h;
  only_ready = t.only_ready;
  first = t.first;
  within = t.within;
  level = λ kind. refl;
  in_order = λ kind y x b d i j h r f. absurd (none x d r f);
  used_up = λ x b r f. absurd (none x b r f);
  full = λ x b r f. absurd (none x b r f);
}

pub filling_none : {K : Type 0} (s : Shop K) (ready taken : ℕ → Bool) → Taking s ready taken → needed s taken ≡ s.regions → Filling s ready taken taken
filling_none s ready taken t e = record {
  base = t;
  used_up = e;
  keeps = λ y b h. h;
  only_ready = t.only_ready;
  level = λ kind. refl;
  in_order = λ kind y x b d i j h r f. t.first y x b d h r f;
}

-- the first gate that is left of a kind with an open region
pub filling_more : {K : Type 0} (s : Shop K) (o : IsShop s) (ready taken chosen : ℕ → Bool) (x : ℕ) → Filling s ready taken chosen → x < s.gates → ready x ≡ true → chosen x ≡ false →
    ((z : ℕ) → z < s.gates → s.is (s.kind_of x) z ≡ true → ready z ≡ true → chosen z ≡ false → (z ≡ x → ⊥) → s.before x z ≡ true) →
    eqb (size s chosen (s.kind_of x) % s.room (s.kind_of x)) 0 ≡ false → Filling s ready taken (with_gate chosen x)
filling_more s o ready taken chosen x t b r f least open' = record {
  base = t.base;
  used_up = t.used_up;
  keeps = λ y d h. or_right _ _ (t.keeps y d h);
  only_ready = λ y d h. elim (in_with chosen x y h) [ inl e ↦ rw e r | inr k ↦ t.only_ready y d k ];
  level = λ kind. elim (cases_Bool (s.is kind x)) [
    | inl i ↦ (let e : kind ≡ s.kind_of x = o.same_kind x kind b i in
        ap (λ (n : ℕ). div_up n (s.room kind)) (size_with s chosen x kind b f i)
        ∙ (div_up_more (size s chosen kind) (s.room kind) (o.roomy kind)
        ∙ (rw e (rw open' (omega arith)) ∙ t.level kind)))
    | inr i ↦ ap (λ (n : ℕ). div_up n (s.room kind)) (size_beside s chosen x kind i) ∙ t.level kind
  ];
  in_order = λ kind y z d l i j h rz nz. let n = not_in_with chosen x z nz in elim (in_with chosen x y h) [
    | inl e ↦ (let k : kind ≡ s.kind_of x = o.same_kind x kind b (sym (ap (s.is kind) e) ∙ i) in
        rw e (least z l (rw (← k) j) rz n.1 n.0))
    | inr k ↦ t.in_order kind y z d l i j k rz n.1
  ];
}

-- where each kind is full or used up, that is the step
pub filling_all : {K : Type 0} (s : Shop K) (o : IsShop s) (ready taken chosen : ℕ → Bool) → Filling s ready taken chosen →
    ((x : ℕ) → x < s.gates → ready x ≡ true → chosen x ≡ false → eqb (size s chosen (s.kind_of x) % s.room (s.kind_of x)) 0 ≡ true) → Filled s ready taken chosen
filling_all s o ready taken chosen t done = record {
  keeps = t.keeps;
  only_ready = t.only_ready;
  first = t.base.first;
  within = t.base.within;
  level = t.level;
  in_order = t.in_order;
  used_up = λ x b r f. t.used_up;
  full = λ x b r f. rw (div_up_more (size s chosen (s.kind_of x)) (s.room (s.kind_of x)) (o.roomy (s.kind_of x)), done x b r f) (omega arith);
}
