-- Legal schedules one after another, and the schedule of one gate.
use Rattle.std.proofs.Common.{◌≡◌, ℕ, zero, suc, ◌+◌, ◌-◌, ◌<◌, ◌≤◌, Bool, true, false, cond, Option, List, [], ◌∷◌, ◌++◌, length, get_or, map, refl, sym, ap, ◌∙◌, subst, arith, inl, inr, zero-add}
use Rattle.std.specs.Prelude.{◌==◌, All, Contains, slice_get, if◌then◌else◌}
use Rattle.std.specs.Option.{option_map}
use Rattle.std.specs.List.{list_any, sum_by, count_by}
use Rattle.std.proofs.lemmas.Bool.{false≢true, cases_Bool, cases_lt, eqb-true, eq-eqb}
use Rattle.std.proofs.lemmas.List.{length-append, length-map, get_or-map, get_or_default}
use Rattle.std.proofs.lemmas.List.Elements.{All-append, All-cons, All-nil, All-map, All-contains}
use Rattle.std.proofs.lemmas.List.Sums.{sum_by-cons, sum_by-append}
use Rattle.std.proofs.lemmas.Option.{slice_get-map}
use Rattle.sc_gate.specs.declared.gate.Gate.{Gate}
use Rattle.sc_gate.specs.Gates.{name_of, qubits_of}
use Rattle.sc_sched.specs.Gates.{arity_at, kind_of, kind_at, both_share, shares}
use Rattle.sc_sched.specs.Legal.{Region, Step, stands_in, placed, times_in, times_placed, step_of, IsLegal}
use Rattle.sc_sched.specs.Sequences.{region_behind, step_behind, in_sequence, alone}
use Rattle.sc_sched.proofs.Take.{sum_same, not_eq}
use Rattle.sc_sched.proofs.Free.{fun_same}
use Rattle.sc_sched.proofs.Lawful.{arity_or, arity_by_kind}
use Rattle.sc_sched.proofs.StepNumbers.{placed_none, placed_once, step_of_old, step_of_new, placed_before, Spot, spot}

-- the gates of two lists, one after the other
get_here : {A : Type 0} (xs ys : List A) (x : ℕ) → x < length xs → slice_get (xs ++ ys) x ≡ slice_get xs x
get_here [] ys x l = absurd (omega (arith, l))
get_here (g ∷ xs) ys zero l = refl
get_here (g ∷ xs) ys (suc x) l = get_here xs ys x (omega (arith, l))

suc_plus : (m n : ℕ) → suc m + n ≡ suc (m + n)
suc_plus m n = omega arith

get_behind : {A : Type 0} (xs ys : List A) (x : ℕ) → slice_get (xs ++ ys) (length xs + x) ≡ slice_get ys x
get_behind [] ys x = ap (slice_get ys) (zero-add x)
get_behind (g ∷ xs) ys x = ap (slice_get (g ∷ (xs ++ ys))) (suc_plus (length xs) x) ∙ get_behind xs ys x

kind_as : (gs hs : List Gate) (x y : ℕ) → slice_get gs x ≡ slice_get hs y → kind_at gs x ≡ kind_at hs y
kind_as gs hs x y e = slice_get-map kind_of gs x ∙ (ap (option_map kind_of) e ∙ sym (slice_get-map kind_of hs y))

arity_as : (gs hs : List Gate) (x y : ℕ) → slice_get gs x ≡ slice_get hs y → arity_at gs x ≡ arity_at hs y
arity_as gs hs x y e = arity_by_kind gs x ∙ (ap arity_or (kind_as gs hs x y e) ∙ sym (arity_by_kind hs y))

shares_as : (gs hs : List Gate) (x y i j : ℕ) → slice_get gs x ≡ slice_get hs i → slice_get gs y ≡ slice_get hs j → shares gs x y ≡ shares hs i j
shares_as gs hs x y i j a b = ap (λ (o : Option Gate). both_share o (slice_get gs y)) a ∙ ap (λ (o : Option Gate). both_share (slice_get hs i) o) b

-- sums and tests over what a list is mapped to
sum_map : {A B : Type 0} (f : B → ℕ) (h : A → B) (xs : List A) → sum_by f (map h xs) ≡ sum_by (λ x. f (h x)) xs
sum_map f h [] = refl
sum_map f h (x ∷ xs) = sum_by-cons f (h x) (map h xs) ∙ (ap (λ (n : ℕ). f (h x) + n) (sum_map f h xs) ∙ sym (sum_by-cons (λ x. f (h x)) x xs))

any_map : {A B : Type 0} (p : B → Bool) (h : A → B) (xs : List A) → list_any p (map h xs) ≡ list_any (λ x. p (h x)) xs
any_map p h [] = refl
any_map p h (x ∷ xs) = rw (any_map p h xs) refl

none_any : {A : Type 0} (p : A → Bool) → ((x : A) → p x ≡ false) → (xs : List A) → list_any p xs ≡ false
none_any p h [] = refl
none_any p h (x ∷ xs) = rw (h x) (none_any p h xs)

eq_behind : (n y x : ℕ) → (n + y == n + x) ≡ (y == x)
eq_behind n y x = elim (cases_Bool (y == x)) [
  | inl t ↦ eq-eqb (n + y) (n + x) (ap (λ (m : ℕ). n + m) (eqb-true y x t)) ∙ sym t
  | inr f ↦ not_eq (n + x) (n + y) (λ e. false≢true (sym f ∙ eq-eqb y x (omega (arith, e)))) ∙ sym f
]

-- behind n others a position is n more, and none below n stands there
stands_behind : (n x : ℕ) (step : Step) → stands_in (step_behind n step) (n + x) ≡ stands_in step x
stands_behind n x step =
    any_map (λ (region : Region). list_any (λ y. y == n + x) region) (region_behind n) step
    ∙ ap (λ (p : Region → Bool). list_any p step) (fun_same _ _ (λ (region : Region). any_map (λ y. y == n + x) (λ y. n + y) region ∙ ap (λ (p : ℕ → Bool). list_any p region) (fun_same _ _ (λ y. eq_behind n y x))))

times_behind : (n x : ℕ) (steps : List Step) → times_placed (map (step_behind n) steps) (n + x) ≡ times_placed steps x
times_behind n x steps = sum_map (times_in (n + x)) (step_behind n) steps ∙ ap (λ (f : Step → ℕ). sum_by f steps) (fun_same _ _ (λ (step : Step).
    sum_map (λ (region : Region). count_by (λ y. y == n + x) region) (region_behind n) step
    ∙ ap (λ (f : Region → ℕ). sum_by f step) (fun_same _ _ (λ (region : Region).
    sum_map (λ y. cond (y == n + x) 1 0) (λ y. n + y) region ∙ ap (λ (f : ℕ → ℕ). sum_by f region) (fun_same _ _ (λ y. ap (λ (b : Bool). cond b 1 0) (eq_behind n y x)))))))

step_of_behind : (n x : ℕ) (steps : List Step) → step_of (map (step_behind n) steps) (n + x) ≡ step_of steps x
step_of_behind n x [] = refl
step_of_behind n x (s ∷ steps) = rw (stands_behind n x s) (ap (λ (m : ℕ). if stands_in s x then 0 else suc m) (step_of_behind n x steps))

not_behind : (n x : ℕ) → x < n → (steps : List Step) → placed (map (step_behind n) steps) x ≡ false
not_behind n x l steps = any_map (λ (step : Step). stands_in step x) (step_behind n) steps ∙ none_any _ (λ (step : Step).
    any_map (λ (region : Region). list_any (λ y. y == x) region) (region_behind n) step ∙ none_any _ (λ (region : Region).
    any_map (λ y. y == x) (λ y. n + y) region ∙ none_any _ (λ y. not_eq x (n + y) (λ e. omega (arith, e, l))) region) step) steps

not_within : (n x : ℕ) (steps : List Step) → All (λ step. All (λ region. All (λ y. y < n) region) step) steps → n ≤ x → placed steps x ≡ false
not_within n x steps h l = elim (cases_Bool (placed steps x)) [
  | inl t ↦ (let o : Spot steps x = spot steps x t in
      let below : get_or (get_or (get_or steps o.step []) o.region []) o.place 0 < n = h o.step [] o.in_steps o.region [] o.in_step o.place 0 o.in_region in
      let is : get_or (get_or (get_or steps o.step []) o.region []) o.place 0 ≡ x = o.is in
      absurd (omega (arith, l, below, is)))
  | inr f ↦ f
]

contains_behind : (n x : ℕ) (region : Region) → Contains (region_behind n region) x → (y : ℕ) × Contains region y × (x ≡ n + y)
contains_behind n x region (i, l, e) =
    let b : i < length region = subst (λ (m : ℕ). i < m) (length-map region (λ y. n + y)) l in
    (get_or region i 0, (i, b, get_or_default region i (get_or region i 0) 0 b), sym e ∙ get_or-map (λ y. n + y) region i 0 x b)

behind_by : (n x : ℕ) → n ≤ x → (i : ℕ) × (x ≡ n + i)
behind_by n x l = (x - n, omega (arith, l))

module _ (gates more : List Gate) (k d : ℕ) (steps later : List Step) (h : IsLegal gates k d steps) (g : IsLegal more k d later) where
  kind_here : (x : ℕ) → x < length gates → kind_at (gates ++ more) x ≡ kind_at gates x
  kind_here x l = kind_as (gates ++ more) gates x x (get_here gates more x l)

  kind_there : (x : ℕ) → kind_at (gates ++ more) (length gates + x) ≡ kind_at more x
  kind_there x = kind_as (gates ++ more) more (length gates + x) x (get_behind gates more x)

  times_of : (x : ℕ) → times_placed (in_sequence (length gates) steps later) x ≡ times_placed steps x + times_placed (map (step_behind (length gates)) later) x
  times_of x = sum_by-append (times_in x) steps (map (step_behind (length gates)) later)

  times_here : (x : ℕ) → x < length gates → times_placed (in_sequence (length gates) steps later) x ≡ 1
  times_here x l =
      let sum = times_of x in
      let once = h.once x l in
      let none = placed_none (map (step_behind (length gates)) later) x (not_behind (length gates) x l later) in
      omega (arith, sum, once, none)

  none_there : (x : ℕ) → placed steps (length gates + x) ≡ false
  none_there x = not_within (length gates) (length gates + x) steps h.in_range (omega arith)

  times_there : (x : ℕ) → x < length more → times_placed (in_sequence (length gates) steps later) (length gates + x) ≡ 1
  times_there x l =
      let sum = times_of (length gates + x) in
      let none = placed_none steps (length gates + x) (none_there x) in
      let once = times_behind (length gates) x later ∙ g.once x l in
      omega (arith, sum, once, none)

  once_in_both : (x : ℕ) → x < length (gates ++ more) → times_placed (in_sequence (length gates) steps later) x ≡ 1
  once_in_both x b = elim (cases_lt x (length gates)) [
    | inl l ↦ times_here x l
    | inr l ↦ (let (i, e) = behind_by (length gates) x l in
        let below : i < length more = omega (arith, b, e, length-append gates more) in
        ap (times_placed (in_sequence (length gates) steps later)) e ∙ times_there i below)
  ]

  number_here : (x : ℕ) → x < length gates → step_of (in_sequence (length gates) steps later) x ≡ step_of steps x
  number_here x l = step_of_old steps (map (step_behind (length gates)) later) x (placed_once steps x (h.once x l))

  number_there : (x : ℕ) → step_of (in_sequence (length gates) steps later) (length gates + x) ≡ length steps + step_of later x
  number_there x = step_of_new steps (map (step_behind (length gates)) later) (length gates + x) (none_there x) ∙ ap (λ (m : ℕ). length steps + m) (step_of_behind (length gates) x later)

  -- the later gate is one of the second list
  order_to : (x y j : ℕ) → x < y → y ≡ length gates + j → j < length more → shares (gates ++ more) x y ≡ true → step_of (in_sequence (length gates) steps later) x < step_of (in_sequence (length gates) steps later) y
  order_to x y j l f b w =
      let q : step_of (in_sequence (length gates) steps later) y ≡ length steps + step_of later j = ap (step_of (in_sequence (length gates) steps later)) f ∙ number_there j in
      elim (cases_lt x (length gates)) [
        | inl a ↦ (let p = placed_before steps (map (step_behind (length gates)) later) x (placed_once steps x (h.once x a)) in omega (arith, p, q))
        | inr a ↦ (let (i, e) = behind_by (length gates) x a in
            let p : step_of (in_sequence (length gates) steps later) x ≡ length steps + step_of later i = ap (step_of (in_sequence (length gates) steps later)) e ∙ number_there i in
            let same : shares (gates ++ more) x y ≡ shares more i j = shares_as (gates ++ more) more x y i j
            (ap (slice_get (gates ++ more)) e ∙ get_behind gates more i) (ap (slice_get (gates ++ more)) f ∙ get_behind gates more j) in
            let s : step_of later i < step_of later j = g.in_order i j (omega (arith, e, f, l)) b (sym same ∙ w) in
            omega (arith, p, q, s))
      ]

  order_of : (x y : ℕ) → x < y → y < length (gates ++ more) → shares (gates ++ more) x y ≡ true → step_of (in_sequence (length gates) steps later) x < step_of (in_sequence (length gates) steps later) y
  order_of x y l b w = elim (cases_lt y (length gates)) [
    | inl c ↦ (let a : x < length gates = omega (arith, l, c) in
        let same : shares (gates ++ more) x y ≡ shares gates x y = shares_as (gates ++ more) gates x y x y (get_here gates more x a) (get_here gates more y c) in
        let s : step_of steps x < step_of steps y = h.in_order x y l c (sym same ∙ w) in
        let p = number_here x a in
        let q = number_here y c in
        omega (arith, p, q, s))
    | inr c ↦ (let (j, f) = behind_by (length gates) y c in order_to x y j l f (omega (arith, b, f, length-append gates more)) w)
  ]

  narrow_here : (region : Region) → All (λ x. x < length gates) region → sum_by (arity_at gates) region ≤ d → sum_by (arity_at (gates ++ more)) region ≤ d
  narrow_here region inside few =
      let same : sum_by (arity_at (gates ++ more)) region ≡ sum_by (arity_at gates) region = sum_same (arity_at (gates ++ more)) (arity_at gates) region
      (λ i e l. arity_as (gates ++ more) gates (get_or region i e) (get_or region i e) (get_here gates more (get_or region i e) (inside i e l))) in
      omega (arith, same, few)

  narrow_there : (region : Region) → sum_by (arity_at more) region ≤ d → sum_by (arity_at (gates ++ more)) (region_behind (length gates) region) ≤ d
  narrow_there region few =
      let same : sum_by (arity_at (gates ++ more)) (region_behind (length gates) region) ≡ sum_by (arity_at more) region = sum_map (arity_at (gates ++ more)) (λ y. length gates + y) region
      ∙ ap (λ (f : ℕ → ℕ). sum_by f region) (fun_same _ _ (λ y. arity_as (gates ++ more) more (length gates + y) y (get_behind gates more y))) in
      omega (arith, same, few)

  kinds_here : (region : Region) → All (λ x. x < length gates) region → ((x y : ℕ) → Contains region x → Contains region y → kind_at gates x ≡ kind_at gates y) →
      (x y : ℕ) → Contains region x → Contains region y → kind_at (gates ++ more) x ≡ kind_at (gates ++ more) y
  kinds_here region inside one x y a b =
      kind_here x (All-contains (λ z. z < length gates) region x inside a) ∙ (one x y a b ∙ sym (kind_here y (All-contains (λ z. z < length gates) region y inside b)))

  kinds_there : (region : Region) → ((x y : ℕ) → Contains region x → Contains region y → kind_at more x ≡ kind_at more y) →
      (x y : ℕ) → Contains (region_behind (length gates) region) x → Contains (region_behind (length gates) region) y → kind_at (gates ++ more) x ≡ kind_at (gates ++ more) y
  kinds_there region one x y a b =
      let (i, p, e) = contains_behind (length gates) x region a in
      let (j, q, f) = contains_behind (length gates) y region b in
      ap (kind_at (gates ++ more)) e ∙ (kind_there i ∙ (one i j p q ∙ (sym (kind_there j) ∙ ap (kind_at (gates ++ more)) (sym f))))

  -- what holds of the regions of both holds of those of the sequence
  regions_of : (P : Region → Type 0) → All (λ step. All P step) steps → All (λ step. All (λ region. P (region_behind (length gates) region)) step) later →
      All (λ step. All P step) (in_sequence (length gates) steps later)
  regions_of P a b = All-append (λ (step : Step). All P step) steps (map (step_behind (length gates)) later) a
      (All-map (λ (step : Step). All P step) (step_behind (length gates)) later (λ i e l. All-map P (region_behind (length gates)) (get_or later i e) (b i e l)))

  pub legal_sequence : IsLegal (gates ++ more) k d (in_sequence (length gates) steps later)
  legal_sequence = record {
    in_range = regions_of (λ region. All (λ x. x < length (gates ++ more)) region)
        (λ i e l j r m p q b. (let a = h.in_range i e l j r m p q b in omega (arith, a, length-append gates more)))
        (λ i e l j r m. All-map (λ x. x < length (gates ++ more)) (λ x. length gates + x) (get_or (get_or later i e) j r)
        (λ p q b. (let a = g.in_range i e l j r m p q b in omega (arith, a, length-append gates more))));
    once = once_in_both;
    in_order = order_of;
    few_regions = All-append (λ (step : Step). length step ≤ k) steps (map (step_behind (length gates)) later) h.few_regions
        (All-map (λ (step : Step). length step ≤ k) (step_behind (length gates)) later
        (λ i e l. (let a = g.few_regions i e l in let b = length-map (get_or later i e) (region_behind (length gates)) in omega (arith, a, b))));
    narrow = regions_of (λ region. sum_by (arity_at (gates ++ more)) region ≤ d)
        (λ i e l j r m. narrow_here (get_or (get_or steps i e) j r) (h.in_range i e l j r m) (h.narrow i e l j r m))
        (λ i e l j r m. narrow_there (get_or (get_or later i e) j r) (g.narrow i e l j r m));
    one_kind = regions_of (λ region. (x y : ℕ) → Contains region x → Contains region y → kind_at (gates ++ more) x ≡ kind_at (gates ++ more) y)
        (λ i e l j r m. kinds_here (get_or (get_or steps i e) j r) (h.in_range i e l j r m) (h.one_kind i e l j r m))
        (λ i e l j r m. kinds_there (get_or (get_or later i e) j r) (g.one_kind i e l j r m));
  }

pub length_sequence : (n : ℕ) (steps later : List Step) → length (in_sequence n steps later) ≡ length steps + length later
length_sequence n steps later = length-append steps (map (step_behind n) later) ∙ ap (λ (m : ℕ). length steps + m) (length-map later (step_behind n))

pub legal_none : (k d : ℕ) → IsLegal [] k d []
legal_none k d = record {
  in_range = All-nil (λ step. All (λ region. All (λ x. x < 0) region) step);
  once = λ x l. absurd (omega (arith, l));
  in_order = λ x y l b w. absurd (omega (arith, b));
  few_regions = All-nil (λ (step : Step). length step ≤ k);
  narrow = All-nil (λ step. All (λ region. sum_by (arity_at []) region ≤ d) step);
  one_kind = All-nil (λ step. All (λ region. (x y : ℕ) → Contains region x → Contains region y → kind_at [] x ≡ kind_at [] y) step);
}

all_one : {A : Type 0} (P : A → Type 0) (x : A) → P x → All P (x ∷ [])
all_one P x h = All-cons P x [] h (All-nil P)

-- what holds of the one region holds of each
alone_of : (P : Region → Type 0) → P (0 ∷ []) → All (λ step. All P step) alone
alone_of P h = all_one (λ (step : Step). All P step) ((0 ∷ []) ∷ []) (all_one P (0 ∷ []) h)

only_zero : (x : ℕ) → Contains (0 ∷ []) x → x ≡ 0
only_zero x (zero, l, e) = sym e
only_zero x (suc i, l, e) = absurd (omega (arith, l))

pub legal_alone : (gate : Gate) (k d : ℕ) → 1 ≤ k → qubits_of (name_of gate.kind) ≤ d → IsLegal (gate ∷ []) k d alone
legal_alone gate k d some fits = record {
  in_range = alone_of (λ region. All (λ x. x < 1) region) (all_one (λ x. x < 1) 0 (omega arith));
  once = λ x l. (let z : x ≡ 0 = omega (arith, l) in ap (times_placed alone) z ∙ refl);
  in_order = λ x y l b w. absurd (omega (arith, l, b));
  few_regions = all_one (λ (step : Step). length step ≤ k) ((0 ∷ []) ∷ []) (omega (arith, some));
  narrow = alone_of (λ region. sum_by (arity_at (gate ∷ [])) region ≤ d)
      (let sum : sum_by (arity_at (gate ∷ [])) (0 ∷ []) ≡ qubits_of (name_of gate.kind) + 0 = sum_by-cons (arity_at (gate ∷ [])) 0 [] in omega (arith, sum, fits));
  one_kind = alone_of (λ region. (x y : ℕ) → Contains region x → Contains region y → kind_at (gate ∷ []) x ≡ kind_at (gate ∷ []) y)
      (λ x y a b. ap (kind_at (gate ∷ [])) (only_zero x a ∙ sym (only_zero y b)));
}
