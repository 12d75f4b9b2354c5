-- The first breach: what the tests of the code find, and that there is none exactly where a schedule is legal.
use Rattle.std.proofs.Common.{◌≡◌, ℕ, zero, suc, ◌+◌, ◌<◌, ◌≤◌, Bool, true, false, Option, Some, None, List, [], ◌∷◌, length, get_or, refl, sym, ap, ◌∙◌, arith, inl, inr}
use Rattle.std.specs.Prelude.{nat_lt, nat_le, not, ◌&&◌, All, Contains, ◌↔◌, Result, Ok, Err, IfOk}
use Rattle.std.specs.List.{list_any, position_or_len}
use Rattle.std.proofs.lemmas.Bool.{false≢true, cases_Bool, cases_lt, lt-ltb, le-ltb, leb-true}
use Rattle.std.proofs.lemmas.List.Folds.{list_any_at, list_any-append}
use Rattle.std.proofs.lemmas.List.Sums.{fails_before_first}
use Rattle.std.proofs.lemmas.List.Elements.{Contains-get_or}
use Rattle.sc_gate.specs.declared.gate.Gate.{Gate}
use Rattle.sc_sched.specs.declared.plan.Plan.{Plan}
use Rattle.sc_sched.specs.Gates.{kind_at, shares}
use Rattle.sc_sched.specs.Schedule.{positions}
use Rattle.sc_sched.specs.Legal.{Region, Step, placed, times_placed, step_of, IsLegal}
use Rattle.sc_sched.proofs.Build.{search_below}
use Rattle.sc_sched.proofs.SharedWires.{some_below_any}
use Rattle.sc_sched.proofs.Count.{and_left, and_right}
use Rattle.sc_sched.proofs.StepNumbers.{placed_some, placed_none, placed_once}
use Rattle.sc_check.specs.declared.finding.Finding.{Finding}
use Rattle.sc_check.specs.declared.finding.Finding.TheVariants.{Legal, Missing, Twice, Early, TooManyRegions, TooWideRegion, MixedKinds}
use Rattle.sc_check.specs.declared.places.Stands.{Stands}
use Rattle.sc_check.specs.declared.places.Stands.TheVariants.{Nowhere}
use Rattle.sc_check.specs.Places.{standing, found_at, lowest, is_nowhere, is_again}
use Rattle.sc_check.specs.Early.{once_in, step_at, early_by}
use Rattle.sc_check.specs.Finding.{lowest_step, is_missing, is_twice, is_early, has_many_regions, is_wide, has_wide_region, other_kind, is_mixed, has_mixed_kinds, first_breach, finding}
use Rattle.sc_check.proofs.Lowest.{lowest_none, lowest_found, lowest_same, step_none, none_passes}
use Rattle.sc_check.proofs.TooEarly.{goes_before}
use Rattle.sc_check.proofs.MixedKinds.{same_from, mixed_none}

-- the first that there is
pub breach_missing : (a b c d e f : Option ℕ) (x : ℕ) → a ≡ Some x → first_breach a b c d e f ≡ Missing x
breach_missing a b c d e f x h = rw h refl

pub breach_twice : (a b c d e f : Option ℕ) (x : ℕ) → a ≡ None → b ≡ Some x → first_breach a b c d e f ≡ Twice x
breach_twice a b c d e f x h i = rw (h, i) refl

pub breach_early : (a b c d e f : Option ℕ) (x : ℕ) → a ≡ None → b ≡ None → c ≡ Some x → first_breach a b c d e f ≡ Early x
breach_early a b c d e f x h i j = rw (h, i, j) refl

pub breach_crowded : (a b c d e f : Option ℕ) (x : ℕ) → a ≡ None → b ≡ None → c ≡ None → d ≡ Some x → first_breach a b c d e f ≡ TooManyRegions x
breach_crowded a b c d e f x h i j k = rw (h, i, j, k) refl

pub breach_wide : (a b c d e f : Option ℕ) (x : ℕ) → a ≡ None → b ≡ None → c ≡ None → d ≡ None → e ≡ Some x → first_breach a b c d e f ≡ TooWideRegion x
breach_wide a b c d e f x h i j k l = rw (h, i, j, k, l) refl

pub breach_mixed : (a b c d e f : Option ℕ) (x : ℕ) → a ≡ None → b ≡ None → c ≡ None → d ≡ None → e ≡ None → f ≡ Some x → first_breach a b c d e f ≡ MixedKinds x
breach_mixed a b c d e f x h i j k l m = rw (h, i, j, k, l, m) refl

pub breach_none : (a b c d e f : Option ℕ) → a ≡ None → b ≡ None → c ≡ None → d ≡ None → e ≡ None → f ≡ None → first_breach a b c d e f ≡ Legal
breach_none a b c d e f h i j k l m = rw (h, i, j, k, l, m) refl

record AllNone (a b c d e f : Option ℕ) : Type 0 where
  missing : a ≡ None
  twice : b ≡ None
  early : c ≡ None
  crowded : d ≡ None
  wide : e ≡ None
  mixed : f ≡ None

all_none : (a b c d e f : Option ℕ) → first_breach a b c d e f ≡ Legal → AllNone a b c d e f
all_none (Some x) b c d e f h = cc
all_none None (Some x) c d e f h = cc
all_none None None (Some x) d e f h = cc
all_none None None None (Some x) e f h = cc
all_none None None None None (Some x) f h = cc
all_none None None None None None (Some x) h = cc
all_none None None None None None None h = record { missing = refl; twice = refl; early = refl; crowded = refl; wide = refl; mixed = refl }

-- none below n passes
pub none_below : (test : ℕ → Bool) (n k : ℕ) → lowest test n ≡ None → k < n → test k ≡ false
none_below test n k e l = elim (search_below test n) [
  | inl t ↦ (let s : lowest test n ≡ Some t.0 = lowest_found test n t.0 t.1 t.3 t.2 in let d : None ≡ Some t.0 = sym e ∙ s in cc)
  | inr h ↦ h k l
]

no_position : (p : Step → Bool) (xs : List Step) → lowest_step p xs ≡ None → length xs ≤ position_or_len p xs
no_position p xs e = elim (cases_lt (position_or_len p xs) (length xs)) [
  | inl l ↦ (let s : lowest_step p xs ≡ Some (position_or_len p xs + 1) = rw (lt-ltb _ _ l) refl in let d : None ≡ Some (position_or_len p xs + 1) = sym e ∙ s in cc)
  | inr g ↦ g
]

no_step : (p : Step → Bool) (xs : List Step) (k : ℕ) (d : Step) → lowest_step p xs ≡ None → k < length xs → p (get_or xs k d) ≡ false
no_step p xs k d e l = fails_before_first p xs k d (let g : length xs ≤ position_or_len p xs = no_position p xs e in omega (arith, g, l))

each_fails : {A : Type 0} (p : A → Bool) (xs : List A) (k : ℕ) (d : A) → list_any p xs ≡ false → k < length xs → p (get_or xs k d) ≡ false
each_fails p xs k d h l = elim (cases_Bool (p (get_or xs k d))) [ inl t ↦ absurd (false≢true (sym h ∙ list_any_at p xs k d l t)) | inr f ↦ f ]

-- the standing of a position, by how often it stands
nowhere_is : (t s : ℕ) → is_nowhere (standing t s) ≡ not (nat_lt 0 t)
nowhere_is zero s = refl
nowhere_is (suc zero) s = refl
nowhere_is (suc (suc t)) s = sym (ap not (lt-ltb 0 (suc (suc t)) (omega arith)))

again_is : (t s : ℕ) → is_again (standing t s) ≡ nat_lt 1 t
again_is zero s = refl
again_is (suc zero) s = refl
again_is (suc (suc t)) s = sym (lt-ltb 1 (suc (suc t)) (omega arith))

placed_is : (steps : List Step) (x : ℕ) → nat_lt 0 (times_placed steps x) ≡ placed steps x
placed_is steps x = elim (cases_Bool (placed steps x)) [
  | inl t ↦ lt-ltb _ _ (placed_some steps x t) ∙ sym t
  | inr f ↦ (let z : times_placed steps x ≡ 0 = placed_none steps x f in le-ltb _ _ (omega (arith, z)) ∙ sym f)
]

pub missing_is : (places : List Stands) (steps : List Step) (n : ℕ) → length places ≡ n → ((x : ℕ) → x < n → get_or places x Nowhere ≡ found_at steps x) →
    lowest (λ x. is_nowhere (get_or places x Nowhere)) (length places) ≡ lowest (is_missing steps) n
missing_is places steps n e h = ap (lowest (λ x. is_nowhere (get_or places x Nowhere))) e ∙ lowest_same _ _ n (λ x l.
    ap is_nowhere (h x l) ∙ (nowhere_is (times_placed steps x) (step_of steps x) ∙ ap not (placed_is steps x)))

pub twice_is : (places : List Stands) (steps : List Step) (n : ℕ) → length places ≡ n → ((x : ℕ) → x < n → get_or places x Nowhere ≡ found_at steps x) →
    lowest (λ x. is_again (get_or places x Nowhere)) (length places) ≡ lowest (is_twice steps) n
twice_is places steps n e h = ap (lowest (λ x. is_again (get_or places x Nowhere))) e ∙ lowest_same _ _ n (λ x l.
    ap is_again (h x l) ∙ again_is (times_placed steps x) (step_of steps x))

not_false : (b : Bool) → not b ≡ false → b ≡ true
not_false true h = refl
not_false false h = absurd (false≢true (sym h))

not_lt : (m n : ℕ) → nat_lt m n ≡ false → n ≤ m
not_lt m n h = elim (cases_lt m n) [ inl l ↦ absurd (false≢true (sym h ∙ lt-ltb m n l)) | inr g ↦ g ]

-- where nothing is missing and nothing stands twice, each stands once
once_each : (steps : List Step) (n x : ℕ) → lowest (is_missing steps) n ≡ None → lowest (is_twice steps) n ≡ None → x < n → times_placed steps x ≡ 1
once_each steps n x m t l =
    let some : 0 < times_placed steps x = placed_some steps x (not_false _ (none_below (is_missing steps) n x m l)) in
    let few : times_placed steps x ≤ 1 = not_lt 1 _ (none_below (is_twice steps) n x t l) in
    omega (arith, some, few)

any_same : (p q : ℕ → Bool) (n : ℕ) → ((k : ℕ) → k < n → p k ≡ q k) → list_any p (positions n) ≡ list_any q (positions n)
any_same p q zero h = refl
any_same p q (suc n) h = list_any-append p (positions n) (n ∷ []) ∙ (rw (any_same p q n (λ k l. h k (omega (arith, l))), h n (omega arith)) refl ∙ sym (list_any-append q (positions n) (n ∷ [])))

early_same : (gates : List Gate) (f g : ℕ → ℕ) (n y : ℕ) → ((x : ℕ) → x < n → f x ≡ g x) → y < n → early_by gates f y ≡ early_by gates g y
early_same gates f g n y h l = any_same _ _ y (λ x k. ap (λ (m : ℕ). shares gates x y && nat_le m (f x)) (h y l) ∙ ap (λ (m : ℕ). shares gates x y && nat_le (g y) m) (h x (omega (arith, k, l))))

pub early_is : (gates : List Gate) (places : List Stands) (steps : List Step) (n : ℕ) → ((x : ℕ) → x < n → get_or places x Nowhere ≡ found_at steps x) →
    lowest (is_missing steps) n ≡ None → lowest (is_twice steps) n ≡ None → lowest (early_by gates (step_at places)) n ≡ lowest (is_early gates steps) n
early_is gates places steps n h m t =
    let same : (x : ℕ) → x < n → step_at places x ≡ step_of steps x = λ x l. ap once_in (h x l ∙ ap (λ (k : ℕ). standing k (step_of steps x)) (once_each steps n x m t l)) in
    lowest_same _ _ n (λ y l. early_same gates (step_at places) (step_of steps) n y same l)

-- the kinds at two places of a region that is not mixed
kinds_agree : (gates : List Gate) (region : Region) → is_mixed gates region ≡ false → (x y : ℕ) → Contains region x → Contains region y → kind_at gates x ≡ kind_at gates y
kinds_agree gates region h x y (i, l, e) (j, k, f) =
    let inner : list_any (λ y. other_kind (kind_at gates (get_or region i x)) (kind_at gates y)) region ≡ false =
    each_fails (λ x. list_any (λ y. other_kind (kind_at gates x) (kind_at gates y)) region) region i x h l in
    let both : kind_at gates (get_or region i x) ≡ kind_at gates (get_or region j y) = same_from _ _ (each_fails (λ y. other_kind (kind_at gates (get_or region i x)) (kind_at gates y)) region j y inner k) in
    ap (kind_at gates) (sym e) ∙ (both ∙ ap (kind_at gates) f)

-- every position of the schedule is one of the list
abbrev pub InRange : List Gate → List Step → Type 0
InRange gates steps = All (λ step. All (λ region. All (λ x. x < length gates) region) step) steps

pub legal_from : (gates : List Gate) (s : Plan) → InRange gates s.steps → finding gates s ≡ Legal → IsLegal gates s.k s.d s.steps
legal_from gates s inside e =
    let n : AllNone (lowest (is_missing s.steps) (length gates)) (lowest (is_twice s.steps) (length gates)) (lowest (is_early gates s.steps) (length gates))
    (lowest_step (has_many_regions s.k) s.steps) (lowest_step (has_wide_region gates s.d) s.steps) (lowest_step (has_mixed_kinds gates) s.steps) = all_none _ _ _ _ _ _ e in
    record {
      in_range = inside;
      once = λ x l. once_each s.steps (length gates) x n.missing n.twice l;
      in_order = λ x y l b w. goes_before gates (step_of s.steps) x y (none_below (is_early gates s.steps) (length gates) y n.early b) l w;
      few_regions = λ i d l. not_lt s.k _ (no_step (has_many_regions s.k) s.steps i d n.crowded l);
      narrow = λ i d l j r k. not_lt s.d _ (each_fails (is_wide gates s.d) (get_or s.steps i d) j r (no_step (has_wide_region gates s.d) s.steps i d n.wide l) k);
      one_kind = λ i d l j r k. kinds_agree gates (get_or (get_or s.steps i d) j r) (each_fails (is_mixed gates) (get_or s.steps i d) j r (no_step (has_mixed_kinds gates) s.steps i d n.mixed l) k);
    }

not_placed_none : (steps : List Step) (x : ℕ) → times_placed steps x ≡ 1 → is_missing steps x ≡ false
not_placed_none steps x e = rw (placed_once steps x e) refl

not_mixed : (gates : List Gate) (region : Region) → All (λ x. x < length gates) region →
    ((x y : ℕ) → Contains region x → Contains region y → kind_at gates x ≡ kind_at gates y) → is_mixed gates region ≡ false
not_mixed gates region inside h = mixed_none gates region (λ i l. inside i 0 l)
    (λ j l. h (get_or region j 0) (get_or region 0 0) (Contains-get_or region j 0 l) (Contains-get_or region 0 0 (omega (arith, l))))

none_early : (gates : List Gate) (s : Plan) → IsLegal gates s.k s.d s.steps → (y : ℕ) → y < length gates → is_early gates s.steps y ≡ false
none_early gates s h y l = elim (cases_Bool (is_early gates s.steps y)) [
  | inr f ↦ f
  | inl t ↦ (let (x, b, k) = some_below_any (λ x. shares gates x y && nat_le (step_of s.steps y) (step_of s.steps x)) y t in
      let before : step_of s.steps x < step_of s.steps y = h.in_order x y b l (and_left (shares gates x y) _ k) in
      let after : step_of s.steps y ≤ step_of s.steps x = leb-true _ _ (and_right (shares gates x y) _ k) in
      absurd (omega (arith, before, after)))
]

pub legal_to : (gates : List Gate) (s : Plan) → IsLegal gates s.k s.d s.steps → finding gates s ≡ Legal
legal_to gates s h = breach_none _ _ _ _ _ _
    (lowest_none (is_missing s.steps) (length gates) (λ x l. not_placed_none s.steps x (h.once x l)))
    (lowest_none (is_twice s.steps) (length gates) (λ x l. le-ltb 1 _ (let e : times_placed s.steps x ≡ 1 = h.once x l in omega (arith, e))))
    (lowest_none (is_early gates s.steps) (length gates) (λ y l. none_early gates s h y l))
    (step_none (has_many_regions s.k) s.steps [] (λ i l. le-ltb s.k _ (h.few_regions i [] l)))
    (step_none (has_wide_region gates s.d) s.steps [] (λ i l. none_passes (is_wide gates s.d) (get_or s.steps i []) [] (λ j k. le-ltb s.d _ (h.narrow i [] l j [] k))))
    (step_none (has_mixed_kinds gates) s.steps [] (λ i l. none_passes (is_mixed gates) (get_or s.steps i []) [] (λ j k. not_mixed gates (get_or (get_or s.steps i []) j []) (h.in_range i [] l j [] k) (h.one_kind i [] l j [] k))))

-- what the code has looked at: the places of the positions
module _ (gates : List Gate) (s : Plan) (steps : List Step) (places : List Stands) (steps_are : steps ≡ s.steps) (many : length places ≡ length gates)
    (found : (x : ℕ) → x < length gates → get_or places x Nowhere ≡ found_at steps x) where
  seen : (x : ℕ) → x < length gates → get_or places x Nowhere ≡ found_at s.steps x
  seen x l = found x l ∙ ap (λ (z : List Step). found_at z x) steps_are

  pub missing_seen : (p : List Stands) (o : Option ℕ) → p ≡ places → o ≡ lowest (λ x. is_nowhere (get_or p x Nowhere)) (length p) → lowest (is_missing s.steps) (length gates) ≡ o
  missing_seen p o e h = sym (h ∙ (ap (λ (z : List Stands). lowest (λ x. is_nowhere (get_or z x Nowhere)) (length z)) e ∙ missing_is places s.steps (length gates) many seen))

  pub twice_seen : (p : List Stands) (o : Option ℕ) → p ≡ places → o ≡ lowest (λ x. is_again (get_or p x Nowhere)) (length p) → lowest (is_twice s.steps) (length gates) ≡ o
  twice_seen p o e h = sym (h ∙ (ap (λ (z : List Stands). lowest (λ x. is_again (get_or z x Nowhere)) (length z)) e ∙ twice_is places s.steps (length gates) many seen))

  pub early_seen : (p : List Stands) (o : Option ℕ) → p ≡ places → lowest (is_missing s.steps) (length gates) ≡ None → lowest (is_twice s.steps) (length gates) ≡ None →
      o ≡ lowest (early_by gates (step_at p)) (length gates) → lowest (is_early gates s.steps) (length gates) ≡ o
  early_seen p o e m t h = sym (h ∙ (ap (λ (z : List Stands). lowest (early_by gates (step_at z)) (length gates)) e ∙ early_is gates places s.steps (length gates) seen m t))

pub step_seen : (test : Step → Bool) (xs ys : List Step) (o : Option ℕ) → xs ≡ ys → o ≡ lowest_step test xs → lowest_step test ys ≡ o
step_seen test xs ys o e h = sym (h ∙ ap (lowest_step test) e)

pub ok_legal : {E : Type 0} (r : Result Finding E) (gates : List Gate) (s : Plan) → InRange gates s.steps → IfOk r (λ f. f ≡ finding gates s) → IfOk r (λ f. (f ≡ Legal) ↔ IsLegal gates s.k s.d s.steps)
ok_legal (Ok f) gates s inside h = (λ e. legal_from gates s inside (sym h ∙ e), λ l. h ∙ legal_to gates s l)
ok_legal (Err e) gates s inside h = h
