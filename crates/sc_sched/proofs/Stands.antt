-- The gates of a cut are the chosen ones.
use Rattle.std.proofs.Common.{◌≡◌, ℕ, zero, suc, ◌<◌, ◌≤◌, Bool, true, false, cond, List, [], ◌∷◌, length, take, drop, refl, sym, ap, ◌∙◌, arith, inl, inr, ◌&&◌, ◌||◌}
use Rattle.std.specs.Prelude.{◌==◌}
use Rattle.std.specs.List.{filter, list_any, flat_map}
use Rattle.std.proofs.lemmas.Bool.{false≢true, cases_Bool, cases_lt, eqb-true, eq-eqb}
use Rattle.std.proofs.lemmas.List.{length-drop, take-append-drop}
use Rattle.std.proofs.lemmas.List.Folds.{list_any-append}
use Rattle.sc_sched.specs.Step.{count_below, Shop, size, IsShop}
use Rattle.sc_sched.specs.Legal.{stands_in}
use Rattle.sc_sched.specs.Schedule.{positions, pieces, of_kind, leads, cut}
use Rattle.sc_sched.proofs.Count.{and_left, and_right, both, or_left, or_right, count_below_lt}
use Rattle.sc_sched.proofs.SameSchedules.{filter_push}
use Rattle.sc_sched.proofs.Step.{count_all}
use Rattle.sc_sched.proofs.Cut.{one_leader, length_of_kind, add_none, some_of}
use Rattle.sc_sched.proofs.Free.{fun_same}

any_pieces : (p : ℕ → Bool) (fuel size : ℕ) (xs : List ℕ) → 0 < size → length xs ≤ fuel → list_any (λ region. list_any p region) (pieces fuel size xs) ≡ list_any p xs
unfolding pieces
any_pieces p zero size [] q l = refl
any_pieces p zero size (x ∷ xs) q l = absurd (omega (arith, l))
any_pieces p (suc fuel) size [] q l = refl
any_pieces p (suc fuel) size (x ∷ xs) q l =
    ap (λ (v : Bool). list_any p (take size (x ∷ xs)) || v) (any_pieces p fuel size (drop size (x ∷ xs)) q (rw (length-drop size (x ∷ xs)) (omega (arith, l, q))))
    ∙ (sym (list_any-append p (take size (x ∷ xs)) (drop size (x ∷ xs))) ∙ ap (list_any p) (take-append-drop size (x ∷ xs)))

any_flat : {A B : Type 0} (p : B → Bool) (f : A → List B) (xs : List A) → list_any p (flat_map f xs) ≡ list_any (λ x. list_any p (f x)) xs
any_flat p f [] = refl
any_flat p f (x ∷ xs) = list_any-append p (f x) (flat_map f xs) ∙ ap (λ (v : Bool). list_any p (f x) || v) (any_flat p f xs)

-- a test over the numbers below n that are kept
any_yes : (t q : ℕ → Bool) (n x : ℕ) → x < n → q x ≡ true → t x ≡ true → list_any t (filter q (positions n)) ≡ true
any_yes t q zero x l h k = absurd (omega (arith, l))
any_yes t q (suc n) x l h k = ap (list_any t) (filter_push q (positions n) n) ∙ (list_any-append t (filter q (positions n)) (cond (q n) (n ∷ []) []) ∙
    elim (cases_lt x n) [
      | inl m ↦ or_left _ _ (any_yes t q n x m h k)
      | inr g ↦ (let e : x ≡ n = omega (arith, l, g) in let u : list_any t (cond (q n) (n ∷ []) []) ≡ true = rw (ap q (sym e) ∙ h) (or_left (t n) false (ap t (sym e) ∙ k)) in or_right _ _ u)
    ])

any_no : (t q : ℕ → Bool) (n : ℕ) → ((x : ℕ) → x < n → q x ≡ true → t x ≡ false) → list_any t (filter q (positions n)) ≡ false
any_no t q zero h = refl
any_no t q (suc n) h = ap (list_any t) (filter_push q (positions n) n) ∙ (list_any-append t (filter q (positions n)) (cond (q n) (n ∷ []) []) ∙
    rw (any_no t q n (λ x l. h x (omega (arith, l)))) (elim (cases_Bool (q n)) [
      | inl y ↦ rw (y, h n (omega arith) y) refl
      | inr z ↦ rw z refl
    ]))

-- the number x is among those that are kept
kept : (q : ℕ → Bool) (n x : ℕ) → x < n → list_any (λ y. y == x) (filter q (positions n)) ≡ q x
kept q n x l = elim (cases_Bool (q x)) [
  | inl y ↦ any_yes (λ y. y == x) q n x l y (eq-eqb x x refl) ∙ sym y
  | inr z ↦ any_no (λ y. y == x) q n (λ y m h. elim (cases_Bool (y == x)) [ inl e ↦ absurd (false≢true (sym z ∙ (ap q (sym (eqb-true y x e)) ∙ h))) | inr f ↦ f ]) ∙ sym z
]

pub some_below : (p : ℕ → Bool) (n : ℕ) → 0 < count_below p n → (x : ℕ) × (x < n) × (p x ≡ true)
some_below p zero h = absurd (omega (arith, h))
some_below p (suc n) h = elim (cases_Bool (p n)) [
  | inl y ↦ (n, omega arith, y)
  | inr z ↦ (let (x, l, e) = some_below p n (rw (z, add_none (count_below p n)) at h) in (x, omega (arith, l), e))
]

pub count_some : (p : ℕ → Bool) (n x : ℕ) → x < n → p x ≡ true → 0 < count_below p n
count_some p n x l h = omega (arith, count_below_lt (λ y. false) p n x (λ y m k. absurd (false≢true k)) l refl h)

some_pos : (n : ℕ) → 0 < n → 0 < some_of n
some_pos zero h = h
some_pos (suc n) h = omega arith

-- a chosen gate has a leader
leader : {K : Type 0} (s : Shop K) (o : IsShop s) (c : ℕ → Bool) (x : ℕ) → x < s.gates → c x ≡ true → (l : ℕ) × (l < s.gates) × ((leads s c l && s.is (s.kind_of x) l) ≡ true)
leader s o c x b h = some_below (λ l. leads s c l && s.is (s.kind_of x) l) s.gates
    (rw (one_leader s o c (s.kind_of x) s.gates (omega arith)) (some_pos _ (count_some (λ y. c y && s.is (s.kind_of x) y) s.gates x b (both _ _ h (o.of_kind x b)))))

pub stands_cut : {K : Type 0} (s : Shop K) (o : IsShop s) (c : ℕ → Bool) (x : ℕ) → x < s.gates → stands_in (cut s c) x ≡ c x
unfolding cut
stands_cut s o c x b =
    any_flat (λ region. list_any (λ y. y == x) region) (λ l. pieces s.gates (s.room (s.kind_of l)) (of_kind s c (s.kind_of l))) (filter (leads s c) (positions s.gates))
    ∙ (ap (λ (t : ℕ → Bool). list_any t (filter (leads s c) (positions s.gates))) (fun_same _ (λ l. c x && s.is (s.kind_of l) x) (λ l.
    any_pieces (λ y. y == x) s.gates (s.room (s.kind_of l)) (of_kind s c (s.kind_of l)) (o.roomy (s.kind_of l)) (rw (length_of_kind (λ y. c y && s.is (s.kind_of l) y) s.gates) (count_all _ s.gates))
    ∙ kept (λ y. c y && s.is (s.kind_of l) y) s.gates x b))
    ∙ elim (cases_Bool (c x)) [
      | inl h ↦ (let (l, m, e) = leader s o c x b h in
          any_yes (λ l. c x && s.is (s.kind_of l) x) (leads s c) s.gates l m (and_left _ _ e)
          (both _ _ h (ap (λ (k : _). s.is k x) (sym (o.same_kind l (s.kind_of x) m (and_right (leads s c l) _ e))) ∙ o.of_kind x b)) ∙ sym h)
      | inr f ↦ any_no (λ l. c x && s.is (s.kind_of l) x) (leads s c) s.gates (λ l m e. rw f refl) ∙ sym f
    ])
