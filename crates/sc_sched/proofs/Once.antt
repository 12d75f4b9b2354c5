-- Each position stands once.
use Rattle.std.proofs.Common.{◌≡◌, ℕ, zero, suc, ◌+◌, ◌*◌, ◌<◌, ◌≤◌, Bool, true, false, cond, List, [], ◌∷◌, ◌++◌, length, take, drop, refl, sym, ap, ◌∙◌, arith, inl, inr, ◌&&◌, ◌||◌, not, append_assoc}
use Rattle.std.specs.Prelude.{◌==◌}
use Rattle.std.specs.List.{filter, flat_map, sum_by, count_by}
use Rattle.std.proofs.lemmas.Bool.{cases_lt, eq-eqb}
use Rattle.std.proofs.lemmas.List.{length-drop, take-append-drop}
use Rattle.std.proofs.lemmas.List.Sums.{sum_by-cons, sum_by-append}
use Rattle.std.proofs.lemmas.List.Elements.{All-weaker}
use Rattle.std.proofs.lemmas.List.Folds.{list_any-append}
use Rattle.sc_sched.specs.Step.{count_below, Shop, size, IsShop, IsListed}
use Rattle.sc_sched.specs.Legal.{times_in, Step, stands_in, placed}
use Rattle.sc_sched.specs.Schedule.{positions, pieces, of_kind, leads, cut, ready, IsPriority}
use Rattle.sc_sched.proofs.Count.{and_left}
use Rattle.sc_sched.proofs.SameSchedules.{filter_push, not_true}
use Rattle.sc_sched.proofs.Step.{count_all}
use Rattle.sc_sched.proofs.Cut.{one_leader, length_of_kind, add_none, some_of, leaders_by_kind, one_times, all_zero}
use Rattle.sc_sched.proofs.Fill.{sum_apart}
use Rattle.sc_sched.proofs.Take.{sum_same, not_eq}
use Rattle.sc_sched.proofs.Free.{fun_same}
use Rattle.sc_sched.proofs.Stands.{count_some}

sum_flat : {A B : Type 0} (h : B → ℕ) (f : A → List B) (xs : List A) → sum_by h (flat_map f xs) ≡ sum_by (λ x. sum_by h (f x)) xs
sum_flat h f [] = refl
sum_flat h f (x ∷ xs) = sum_by-append h (f x) (flat_map f xs) ∙ (ap (λ (n : ℕ). sum_by h (f x) + n) (sum_flat h f xs) ∙ sym (sum_by-cons (λ x. sum_by h (f x)) x xs))

count_pieces : (p : ℕ → Bool) (fuel size : ℕ) (xs : List ℕ) → 0 < size → length xs ≤ fuel → sum_by (λ region. count_by p region) (pieces fuel size xs) ≡ count_by p xs
unfolding pieces
count_pieces p zero size [] q l = refl
count_pieces p zero size (x ∷ xs) q l = absurd (omega (arith, l))
count_pieces p (suc fuel) size [] q l = refl
count_pieces p (suc fuel) size (x ∷ xs) q l =
    sum_by-cons (λ region. count_by p region) (take size (x ∷ xs)) (pieces fuel size (drop size (x ∷ xs)))
    ∙ (ap (λ (n : ℕ). count_by p (take size (x ∷ xs)) + n) (count_pieces p fuel size (drop size (x ∷ xs)) q (rw (length-drop size (x ∷ xs)) (omega (arith, l, q))))
    ∙ (sym (sum_by-append (λ y. cond (p y) 1 0) (take size (x ∷ xs)) (drop size (x ∷ xs))) ∙ ap (count_by p) (take-append-drop size (x ∷ xs))))

zero_plus : (n : ℕ) → 0 + n ≡ n
zero_plus n = omega arith

count_last : (v : Bool) (n x : ℕ) → count_by (λ y. y == x) (cond v (n ∷ []) []) ≡ cond (v && (n == x)) 1 0
count_last true n x = zero_plus (cond (n == x) 1 0)
count_last false n x = refl

count_push : (q : ℕ → Bool) (n x : ℕ) → count_by (λ y. y == x) (filter q (positions (suc n))) ≡ count_by (λ y. y == x) (filter q (positions n)) + cond (q n && (n == x)) 1 0
count_push q n x = ap (count_by (λ y. y == x)) (filter_push q (positions n) n) ∙ (sum_by-append (λ y. cond (y == x) 1 0) (filter q (positions n)) (cond (q n) (n ∷ []) [])
    ∙ ap (λ (m : ℕ). count_by (λ y. y == x) (filter q (positions n)) + m) (count_last (q n) n x))

and_no : (v : Bool) → (v && false) ≡ false
and_no true = refl
and_no false = refl

and_yes : (v : Bool) → (v && true) ≡ v
and_yes true = refl
and_yes false = refl

count_past : (q : ℕ → Bool) (n x : ℕ) → n ≤ x → count_by (λ y. y == x) (filter q (positions n)) ≡ 0
count_past q zero x l = refl
count_past q (suc n) x l = count_push q n x ∙ rw (count_past q n x (omega (arith, l)), not_eq x n (λ e. omega (arith, e, l)), and_no (q n)) refl

count_kept : (q : ℕ → Bool) (n x : ℕ) → x < n → count_by (λ y. y == x) (filter q (positions n)) ≡ cond (q x) 1 0
count_kept q zero x l = absurd (omega (arith, l))
count_kept q (suc n) x l = count_push q n x ∙ elim (cases_lt x n) [
  | inl k ↦ (let a : (n == x) ≡ false = not_eq x n (λ e. omega (arith, e, k)) in rw (a, and_no (q n), add_none (count_by (λ y. y == x) (filter q (positions n)))) (count_kept q n x k))
  | inr g ↦ (let e : n ≡ x = omega (arith, l, g) in
      let a : (n == x) ≡ true = eq-eqb n x e in
      rw (count_past q n x g, a, and_yes (q n), zero_plus (cond (q n) 1 0)) (ap (λ (m : ℕ). cond (q m) 1 0) e))
]

led_or_none : (m : ℕ) (v : Bool) → (v ≡ true → 0 < m) → some_of m * cond v 1 0 ≡ cond v 1 0
led_or_none zero true h = absurd (omega (arith, h refl))
led_or_none zero false h = refl
led_or_none (suc m) v h = one_times (cond v 1 0)

one_kind : {K : Type 0} (s : Shop K) (o : IsShop s) (v : Bool) (x : ℕ) → x < s.gates → sum_by (λ kind. cond (v && s.is kind x) 1 0) s.kinds ≡ cond v 1 0
one_kind {K} s o v x b =
    let h : IsListed s x = o.listed x b in
    let g : K → ℕ = λ kind. cond (v && s.is kind x) 1 0 in
    let z : (kind : K) → s.is kind x ≡ false → g kind ≡ 0 = λ kind i. rw (i, and_no v) refl in
    let a : sum_by g h.front ≡ sum_by (λ kind. 0) h.front = sum_same g (λ kind. 0) h.front (All-weaker (λ (kind : K). s.is kind x ≡ false) (λ (kind : K). g kind ≡ 0) z h.front h.not_front) in
    let a' : sum_by (λ kind. 0) h.front ≡ 0 = all_zero (λ kind. 0) h.front (λ kind. refl) in
    let c : sum_by g h.back ≡ sum_by (λ kind. 0) h.back = sum_same g (λ kind. 0) h.back (All-weaker (λ (kind : K). s.is kind x ≡ false) (λ (kind : K). g kind ≡ 0) z h.back h.not_back) in
    let c' : sum_by (λ kind. 0) h.back ≡ 0 = all_zero (λ kind. 0) h.back (λ kind. refl) in
    let d : g (s.kind_of x) ≡ cond v 1 0 = rw (o.of_kind x b, and_yes v) refl in
    omega (arith, a, a', c, c', d, sum_apart g s.kinds h.front h.back (s.kind_of x) h.is)

once_cut : {K : Type 0} (s : Shop K) (o : IsShop s) (c : ℕ → Bool) (x : ℕ) → x < s.gates → times_in x (cut s c) ≡ cond (c x) 1 0
unfolding cut
once_cut {K} s o c x b =
    let g : K → ℕ = λ kind. cond (c x && s.is kind x) 1 0 in
    sum_flat (λ region. count_by (λ y. y == x) region) (λ l. pieces s.gates (s.room (s.kind_of l)) (of_kind s c (s.kind_of l))) (filter (leads s c) (positions s.gates))
    ∙ (ap (λ (h : ℕ → ℕ). sum_by h (filter (leads s c) (positions s.gates))) (fun_same _ (λ l. g (s.kind_of l)) (λ l.
    count_pieces (λ y. y == x) s.gates (s.room (s.kind_of l)) (of_kind s c (s.kind_of l)) (o.roomy (s.kind_of l)) (rw (length_of_kind (λ y. c y && s.is (s.kind_of l) y) s.gates) (count_all _ s.gates))
    ∙ count_kept (λ y. c y && s.is (s.kind_of l) y) s.gates x b))
    ∙ (leaders_by_kind s o c g s.gates (omega arith)
    ∙ (ap (λ (h : K → ℕ). sum_by h s.kinds) (fun_same _ g (λ kind. ap (λ (m : ℕ). m * g kind) (one_leader s o c kind s.gates (omega arith))
    ∙ led_or_none (count_below (λ y. c y && s.is kind y) s.gates) (c x && s.is kind x) (λ t. count_some (λ y. c y && s.is kind y) s.gates x b t)))
    ∙ one_kind s o (c x) x b)))

one_place : (f t r : Bool) → (t ≡ true → f ≡ true → ⊥) → cond t 1 0 + cond (not (f || (t || false)) && r) 1 0 ≡ cond (not f && (t || r)) 1 0
one_place true true r h = absurd (h refl refl)
one_place true false r h = refl
one_place false true r h = refl
one_place false false true h = refl
one_place false false false h = refl

-- what the steps after some have of a position
once_rest : {K : Type 0} (s : Shop K) (o : IsShop s) (steps : List Step) → IsPriority s steps → (x : ℕ) → x < s.gates → (front rest : List Step) → steps ≡ front ++ rest → sum_by (times_in x) rest ≡ cond (not (placed front x) && placed rest x) 1 0
once_rest s o steps h x b front [] e = rw (and_no (not (placed front x))) refl
once_rest s o steps h x b front (t ∷ rest) e =
    let here : times_in x t ≡ cond (stands_in t x) 1 0 = ap (times_in x) (h.regions front t rest e) ∙ once_cut s o (stands_in t) x b in
    let after : sum_by (times_in x) rest ≡ cond (not (placed (front ++ t ∷ []) x) && placed rest x) 1 0 = once_rest s o steps h x b (front ++ t ∷ []) rest (e ∙ sym (append_assoc front (t ∷ []) rest)) in
    sum_by-cons (times_in x) t rest ∙ rw (here, after, list_any-append (λ step. stands_in step x) front (t ∷ []))
    (one_place (placed front x) (stands_in t x) (placed rest x) (λ there p. not_true (placed front x) (and_left _ _ (and_left (ready s front x) _ (sym ((h.exact front t rest e).exact x b) ∙ there))) p))

-- each position stands once
pub once : {K : Type 0} (s : Shop K) (o : IsShop s) (steps : List Step) → IsPriority s steps → (x : ℕ) → x < s.gates → sum_by (times_in x) steps ≡ 1
once s o steps h x b = once_rest s o steps h x b [] steps refl ∙ rw (h.everywhere x b) refl
