-- A cut has the chosen gates, and as many regions as they need.
use Rattle.std.proofs.Common.{◌≡◌, ℕ, zero, suc, ◌+◌, ◌-◌, ◌*◌, ◌/◌, ◌%◌, ◌<◌, ◌≤◌, Bool, true, false, cond, List, [], ◌∷◌, length, drop, refl, sym, ap, ◌∙◌, arith, inl, inr, ◌&&◌, not, eqb}
use Rattle.std.specs.List.{filter, sum_by}
use Rattle.std.proofs.lemmas.List.Sums.{sum_by-cons, sum_by_push}
use Rattle.std.proofs.lemmas.List.Concat.{length-flat_map}
use Rattle.std.proofs.lemmas.Bool.{cases_Bool, cases_lt, eqb-true}
use Rattle.std.proofs.lemmas.List.{append-nil, length-append, length-drop}
use Rattle.std.proofs.lemmas.List.Elements.{All-weaker}
use Rattle.std.proofs.lemmas.Nat.{div-add-mod'}
use Rattle.std.proofs.Math.Nat.{mod-lt}
use Rattle.sc_sched.proofs.Step.{count_all}
use Rattle.sc_sched.proofs.Fill.{sum_apart}
use Rattle.sc_sched.proofs.Take.{sum_same, quotient, mul_add}
use Rattle.sc_sched.proofs.Free.{fun_same}
use Rattle.sc_sched.specs.Step.{count_below, div_up, Shop, size, needed, IsShop, IsListed}
use Rattle.sc_sched.specs.Schedule.{all_below, positions, pieces, of_kind, leads, cut}
use Rattle.sc_sched.proofs.SameSchedules.{filter_push}

pub add_none : (n : ℕ) → n + 0 ≡ n
add_none n = omega arith

pos_not : (n : ℕ) → 0 < n → eqb n 0 ≡ false
pos_not n h = elim (cases_Bool (eqb n 0)) [ inl t ↦ absurd (omega (arith, eqb-true n 0 t, h)) | inr f ↦ f ]

-- none below n passes exactly where their number is 0
none_below : (p : ℕ → Bool) (n : ℕ) → all_below (λ y. not (p y)) n ≡ eqb (count_below p n) 0
none_below p zero = refl
none_below p (suc n) = elim (cases_Bool (p n)) [
  | inl t ↦ rw (t) (sym (pos_not (count_below p n + 1) (omega arith)))
  | inr f ↦ rw (f) (none_below p n ∙ ap (λ (v : ℕ). eqb v 0) (sym (add_none (count_below p n))))
]

-- 1 for a kind that has a chosen gate below n, and 0 for another
abbrev pub some_of : ℕ → ℕ
some_of zero = 0
some_of (suc n) = 1

plus_one : (m : ℕ) → m + 1 ≡ suc m
plus_one m = omega arith

one_more : (m : ℕ) → some_of m + cond (eqb m 0) 1 0 ≡ some_of (m + 1)
one_more zero = refl
one_more (suc m) = rw (pos_not (suc m) (omega arith), plus_one (suc m)) refl

step_leader : (l c : ℕ) (chosen is all : Bool) → l ≡ some_of c → (is ≡ true → all ≡ eqb c 0) → l + cond ((chosen && all) && is) 1 0 ≡ some_of (c + cond (chosen && is) 1 0)
step_leader l c true true true e h = rw e (ap (λ (v : Bool). some_of c + cond v 1 0) (h refl) ∙ one_more c)
step_leader l c true true false e h = rw e (ap (λ (v : Bool). some_of c + cond v 1 0) (h refl) ∙ one_more c)
step_leader l c true false true e h = rw (e, add_none (some_of c), add_none c) refl
step_leader l c true false false e h = rw (e, add_none (some_of c), add_none c) refl
step_leader l c false i a e h = rw (e, add_none (some_of c), add_none c) refl

-- the leaders of a kind: one, if it has a gate
pub one_leader : {K : Type 0} (s : Shop K) (o : IsShop s) (c : ℕ → Bool) (kind : K) (n : ℕ) → n ≤ s.gates → count_below (λ x. leads s c x && s.is kind x) n ≡ some_of (count_below (λ x. c x && s.is kind x) n)
one_leader s o c kind zero l = refl
one_leader s o c kind (suc n) l =
    step_leader (count_below (λ x. leads s c x && s.is kind x) n) (count_below (λ x. c x && s.is kind x) n) (c n) (s.is kind n) (all_below (λ y. not (c y && s.is (s.kind_of n) y)) n)
    (one_leader s o c kind n (omega (arith, l)))
    (λ i. let e : kind ≡ s.kind_of n = o.same_kind n kind (omega (arith, l)) i in
    rw e (none_below (λ y. c y && s.is (s.kind_of n) y) n))

pub none_times : (n : ℕ) → 0 * n ≡ 0
none_times n = grind arith

pub all_zero : {K : Type 0} (f : K → ℕ) (kinds : List K) → ((kind : K) → f kind ≡ 0) → sum_by f kinds ≡ 0
all_zero f [] h = refl
all_zero f (kind ∷ kinds) h = sum_by-cons f kind kinds ∙ rw (h kind, all_zero f kinds h) refl

sum_changed : {K : Type 0} (s : Shop K) (f' f : K → ℕ) (x d : ℕ) → IsListed s x → ((kind : K) → s.is kind x ≡ false → f' kind ≡ f kind) → f' (s.kind_of x) ≡ f (s.kind_of x) + d → sum_by f' s.kinds ≡ sum_by f s.kinds + d
sum_changed {K} s f' f x d h same more =
    let a : sum_by f' h.front ≡ sum_by f h.front = sum_same f' f h.front (All-weaker (λ (kind : K). s.is kind x ≡ false) (λ (kind : K). f' kind ≡ f kind) same h.front h.not_front) in
    let b : sum_by f' h.back ≡ sum_by f h.back = sum_same f' f h.back (All-weaker (λ (kind : K). s.is kind x ≡ false) (λ (kind : K). f' kind ≡ f kind) same h.back h.not_back) in
    omega (arith, a, b, more, sum_apart f' s.kinds h.front h.back (s.kind_of x) h.is, sum_apart f s.kinds h.front h.back (s.kind_of x) h.is)

-- the sum over the leaders, by kinds
pub leaders_by_kind : {K : Type 0} (s : Shop K) (o : IsShop s) (c : ℕ → Bool) (g : K → ℕ) (n : ℕ) → n ≤ s.gates →
    sum_by (λ x. g (s.kind_of x)) (filter (leads s c) (positions n)) ≡ sum_by (λ kind. count_below (λ x. leads s c x && s.is kind x) n * g kind) s.kinds
leaders_by_kind s o c g zero l = sym (all_zero (λ kind. 0 * g kind) s.kinds (λ kind. none_times (g kind)))
leaders_by_kind s o c g (suc n) l =
    ap (sum_by (λ x. g (s.kind_of x))) (filter_push (leads s c) (positions n) n) ∙ elim (cases_Bool (leads s c n)) [
      | inl t ↦ rw t (sum_by_push (λ x. g (s.kind_of x)) (filter (leads s c) (positions n)) n
          ∙ (ap (λ (v : ℕ). v + g (s.kind_of n)) (leaders_by_kind s o c g n (omega (arith, l)))
          ∙ sym (sum_changed s _ _ n (g (s.kind_of n)) (o.listed n (omega (arith, l)))
          (λ kind i. rw (i, add_none (count_below (λ x. leads s c x && s.is kind x) n)) refl)
          (rw (o.of_kind n (omega (arith, l))) (mul_add _ _)))))
      | inr f ↦ rw (f, append-nil (filter (leads s c) (positions n))) (leaders_by_kind s o c g n (omega (arith, l))
          ∙ ap (λ (h : _ → ℕ). sum_by h s.kinds) (fun_same _ _ (λ kind. ap (λ (v : ℕ). v * g kind) (sym (add_none (count_below (λ x. leads s c x && s.is kind x) n))))))
    ]

pub one_times : (n : ℕ) → 1 * n ≡ n
one_times n = grind arith

pub div_none : (c : ℕ) → 0 < c → div_up 0 c ≡ 0
div_none c p = quotient 0 c (0 + (c - 1)) (rw (none_times c) (omega arith)) (rw (none_times c) (omega (arith, p)))

div_suc : (m c : ℕ) → 0 < c → 0 < m → suc (div_up (m - c) c) ≡ div_up m c
div_suc m c p q =
    let t : ℕ = m - c + (c - 1) in
    let e : t / c * c + t % c ≡ t = div-add-mod' t c in
    let r : t % c < c = mod-lt t p in
    elim (cases_lt m c) [
      | inl k ↦ (let z : t / c ≡ 0 = quotient 0 c t (rw (none_times c) (omega arith)) (rw (none_times c) (omega (arith, k, p))) in
          rw z (sym (quotient 1 c (m + (c - 1)) (rw (one_times c) (omega (arith, q))) (rw (one_times c) (omega (arith, k, p))))))
      | inr g ↦ sym (plus_one (t / c)) ∙ (sym (quotient (t / c + 1) c (m + (c - 1)) (rw (mul_add (t / c) c) (omega (arith, e, g, p))) (rw (mul_add (t / c) c) (omega (arith, e, r, g, p)))))
    ]

-- as many pieces as the quotient, rounded up
length_pieces : (fuel size : ℕ) (xs : List ℕ) → 0 < size → length xs ≤ fuel → length (pieces fuel size xs) ≡ div_up (length xs) size
unfolding pieces
length_pieces zero size [] p l = sym (div_none size p)
length_pieces zero size (x ∷ xs) p l = absurd (omega (arith, l))
length_pieces (suc fuel) size [] p l = sym (div_none size p)
length_pieces (suc fuel) size (x ∷ xs) p l =
    ap suc (length_pieces fuel size (drop size (x ∷ xs)) p (rw (length-drop size (x ∷ xs)) (omega (arith, l, p))))
    ∙ rw (length-drop size (x ∷ xs)) (div_suc (length (x ∷ xs)) size p (omega arith))

one_long : (v : Bool) (x n : ℕ) → n + length (cond v (x ∷ []) []) ≡ n + cond v 1 0
one_long true x n = refl
one_long false x n = refl

pub length_of_kind : (p : ℕ → Bool) (n : ℕ) → length (filter p (positions n)) ≡ count_below p n
length_of_kind p zero = refl
length_of_kind p (suc n) = ap length (filter_push p (positions n) n) ∙ (length-append (filter p (positions n)) (cond (p n) (n ∷ []) []) ∙ (ap (λ (v : ℕ). v + length (cond (p n) (n ∷ []) [])) (length_of_kind p n) ∙ one_long (p n) n (count_below p n)))

led : (m n : ℕ) → (m ≡ 0 → n ≡ 0) → some_of m * n ≡ n
led zero n h = rw (h refl) refl
led (suc m) n h = one_times n

pub length_cut : {K : Type 0} (s : Shop K) (o : IsShop s) (c : ℕ → Bool) → length (cut s c) ≡ needed s c
unfolding cut needed size
length_cut {K} s o c =
    let g : K → ℕ = λ kind. div_up (size s c kind) (s.room kind) in
    length-flat_map (λ x. pieces s.gates (s.room (s.kind_of x)) (of_kind s c (s.kind_of x))) (filter (leads s c) (positions s.gates))
    ∙ (ap (λ (h : ℕ → ℕ). sum_by h (filter (leads s c) (positions s.gates))) (fun_same _ _ (λ x.
    length_pieces s.gates (s.room (s.kind_of x)) (of_kind s c (s.kind_of x)) (o.roomy (s.kind_of x)) (rw (length_of_kind (λ y. c y && s.is (s.kind_of x) y) s.gates) (count_all _ s.gates))
    ∙ ap (λ (v : ℕ). div_up v (s.room (s.kind_of x))) (length_of_kind (λ y. c y && s.is (s.kind_of x) y) s.gates)))
    ∙ (leaders_by_kind s o c g s.gates (omega arith)
    ∙ ap (λ (h : K → ℕ). sum_by h s.kinds) (fun_same _ _ (λ kind. ap (λ (v : ℕ). v * g kind) (one_leader s o c kind s.gates (omega arith))
    ∙ led (size s c kind) (g kind) (λ z. rw z (div_none (s.room kind) (o.roomy kind)))))))
