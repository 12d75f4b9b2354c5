-- A list of gates has one priority schedule.
use Rattle.std.proofs.Common.{◌≡◌, ℕ, zero, suc, ◌<◌, Bool, true, false, cond, List, [], ◌∷◌, ◌++◌, refl, sym, ap, ◌∙◌, arith, append_assoc, append-nil, ◌&&◌, not}
use Rattle.std.specs.List.{filter, flat_map}
use Rattle.std.proofs.lemmas.Bool.{false≢true}
use Rattle.std.proofs.lemmas.List.Elements.{filter-append}
use Rattle.sc_sched.specs.Step.{Shop, IsOrder}
use Rattle.sc_sched.specs.Legal.{Step, stands_in, placed}
use Rattle.sc_sched.specs.Schedule.{all_below, ready, pieces, positions, of_kind, leads, cut, IsPriority}
use Rattle.sc_sched.proofs.Count.{and_left}
use Rattle.sc_sched.proofs.Step.{step_unique}

one_kept : (v : Bool) (x : ℕ) → cond v (x ∷ []) [] ≡ cond v (x ∷ []) []
one_kept v x = refl

pub filter_push : (p : ℕ → Bool) (xs : List ℕ) (x : ℕ) → filter p (xs ++ x ∷ []) ≡ filter p xs ++ cond (p x) (x ∷ []) []
filter_push p xs x = filter-append p xs (x ∷ []) ∙ ap (λ (z : List ℕ). filter p xs ++ z) (one_kept (p x) x)

-- filters of equal tests
filter_all : (p q : ℕ → Bool) (n : ℕ) → ((y : ℕ) → y < n → p y ≡ q y) → filter p (positions n) ≡ filter q (positions n)
filter_all p q zero h = refl
filter_all p q (suc n) h =
    filter_push p (positions n) n ∙ (ap (λ (z : List ℕ). z ++ cond (p n) (n ∷ []) []) (filter_all p q n (λ y l. h y (omega (arith, l))))
    ∙ (ap (λ (v : Bool). filter q (positions n) ++ cond v (n ∷ []) []) (h n (omega arith)) ∙ sym (filter_push q (positions n) n)))

pub all_same : (p q : ℕ → Bool) (n : ℕ) → ((y : ℕ) → y < n → p y ≡ q y) → all_below p n ≡ all_below q n
all_same p q zero h = refl
all_same p q (suc n) h = rw (h n (omega arith), all_same p q n (λ y l. h y (omega (arith, l)))) refl

flat_same : {A B : Type 0} (f g : A → List B) (xs : List A) → ((x : A) → f x ≡ g x) → flat_map f xs ≡ flat_map g xs
flat_same f g [] h = refl
flat_same f g (x ∷ xs) h = rw (h x, flat_same f g xs h) refl

-- equal choices are cut alike
pub cut_same : {K : Type 0} (s : Shop K) (c c' : ℕ → Bool) → ((y : ℕ) → y < s.gates → c y ≡ c' y) → cut s c ≡ cut s c'
unfolding cut
cut_same s c c' h =
    let a : filter (leads s c) (positions s.gates) ≡ filter (leads s c') (positions s.gates) =
    filter_all _ _ s.gates (λ x l. ap (λ (v : Bool). v && all_below (λ y. not (c y && s.is (s.kind_of x) y)) x) (h x l)
    ∙ ap (λ (v : Bool). c' x && v) (all_same _ _ x (λ y k. ap (λ (v : Bool). not (v && s.is (s.kind_of x) y)) (h y (omega (arith, k, l)))))) in
    ap (flat_map (λ x. pieces s.gates (s.room (s.kind_of x)) (of_kind s c (s.kind_of x)))) a
    ∙ flat_same _ _ _ (λ x. ap (pieces s.gates (s.room (s.kind_of x))) (filter_all _ _ s.gates (λ y l. ap (λ (v : Bool). v && s.is (s.kind_of x) y) (h y l))))

pub not_true : (b : Bool) → not b ≡ true → b ≡ true → ⊥
not_true true h k = false≢true h
not_true false h k = false≢true k

-- a schedule does not go on when all are placed
no_more : {K : Type 0} (s : Shop K) (xs ys front vs : List Step) (b : Step) → IsPriority s xs → IsPriority s ys → xs ≡ front ++ [] → ys ≡ front ++ b ∷ vs → ⊥
no_more s xs ys front vs b p q e f =
    let (x, l, there) = q.not_empty front b vs f in
    let r : ready s front x ≡ true = and_left (ready s front x) _ (sym ((q.exact front b vs f).exact x l) ∙ there) in
    let w : placed xs x ≡ placed (front ++ []) x = ap (λ (z : List Step). placed z x) e in
    let u : placed (front ++ []) x ≡ placed front x = ap (λ (z : List Step). placed z x) (append-nil front) in
    not_true (placed front x) (and_left _ _ r) (sym u ∙ (sym w ∙ p.everywhere x l))

same_steps : {K : Type 0} (s : Shop K) (o : IsOrder s) (xs ys : List Step) → IsPriority s xs → IsPriority s ys → (front us vs : List Step) → xs ≡ front ++ us → ys ≡ front ++ vs → us ≡ vs
same_steps s o xs ys p q front [] [] e f = refl
same_steps s o xs ys p q front [] (b ∷ vs) e f = absurd (no_more s xs ys front vs b p q e f)
same_steps s o xs ys p q front (a ∷ us) [] e f = absurd (no_more s ys xs front us a q p f e)
same_steps s o xs ys p q front (a ∷ us) (b ∷ vs) e f =
    let same : a ≡ b = p.regions front a us e ∙ (cut_same s (stands_in a) (stands_in b) (step_unique s o _ _ _ (p.exact front a us e) (q.exact front b vs f)) ∙ sym (q.regions front b vs f)) in
    let f' : ys ≡ front ++ a ∷ vs = f ∙ ap (λ (z : Step). front ++ z ∷ vs) (sym same) in
    ap (λ (z : Step). z ∷ us) same ∙ ap (λ (z : List Step). b ∷ z) (same_steps s o xs ys p q (front ++ a ∷ []) us vs (e ∙ sym (append_assoc front (a ∷ []) us)) (f' ∙ sym (append_assoc front (a ∷ []) vs)))

pub one_schedule : {K : Type 0} (s : Shop K) (o : IsOrder s) (xs ys : List Step) → IsPriority s xs → IsPriority s ys → xs ≡ ys
one_schedule s o xs ys p q = same_steps s o xs ys p q [] xs ys refl refl
