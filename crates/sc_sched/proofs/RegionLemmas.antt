-- What the regions of a cut step hold.
use Rattle.std.proofs.Common.{◌≡◌, ℕ, zero, suc, ◌<◌, ◌≤◌, Bool, true, List, [], ◌∷◌, length, take, drop, arith, inl, inr, ◌&&◌}
use Rattle.std.specs.Prelude.{All}
use Rattle.std.specs.List.{filter, flat_map}
use Rattle.std.proofs.lemmas.Bool.{cases_Bool}
use Rattle.std.proofs.lemmas.List.Elements.{All-append, All-cons, All-nil, All-weaker}
use Rattle.sc_sched.specs.Step.{Shop}
use Rattle.sc_sched.specs.Legal.{Region}
use Rattle.sc_sched.specs.Schedule.{positions, pieces, of_kind, cut}
use Rattle.sc_sched.proofs.Count.{and_right}

-- gates of one kind, as many as a region takes
pub record IsRegion {K : Type 0} (s : Shop K) (region : Region) : Type 0 where
  pub kind : K
  pub of_kind : All (λ y. (y < s.gates) × (s.is kind y ≡ true)) region
  pub fits : length region ≤ s.room kind

all_take : {A : Type 0} (P : A → Type 0) (n : ℕ) (xs : List A) → All P xs → All P (take n xs)
all_take P zero xs h = All-nil P
all_take P (suc n) [] h = All-nil P
all_take P (suc n) (x ∷ xs) h = All-cons P x (take n xs) (h 0 x (omega arith)) (all_take P n xs (λ k d l. h (suc k) d (omega (arith, l))))

all_drop : {A : Type 0} (P : A → Type 0) (n : ℕ) (xs : List A) → All P xs → All P (drop n xs)
all_drop P zero xs h = h
all_drop P (suc n) [] h = All-nil P
all_drop P (suc n) (x ∷ xs) h = all_drop P n xs (λ k d l. h (suc k) d (omega (arith, l)))

take_few : {A : Type 0} (n : ℕ) (xs : List A) → length (take n xs) ≤ n
take_few zero xs = omega arith
take_few (suc n) [] = omega arith
take_few (suc n) (x ∷ xs) = let a : length (take n xs) ≤ n = take_few n xs in omega (arith, a)

pieces_are : (P : ℕ → Type 0) (fuel size : ℕ) (xs : List ℕ) → All P xs → All (λ region. All P region × (length region ≤ size)) (pieces fuel size xs)
unfolding pieces
pieces_are P zero size xs h = All-nil (λ region. All P region × (length region ≤ size))
pieces_are P (suc fuel) size [] h = All-nil (λ region. All P region × (length region ≤ size))
pieces_are P (suc fuel) size (x ∷ xs) h =
    All-cons (λ region. All P region × (length region ≤ size)) (take size (x ∷ xs)) (pieces fuel size (drop size (x ∷ xs)))
    (all_take P size (x ∷ xs) h, take_few size (x ∷ xs)) (pieces_are P fuel size (drop size (x ∷ xs)) (all_drop P size (x ∷ xs) h))

pub all_flat : {A B : Type 0} (P : B → Type 0) (f : A → List B) (xs : List A) → ((x : A) → All P (f x)) → All P (flat_map f xs)
all_flat P f [] h = All-nil P
all_flat P f (x ∷ xs) h = All-append P (f x) (flat_map f xs) (h x) (all_flat P f xs h)

pub positions_below : (n : ℕ) → All (λ y. y < n) (positions n)
positions_below zero = All-nil (λ y. y < 0)
positions_below (suc n) = All-append (λ y. y < suc n) (positions n) (n ∷ []) (All-weaker (λ y. y < n) (λ y. y < suc n) (λ y l. omega (arith, l)) (positions n) (positions_below n))
    (All-cons (λ y. y < suc n) n [] (omega arith) (All-nil (λ y. y < suc n)))

pub all_filter : (P : ℕ → Type 0) (test : ℕ → Bool) (xs : List ℕ) → All P xs → All (λ y. P y × (test y ≡ true)) (filter test xs)
all_filter P test [] h = All-nil (λ y. P y × (test y ≡ true))
all_filter P test (x ∷ xs) h = elim (cases_Bool (test x)) [
  | inl t ↦ rw t (All-cons (λ y. P y × (test y ≡ true)) x (filter test xs) (h 0 x (omega arith), t) (all_filter P test xs (λ k d l. h (suc k) d (omega (arith, l)))))
  | inr f ↦ rw f (all_filter P test xs (λ k d l. h (suc k) d (omega (arith, l))))
]

pub cut_regions : {K : Type 0} (s : Shop K) (chosen : ℕ → Bool) → All (IsRegion s) (cut s chosen)
unfolding cut
cut_regions s chosen = all_flat (IsRegion s) _ _ (λ x.
    All-weaker (λ region. All (λ y. (y < s.gates) × ((chosen y && s.is (s.kind_of x) y) ≡ true)) region × (length region ≤ s.room (s.kind_of x))) (IsRegion s)
    (λ region h. record { kind = s.kind_of x; of_kind = All-weaker (λ (y : ℕ). (y < s.gates) × ((chosen y && s.is (s.kind_of x) y) ≡ true)) (λ (y : ℕ). (y < s.gates) × (s.is (s.kind_of x) y ≡ true)) (λ y p. (p.0, and_right (chosen y) _ p.1)) region h.0; fits = h.1 })
    (pieces s.gates (s.room (s.kind_of x)) (of_kind s chosen (s.kind_of x)))
    (pieces_are (λ (y : ℕ). (y < s.gates) × ((chosen y && s.is (s.kind_of x) y) ≡ true)) s.gates (s.room (s.kind_of x)) (of_kind s chosen (s.kind_of x)) (all_filter (λ y. y < s.gates) (λ y. chosen y && s.is (s.kind_of x) y) (positions s.gates) (positions_below s.gates))))
