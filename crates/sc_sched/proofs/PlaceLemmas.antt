-- The positions of gates in another order.
use Rattle.std.proofs.Common.{◌≡◌, ◌≢◌, ℕ, zero, suc, ◌+◌, ◌<◌, Bool, true, false, List, [], ◌∷◌, ◌++◌, length, get_or, refl, sym, ap, ◌∙◌, subst, arith, inl, inr}
use Rattle.std.specs.Prelude.{slice_index, slice_set, nat_lt, ◌==◌}
use Rattle.std.specs.List.{All, AllPairs, IsDistinct}
use Rattle.std.specs.List.Sorted.{IsPermutation, IsStrictlyIncreasing}
use Rattle.std.specs.Cmp.{IsStrictWeakOrder}
use Rattle.std.proofs.lemmas.Bool.{false≢true, cases_Bool, cases_lt, cases_order, eqb-true, eq-eqb, lt-ltb, le-ltb}
use Rattle.std.proofs.lemmas.Bool.Decides.{Decides-eqb}
use Rattle.std.proofs.lemmas.List.{length-append, get_or_default, get_or-set_same, get_or-set_other}
use Rattle.std.proofs.lemmas.List.Kept.{AllPairs-from_increasing}
use Rattle.std.proofs.lemmas.List.Sorted.{All-permutation, Contains-permutation, length_permutation}
use Rattle.std.proofs.lemmas.Map.Keys.{IsDistinct-IsPermutation}
use Rattle.std.proofs.lemmas.Map.Made.{IsDistinct-from_AllPairs, AllPairs-from_IsDistinct}
use Rattle.std.proofs.lemmas.Option.{slice_get_past}
use Rattle.std.proofs.Math.ListN.{get_or-append}
use Rattle.std.proofs.Math.Seq.{get_or-append_seam}
use Rattle.sc_sched.specs.declared.order.Rank.{Rank}
use Rattle.sc_sched.specs.Schedule.{positions}
use Rattle.sc_sched.specs.PrioritySchedules.{IsRankOrder}
use Rattle.sc_sched.specs.Laid.{rank_at, before_by}
use Rattle.sc_sched.specs.Places.{AreInverse, IsInOrder}
use Rattle.sc_sched.proofs.Count.{lt_cases, same_truth}

-- positions are their own indexes
pub length_positions : (n : ℕ) → length (positions n) ≡ n
length_positions zero = refl
length_positions (suc n) = omega (arith, length-append (positions n) (n ∷ []), length_positions n)

pub positions_at : (n i d : ℕ) → i < n → get_or (positions n) i d ≡ i
positions_at zero i d l = absurd (omega (arith, l))
positions_at (suc n) i d l = elim (lt_cases i n l) [
  | inl e ↦ ap (λ (z : ℕ). get_or (positions n ++ n ∷ []) z d) (e ∙ sym (length_positions n)) ∙ (get_or-append_seam (positions n) n [] d ∙ sym e)
  | inr k ↦ get_or-append (positions n) (n ∷ []) d i (omega (arith, k, length_positions n)) ∙ positions_at n i d k
]

positions_rise : (n : ℕ) → IsStrictlyIncreasing (positions n)
positions_rise n k l =
    let a : k + 1 < n = omega (arith, l, length_positions n) in
    omega (arith, positions_at n k 0 (omega (arith, a)), positions_at n (k + 1) 0 a)

same_number : (a b : ℕ) → (a == b) ≡ (b == a)
same_number a b = same_truth (a == b) (b == a) (λ h. eq-eqb b a (sym (eqb-true a b h))) (λ h. eq-eqb a b (sym (eqb-true b a h)))

-- the numbers of a list of all positions
pub record ArePositions (xs : List ℕ) : Type 0 where
  pub inside : (i : ℕ) → i < length xs → slice_index xs i < length xs
  pub once : (i j : ℕ) → i < j → j < length xs → slice_index xs i ≢ slice_index xs j
  pub on : (x : ℕ) → x < length xs → (i : ℕ) × (i < length xs) × (slice_index xs i ≡ x)

pub positions_moved : (xs : List ℕ) → IsPermutation (positions (length xs)) xs → ArePositions xs
positions_moved xs p =
    let few : All (λ x. x < length xs) (positions (length xs)) = λ k d l. (let b : k < length xs = omega (arith, l, length_positions (length xs)) in omega (arith, positions_at (length xs) k d b, b)) in
    let all : All (λ x. x < length xs) xs = All-permutation (λ (x : ℕ). x < length xs) (positions (length xs)) xs p few in
    let apart : AllPairs (λ (x y : ℕ). x ≢ y) (positions (length xs)) = λ i j d l b e. (let r = AllPairs-from_increasing (positions (length xs)) (positions_rise (length xs)) i j d l b in omega (arith, r, e)) in
    let distinct : IsDistinct (λ (x y : ℕ). x == y) xs =
    IsDistinct-IsPermutation (λ (x y : ℕ). x == y) same_number (positions (length xs)) xs p (IsDistinct-from_AllPairs {eq = λ (x y : ℕ). x == y} Decides-eqb (positions (length xs)) apart) in
    record {
      inside = λ i l. all i 0 l;
      once = λ i j l b. AllPairs-from_IsDistinct {eq = λ (x y : ℕ). x == y} Decides-eqb xs distinct i j 0 l b;
      on = λ x l. (let (i, b, e) = Contains-permutation (positions (length xs)) xs x p (x, omega (arith, l, length_positions (length xs)), positions_at (length xs) x x l) in
          (i, b, get_or_default xs i 0 x b ∙ e));
    }

-- the same of a list that is equal
pub permuted : (n : ℕ) (xs ys : List ℕ) → IsPermutation (positions n) xs → ys ≡ xs → IsPermutation (positions (length ys)) ys
permuted n xs ys p e =
    let m : n ≡ length ys = omega (arith, ap (λ (z : List ℕ). length z) e, length_permutation (positions n) xs p, length_positions n) in
    subst (λ (k : ℕ). IsPermutation (positions k) ys) m (subst (λ (z : List ℕ). IsPermutation (positions n) z) (sym e) p)

pub many_permuted : (n : ℕ) (xs : List ℕ) → IsPermutation (positions n) xs → length xs ≡ n
many_permuted n xs p = length_permutation (positions n) xs p ∙ length_positions n

-- the list of the indexes of each is its inverse
pub inverse_is : (xs back : List ℕ) → IsPermutation (positions (length xs)) xs → length back ≡ length xs → ((i : ℕ) → i < length xs → slice_index back (slice_index xs i) ≡ i) → AreInverse xs back
inverse_is xs back p many known =
    let a : ArePositions xs = positions_moved xs p in
    record {
      many = many;
      inside = a.inside;
      back_inside = λ x l. (let (i, b, e) = a.on x l in let f : slice_index back x ≡ i = ap (slice_index back) (sym e) ∙ known i b in omega (arith, f, b));
      back_at = known;
      at_back = λ x l. (let (i, b, e) = a.on x l in ap (slice_index xs) (ap (slice_index back) (sym e) ∙ known i b) ∙ e);
    }

-- a loop's step: one more of them is known
pub inverse_more : (xs back : List ℕ) (i : ℕ) → IsPermutation (positions (length xs)) xs → i < length xs → length back ≡ length xs → ((j : ℕ) → j < i → slice_index back (slice_index xs j) ≡ j) →
    (j : ℕ) → j < i + 1 → slice_index (slice_set back (slice_index xs i) i) (slice_index xs j) ≡ j
inverse_more xs back i p l many known j b =
    let a : ArePositions xs = positions_moved xs p in
    elim (cases_order j i) [
      | inl e ↦ ap (λ (z : ℕ). slice_index (slice_set back (slice_index xs i) i) (slice_index xs z)) e
          ∙ (get_or-set_same back (slice_index xs i) i 0 (let c : slice_index xs i < length xs = a.inside i l in omega (arith, c, many)) ∙ sym e)
      | inr o ↦ elim o [
        | inl k ↦ get_or-set_other back (slice_index xs i) (slice_index xs j) i 0 (a.once j i k l) ∙ known j k
        | inr k ↦ absurd (omega (arith, b, k))
      ]
    ]

-- orders of positions by ranks
pub record IsPositionOrder (before : ℕ → ℕ → Bool) : Type 0 where
  pub irreflexive : (x : ℕ) → before x x ≡ false
  pub transitive : (x y z : ℕ) → before x y ≡ true → before y z ≡ true → before x z ≡ true
  pub total : (x y : ℕ) → before x y ≡ false → before y x ≡ false → x ≡ y

position_here : (ranks : List Rank) → ((x : ℕ) → x < length ranks → (rank_at ranks x).position ≡ x) → (x : ℕ) → (rank_at ranks x).position ≡ x
position_here ranks h x = elim (cases_lt x (length ranks)) [
  | inl l ↦ h x l
  | inr g ↦ rw (slice_get_past ranks x g) refl
]

pub position_order : (comes : Rank → Rank → Bool) (ranks : List Rank) → IsRankOrder comes → ((x : ℕ) → x < length ranks → (rank_at ranks x).position ≡ x) → IsPositionOrder (before_by comes ranks)
position_order comes ranks o h = record {
  irreflexive = λ x. o.irreflexive (rank_at ranks x);
  transitive = λ x y z a b. o.transitive (rank_at ranks x) (rank_at ranks y) (rank_at ranks z) a b;
  total = λ x y a b. sym (position_here ranks h x) ∙ (o.total (rank_at ranks x) (rank_at ranks y) a b ∙ position_here ranks h y);
}

module _ (before : ℕ → ℕ → Bool) (o : IsPositionOrder before) where
  one_way : (x y : ℕ) → before x y ≡ true → before y x ≡ false
  one_way x y h = elim (cases_Bool (before y x)) [
    | inl t ↦ absurd (false≢true (sym (o.irreflexive x) ∙ o.transitive x y x h t))
    | inr f ↦ f
  ]

  chain : (x y z : ℕ) → before x y ≡ false → before y z ≡ false → before x z ≡ false
  chain x y z h g = elim (cases_Bool (before x z)) [
    | inr f ↦ f
    | inl t ↦ elim (cases_Bool (before y x)) [
      | inl u ↦ absurd (false≢true (sym g ∙ o.transitive y x z u t))
      | inr f ↦ absurd (false≢true (sym g ∙ (ap (λ (w : ℕ). before w z) (sym (o.total x y h f)) ∙ t)))
    ]
  ]

  pub weak_order : IsStrictWeakOrder before
  weak_order = record { one_way = one_way; chain = chain }

  module _ (xs place : List ℕ) (sorted : IsInOrder before xs) (inv : AreInverse xs place) where
    neighbours : (i : ℕ) → suc i < length xs → before (slice_index xs i) (slice_index xs (suc i)) ≡ true
    neighbours i l = elim (cases_Bool (before (slice_index xs i) (slice_index xs (suc i)))) [
      | inl t ↦ t
      | inr f ↦ absurd (let e : slice_index xs i ≡ slice_index xs (suc i) = o.total (slice_index xs i) (slice_index xs (suc i)) f (later i l) in
          let g : i ≡ suc i = sym (inv.back_at i (omega (arith, l))) ∙ (ap (slice_index place) e ∙ inv.back_at (suc i) l) in omega (arith, g))
    ]
      where
        later : (i : ℕ) → suc i < length xs → before (slice_index xs (suc i)) (slice_index xs i) ≡ false
        later i l = subst (λ (n : ℕ). before (slice_index xs n) (slice_index xs i) ≡ false) (let e : i + 1 ≡ suc i = omega arith in e) (sorted i (omega (arith, l)))

    far : (i j : ℕ) → i < j → j < length xs → before (slice_index xs i) (slice_index xs j) ≡ true
    far i zero l b = absurd (omega (arith, l))
    far i (suc j) l b = elim (lt_cases i j l) [
      | inl e ↦ subst (λ (n : ℕ). before (slice_index xs n) (slice_index xs (suc j)) ≡ true) (sym e) (neighbours j b)
      | inr k ↦ o.transitive (slice_index xs i) (slice_index xs j) (slice_index xs (suc j)) (far i j k (omega (arith, b))) (neighbours j b)
    ]

    far_gates : (x y : ℕ) → x < length xs → y < length xs → slice_index place x < slice_index place y → before x y ≡ true
    far_gates x y l b h =
        let t : before (slice_index xs (slice_index place x)) (slice_index xs (slice_index place y)) ≡ true = far (slice_index place x) (slice_index place y) h (inv.back_inside y b) in
        ap (λ (n : ℕ). before n y) (sym (inv.at_back x l)) ∙ (ap (before (slice_index xs (slice_index place x))) (sym (inv.at_back y b)) ∙ t)

    -- places tell the order
    pub places_order : (x y : ℕ) → x < length xs → y < length xs → nat_lt (slice_index place x) (slice_index place y) ≡ before x y
    places_order x y l b = elim (cases_order (slice_index place x) (slice_index place y)) [
      | inl e ↦ (let same : x ≡ y = sym (inv.at_back x l) ∙ (ap (slice_index xs) e ∙ inv.at_back y b) in
          le-ltb _ _ (omega (arith, e)) ∙ sym (ap (before x) (sym same) ∙ o.irreflexive x))
      | inr k ↦ elim k [
        | inl h ↦ lt-ltb _ _ h ∙ sym (far_gates x y l b h)
        | inr h ↦ le-ltb _ _ (omega (arith, h)) ∙ sym (one_way y x (far_gates y x b l h))
      ]
    ]
