-- Ways of scopes: which begins which.
use Rattle.std.proofs.Common.{◌≡◌, ℕ, ◌<◌, Bool, true, false, ◌&&◌, List, [], ◌∷◌, ◌++◌, nat_eq, refl, sym, ap, subst, ◌∙◌, eq-eqb, eqb-true, arith}
use Rattle.std.proofs.Math.Bool.{and-false}
use Rattle.sc_base.specs.Texts.{same}
use Rattle.sc_types.specs.Declarations.{is_prefix}

eq_refl : (n : ℕ) → nat_eq n n ≡ true
eq_refl n = eq-eqb n n refl

pub same_refl : (a : List ℕ) → same a a ≡ true
same_refl [] = refl
same_refl (x ∷ xs) = ap (λ b. b && same xs xs) (eq_refl x) ∙ same_refl xs

pub prefix_refl : (a : List ℕ) → is_prefix a a ≡ true
prefix_refl [] = refl
prefix_refl (x ∷ xs) = ap (λ b. b && is_prefix xs xs) (eq_refl x) ∙ prefix_refl xs

and_left : (a b : Bool) → (a && b) ≡ true → a ≡ true
and_left true b e = refl
and_left false b e = e

and_right : (a b : Bool) → (a && b) ≡ true → b ≡ true
and_right true b e = e
and_right false b e = cc

-- the test that fails between two numbers fails the other way round
eq_swap : (m n : ℕ) → nat_eq m n ≡ false → nat_eq n m ≡ false
eq_swap m n e = by (nat_eq n m) refl
  where
    by : (b : Bool) → nat_eq n m ≡ b → nat_eq n m ≡ false
    by true t = let s : nat_eq m n ≡ true = eq-eqb m n (sym (eqb-true n m t)) in cc
    by false t = t

apart : (m n : ℕ) → m < n → nat_eq n m ≡ false
apart m n h = by (nat_eq n m) refl
  where
    by : (b : Bool) → nat_eq n m ≡ b → nat_eq n m ≡ false
    by true t = let s : n ≡ m = eqb-true n m t in absurd (omega arith)
    by false t = t

-- what a longer way begins, a shorter one begins
pub prefix_shorter : (way more a : List ℕ) → is_prefix (way ++ more) a ≡ true → is_prefix way a ≡ true
prefix_shorter [] more a e = refl
prefix_shorter (x ∷ way) more [] e = cc
prefix_shorter (x ∷ way) more (y ∷ a) e =
    ap (λ b. b && is_prefix way a) (and_left (nat_eq x y) (is_prefix (way ++ more) a) e) ∙ prefix_shorter way more a (and_right (nat_eq x y) (is_prefix (way ++ more) a) e)

pub prefix_longer : (way more a : List ℕ) → is_prefix way a ≡ false → is_prefix (way ++ more) a ≡ false
prefix_longer way more a e = by (is_prefix (way ++ more) a) refl
  where
    by : (b : Bool) → is_prefix (way ++ more) a ≡ b → is_prefix (way ++ more) a ≡ false
    by true t = let s : is_prefix way a ≡ true = prefix_shorter way more a t in cc
    by false t = t

pub prefix_append : (way more : List ℕ) → is_prefix way (way ++ more) ≡ true
prefix_append [] more = refl
prefix_append (x ∷ way) more = ap (λ b. b && is_prefix way (way ++ more)) (eq_refl x) ∙ prefix_append way more

-- where nothing begins with the longer way, the place one step further sees what the place sees
pub prefix_step : (a place : List ℕ) (i : ℕ) → is_prefix (place ++ i ∷ []) a ≡ false → is_prefix a (place ++ i ∷ []) ≡ is_prefix a place
prefix_step [] place i e = refl
prefix_step (x ∷ a) [] i e = by (nat_eq i x) refl
  where
    by : (b : Bool) → nat_eq i x ≡ b → (nat_eq x i && is_prefix a []) ≡ false
    by true t = let s : (true && true) ≡ false = ap (λ b. b && true) (sym t) ∙ e in cc
    by false t = ap (λ b. b && is_prefix a []) (eq_swap i x t)
prefix_step (x ∷ a) (s ∷ place) i e = by (nat_eq s x) refl (prefix_step a place i)
  where
    by : (b : Bool) → nat_eq s x ≡ b → (is_prefix (place ++ i ∷ []) a ≡ false → is_prefix a (place ++ i ∷ []) ≡ is_prefix a place)
        → (nat_eq x s && is_prefix a (place ++ i ∷ [])) ≡ (nat_eq x s && is_prefix a place)
    by true t h = ap (λ b. nat_eq x s && b) (h (ap (λ b. b && is_prefix (place ++ i ∷ []) a) (sym t) ∙ e))
    by false t h = ap (λ b. b && is_prefix a (place ++ i ∷ [])) (eq_swap s x t) ∙ sym (ap (λ b. b && is_prefix a place) (eq_swap s x t))

-- a place further in along a way that nothing begins with sees what the way sees
pub prefix_beyond : (a way more : List ℕ) → is_prefix way a ≡ false → is_prefix a (way ++ more) ≡ is_prefix a way
prefix_beyond [] way more e = refl
prefix_beyond (x ∷ a) [] more e = cc
prefix_beyond (x ∷ a) (s ∷ way) more e = by (nat_eq s x) refl (prefix_beyond a way more)
  where
    by : (b : Bool) → nat_eq s x ≡ b → (is_prefix way a ≡ false → is_prefix a (way ++ more) ≡ is_prefix a way) → (nat_eq x s && is_prefix a (way ++ more)) ≡ (nat_eq x s && is_prefix a way)
    by true t h = ap (λ b. nat_eq x s && b) (h (ap (λ b. b && is_prefix way a) (sym t) ∙ e))
    by false t h = ap (λ b. b && is_prefix a (way ++ more)) (eq_swap s x t) ∙ sym (ap (λ b. b && is_prefix a way) (eq_swap s x t))

-- what begins with an earlier number is not seen along a later one
pub other_way : (way a : List ℕ) (i j : ℕ) → is_prefix (way ++ i ∷ []) a ≡ true → i < j → is_prefix a (way ++ j ∷ []) ≡ false
other_way [] [] i j e h = cc
other_way [] (x ∷ a) i j e h =
    let s : i ≡ x = eqb-true i x (and_left (nat_eq i x) true e) in
    ap (λ b. b && is_prefix a []) (subst (λ (n : ℕ). nat_eq n j ≡ false) s (eq_swap j i (apart i j h)))
other_way (s ∷ way) [] i j e h = cc
other_way (s ∷ way) (x ∷ a) i j e h =
    ap (λ b. nat_eq x s && b) (other_way way a i j (and_right (nat_eq s x) (is_prefix (way ++ i ∷ []) a) e) h) ∙ and-false (nat_eq x s)

pub same_longer : (a b : List ℕ) → is_prefix a b ≡ false → same a b ≡ false
same_longer [] b e = cc
same_longer (x ∷ a) [] e = refl
same_longer (x ∷ a) (y ∷ b) e = by (nat_eq x y) refl (same_longer a b)
  where
    by : (t : Bool) → nat_eq x y ≡ t → (is_prefix a b ≡ false → same a b ≡ false) → (nat_eq x y && same a b) ≡ false
    by true t h = ap (λ v. v && same a b) t ∙ h (ap (λ v. v && is_prefix a b) (sym t) ∙ e)
    by false t h = ap (λ v. v && same a b) t

-- what begins with a longer way holds the place no more
pub not_seen : (place a : List ℕ) (i : ℕ) → is_prefix (place ++ i ∷ []) a ≡ true → is_prefix a place ≡ false
not_seen [] [] i e = cc
not_seen [] (x ∷ a) i e = refl
not_seen (s ∷ place) [] i e = cc
not_seen (s ∷ place) (x ∷ a) i e =
    ap (λ b. nat_eq x s && b) (not_seen place a i (and_right (nat_eq s x) (is_prefix (place ++ i ∷ []) a) e)) ∙ and-false (nat_eq x s)

pub not_same : (place a : List ℕ) (i : ℕ) → is_prefix (place ++ i ∷ []) a ≡ true → same place a ≡ false
not_same [] [] i e = cc
not_same [] (x ∷ a) i e = refl
not_same (s ∷ place) [] i e = cc
not_same (s ∷ place) (x ∷ a) i e =
    ap (λ b. nat_eq s x && b) (not_same place a i (and_right (nat_eq s x) (is_prefix (place ++ i ∷ []) a) e)) ∙ and-false (nat_eq s x)

-- a later number begins neither the place nor what begins with an earlier number
pub later_place : (place : List ℕ) (i : ℕ) → is_prefix (place ++ i ∷ []) place ≡ false
later_place [] i = refl
later_place (s ∷ place) i = ap (λ b. nat_eq s s && b) (later_place place i) ∙ and-false (nat_eq s s)

pub later_way : (place a : List ℕ) (i j : ℕ) → is_prefix (place ++ i ∷ []) a ≡ true → i < j → is_prefix (place ++ j ∷ []) a ≡ false
later_way [] [] i j e h = cc
later_way [] (x ∷ a) i j e h =
    let s : i ≡ x = eqb-true i x (and_left (nat_eq i x) true e) in
    ap (λ b. b && true) (subst (λ (n : ℕ). nat_eq j n ≡ false) s (apart i j h))
later_way (s ∷ place) [] i j e h = cc
later_way (s ∷ place) (x ∷ a) i j e h =
    ap (λ b. nat_eq s x && b) (later_way place a i j (and_right (nat_eq s x) (is_prefix (place ++ i ∷ []) a) e) h) ∙ and-false (nat_eq s x)
