-- The first and the last that pass, in a list that grows or is read part by part.
use Rattle.std.proofs.Common.{◌≡◌, ℕ, suc, ◌+◌, ◌<◌, Bool, true, false, cond, not, ◌||◌, List, [], ◌∷◌, ◌++◌, length, map, take, get_or, Option, Some, None, refl, sym, ap, ◌∙◌, eqb-true}
use Rattle.std.proofs.lemmas.List.{take_more}
use Rattle.std.proofs.Math.Dec.{eqb-suc-suc, eqb-zero-suc, leb-suc-suc, leb-zero, leb-suc-zero}
use Rattle.std.specs.Prelude.{find, option_map, is_some, slice_get}
use Rattle.std.specs.Option.{option_or, option_and_then}
use Rattle.std.specs.List.{list_any}
use Rattle.sc_types.specs.Positions.{first_at, last_at, is_position, is_past}

-- ---- one more at the end

-- the front up to an item and with it
pub take_next : {A : Type 0} (xs : List A) (i : ℕ) (x : A) → i < length xs → x ≡ get_or xs i x → take (i + 1) xs ≡ take i xs ++ x ∷ []
take_next xs i x within is = take_more xs i x within ∙ ap (λ y. take i xs ++ y ∷ []) (sym is)

suc_or : (a : Option ℕ) (b : Bool) (n : ℕ) → option_map suc (option_or a (cond b (Some n) None)) ≡ option_or (option_map suc a) (cond b (Some (suc n)) None)
suc_or (Some k) b n = refl
suc_or None true n = refl
suc_or None false n = refl

pub first_at-push : {A : Type 0} (test : A → Bool) (xs : List A) (y : A) → first_at test (xs ++ y ∷ []) ≡ option_or (first_at test xs) (cond (test y) (Some (length xs)) None)
first_at-push test [] y = by (test y)
  where
    by : (b : Bool) → cond {A = Option ℕ} b (Some 0) None ≡ option_or None (cond b (Some 0) None)
    by true = refl
    by false = refl
first_at-push test (x ∷ xs) y =
    elim (test x) as (λ b. cond b (Some 0) (option_map suc (first_at test (xs ++ y ∷ []))) ≡ option_or (cond b (Some 0) (option_map suc (first_at test xs))) (cond (test y) (Some (suc (length xs))) None)) [
      | true ↦ refl
      | false ↦ ap (option_map suc) (first_at-push test xs y) ∙ suc_or (first_at test xs) (test y) (length xs)
    ]

suc_cond : (b : Bool) (n : ℕ) (a c : Option ℕ) → option_or (option_map suc (cond b (Some n) a)) c ≡ cond b (Some (suc n)) (option_or (option_map suc a) c)
suc_cond true n a c = refl
suc_cond false n a c = refl

pub last_at-push : {A : Type 0} (test : A → Bool) (xs : List A) (y : A) → last_at test (xs ++ y ∷ []) ≡ cond (test y) (Some (length xs)) (last_at test xs)
last_at-push test [] y = refl
last_at-push test (x ∷ xs) y =
    ap (λ (r : Option ℕ). option_or (option_map suc r) (cond (test x) (Some 0) None)) (last_at-push test xs y)
    ∙ suc_cond (test y) (length xs) (last_at test xs) (cond (test x) (Some 0) None)

-- ---- whether there is one

pub some_first : {A : Type 0} (test : A → Bool) (xs : List A) → list_any test xs ≡ is_some (first_at test xs)
some_first test [] = refl
some_first test (x ∷ xs) =
    elim (test x) as (λ b. (b || list_any test xs) ≡ is_some (cond b (Some 0) (option_map suc (first_at test xs)))) [
      | true ↦ refl
      | false ↦ some_first test xs ∙ by (first_at test xs)
    ]
  where
    by : (r : Option ℕ) → is_some r ≡ is_some (option_map suc r)
    by None = refl
    by (Some k) = refl

some_last : {A : Type 0} (test : A → Bool) (xs : List A) → list_any test xs ≡ is_some (last_at test xs)
some_last test [] = refl
some_last test (x ∷ xs) = ap (λ b. test x || b) (some_last test xs) ∙ by (test x) (last_at test xs)
  where
    by : (b : Bool) (r : Option ℕ) → (b || is_some r) ≡ is_some (option_or (option_map suc r) (cond b (Some 0) None))
    by true None = refl
    by true (Some k) = refl
    by false None = refl
    by false (Some k) = refl

-- among what is made of each
pub any_made : {A B : Type 0} (test : B → Bool) (f : A → B) (xs : List A) → list_any test (map f xs) ≡ list_any (λ x. test (f x)) xs
any_made test f [] = refl
any_made test f (x ∷ xs) = ap (λ b. test (f x) || b) (any_made test f xs)

-- ---- at a position

suc_position : (n : ℕ) (r : Option ℕ) → is_position (suc n) (option_map suc r) ≡ is_position n r
suc_position n None = refl
suc_position n (Some j) = eqb-suc-suc j n

-- one that passes is the first where none before it passes
pub is_first : {A : Type 0} (test : A → Bool) (xs : List A) (y : A) (ys : List A) → test y ≡ true
    → is_position (length xs) (first_at test (xs ++ y ∷ ys)) ≡ not (list_any test xs)
is_first test [] y ys h = ap (λ b. is_position 0 (cond b (Some 0) (option_map suc (first_at test ys)))) h
is_first test (x ∷ xs) y ys h =
    elim (test x) as (λ b. is_position (suc (length xs)) (cond b (Some 0) (option_map suc (first_at test (xs ++ y ∷ ys)))) ≡ not (b || list_any test xs)) [
      | true ↦ eqb-zero-suc (length xs)
      | false ↦ suc_position (length xs) (first_at test (xs ++ y ∷ ys)) ∙ is_first test xs y ys h
    ]

past_begin : (b : Bool) (r : Option ℕ) → is_some r ≡ is_past 0 (option_or (option_map suc r) (cond b (Some 0) None))
past_begin true None = refl
past_begin false None = refl
past_begin b (Some j) = sym (leb-suc-suc 0 j ∙ leb-zero j)

past_more : (b : Bool) (n : ℕ) (r : Option ℕ) → is_past n r ≡ is_past (suc n) (option_or (option_map suc r) (cond b (Some 0) None))
past_more true n None = sym (leb-suc-zero (suc n))
past_more false n None = refl
past_more b n (Some j) = sym (leb-suc-suc (suc n) j)

-- the last that passes is past a place where one after it passes
pub is_later : {A : Type 0} (test : A → Bool) (xs : List A) (y : A) (ys : List A)
    → list_any test ys ≡ is_past (length xs) (last_at test (xs ++ y ∷ ys))
is_later test [] y ys = some_last test ys ∙ past_begin (test y) (last_at test ys)
is_later test (x ∷ xs) y ys = is_later test xs y ys ∙ past_more (test x) (length xs) (last_at test (xs ++ y ∷ ys))

-- ---- what stands there

skip_one : {B : Type 0} (z : B) (zs : List B) (r : Option ℕ) → option_and_then (slice_get (z ∷ zs)) (option_map suc r) ≡ option_and_then (slice_get zs) r
skip_one z zs None = refl
skip_one z zs (Some j) = refl

pub found_first : {A B : Type 0} (test : A → Bool) (f : A → B) (xs : List A)
    → option_and_then (slice_get (map f xs)) (first_at test xs) ≡ option_map f (find test xs)
found_first test f [] = refl
found_first test f (x ∷ xs) =
    elim (test x) as (λ b. option_and_then (slice_get (f x ∷ map f xs)) (cond b (Some 0) (option_map suc (first_at test xs))) ≡ option_map f (cond b (Some x) (find test xs))) [
      | true ↦ refl
      | false ↦ skip_one (f x) (map f xs) (first_at test xs) ∙ found_first test f xs
    ]

-- the first of what is made of each
pub find_made : {A B C : Type 0} (test : B → Bool) (f : A → B) (g : B → C) (xs : List A)
    → option_map (λ x. g (f x)) (find (λ x. test (f x)) xs) ≡ option_map g (find test (map f xs))
find_made test f g [] = refl
find_made test f g (x ∷ xs) =
    elim (test (f x)) as (λ b. option_map (λ y. g (f y)) (cond b (Some x) (find (λ y. test (f y)) xs)) ≡ option_map g (cond b (Some (f x)) (find test (map f xs)))) [
      | true ↦ refl
      | false ↦ find_made test f g xs
    ]

-- the first that passes
pub position_is : (i : ℕ) (r : Option ℕ) → is_position i r ≡ true → r ≡ Some i
position_is i None e = cc
position_is i (Some j) e = ap Some (eqb-true j i e)

-- one passes where there is a first
pub some_passes : {A : Type 0} (test : A → Bool) (xs : List A) (i : ℕ) → first_at test xs ≡ Some i → list_any test xs ≡ true
some_passes test xs i e = some_first test xs ∙ ap is_some e
