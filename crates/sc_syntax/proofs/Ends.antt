-- The first `*/`.
use Rattle.std.proofs.Common.{ℕ, ◌≡◌, refl, sym, ap, ◌∙◌, subst, ◌+◌, ◌<◌, ◌≤◌, Bool, true, false, ◌&&◌, ◌||◌, ◌==◌, List, [], ◌∷◌, ◌++◌, length, take, get_or, append_assoc, arith}
use Rattle.std.proofs.lemmas.List.{take_more, take_all}
use Rattle.std.proofs.lemmas.Bool.Decides.{nat_tests}
use Rattle.sc_syntax.specs.Pieces.{HasNoEnd}

abbrev begins_slash : List ℕ → Bool
begins_slash [] = false
begins_slash (c ∷ cs) = c == 47

-- the test of `*/`
abbrev pub has_end : List ℕ → Bool
has_end [] = false
has_end (c ∷ cs) = (c == 42 && begins_slash cs) || has_end cs

pub no_end_tail : (x : ℕ) (xs : List ℕ) → HasNoEnd (x ∷ xs) → HasNoEnd xs
no_end_tail x xs h front back e = h (x ∷ front) back (ap (λ t. x ∷ t) e)

either : (a b : Bool) → a ≡ false → b ≡ false → (a || b) ≡ false
either a b e f = rw (e, f) refl

no_end_here : (c : ℕ) (cs : List ℕ) → HasNoEnd (c ∷ cs) → (c == 42 && begins_slash cs) ≡ false
no_end_here c [] h = grind (arith, nat_tests)
no_end_here c (d ∷ ds) h =
    let not : c ≡ 42 → d ≡ 47 → ⊥ = λ e f. h [] ds (rw (e, f) refl) in
    grind (arith, nat_tests)

pub has_no_end : (xs : List ℕ) → HasNoEnd xs → has_end xs ≡ false
has_no_end [] h = refl
has_no_end (c ∷ cs) h = either _ _ (no_end_here c cs h) (has_no_end cs (no_end_tail c cs h))

or_true : (a b : Bool) → b ≡ true → (a || b) ≡ true
or_true true b e = refl
or_true false b e = e

pub ends_in : (t : List ℕ) → has_end (t ++ 42 ∷ 47 ∷ []) ≡ true
ends_in [] = refl
ends_in (x ∷ xs) = or_true _ _ (ends_in xs)

-- a text without an end goes no further than the first one
pub no_end_bound : (t es r rest : List ℕ) → HasNoEnd es → es ++ r ≡ t ++ 42 ∷ 47 ∷ rest → length es ≤ length t + 1
no_end_bound t [] r rest h e = omega arith
no_end_bound [] (x ∷ []) r rest h e = omega arith
no_end_bound [] (x ∷ y ∷ ys) r rest h e =
    let first : x ≡ 42 = cc in
    let second : y ≡ 47 = cc in
    absurd (h [] ys (rw (first, second) refl))
no_end_bound (z ∷ zs) (x ∷ xs) r rest h e =
    let more = no_end_bound zs xs r rest (no_end_tail x xs h) (cc) in
    omega (arith, more)

-- one byte more
pub no_end_more : (xs : List ℕ) (a b : ℕ) → HasNoEnd (xs ++ a ∷ []) → (a ≡ 42 → b ≡ 47 → ⊥) → HasNoEnd (xs ++ a ∷ b ∷ [])
no_end_more [] a b h not [] back e = not (cc) (cc)
no_end_more [] a b h not (f ∷ []) back e = cc
no_end_more [] a b h not (f ∷ g ∷ []) back e = cc
no_end_more [] a b h not (f ∷ g ∷ i ∷ front) back e = cc
no_end_more (x ∷ []) a b h not [] back e = h [] [] (let first : x ≡ 42 = cc in let second : a ≡ 47 = cc in rw (first, second) refl)
no_end_more (x ∷ y ∷ ys) a b h not [] back e = h [] (ys ++ a ∷ []) (let first : x ≡ 42 = cc in let second : y ≡ 47 = cc in rw (first, second) refl)
no_end_more (x ∷ xs) a b h not (f ∷ front) back e = no_end_more xs a b (no_end_tail x (xs ++ a ∷ []) h) not front back (cc)

-- ---- by index

pub no_end_begins : (text : List ℕ) → HasNoEnd (take (0 + 1) text)
no_end_begins [] [] back e = cc
no_end_begins [] (f ∷ front) back e = cc
no_end_begins (c ∷ cs) [] back e = cc
no_end_begins (c ∷ cs) (f ∷ []) back e = cc
no_end_begins (c ∷ cs) (f ∷ g ∷ front) back e = cc

pub no_end_step : (text : List ℕ) (i : ℕ) → i + 1 < length text → HasNoEnd (take (i + 1) text) → (get_or text i 0 ≡ 42 → get_or text (i + 1) 0 ≡ 47 → ⊥) → HasNoEnd (take (i + 1 + 1) text)
no_end_step text i l h not =
    let one : take (i + 1) text ≡ take i text ++ get_or text i 0 ∷ [] = take_more text i 0 (omega arith) in
    let two : take (i + 1 + 1) text ≡ take i text ++ get_or text i 0 ∷ get_or text (i + 1) 0 ∷ [] =
    take_more text (i + 1) 0 l ∙ ap (λ t. t ++ get_or text (i + 1) 0 ∷ []) one ∙ append_assoc (take i text) (get_or text i 0 ∷ []) (get_or text (i + 1) 0 ∷ []) in
    subst HasNoEnd (sym two) (no_end_more (take i text) (get_or text i 0) (get_or text (i + 1) 0) (subst HasNoEnd one h) not)

pub no_end_all : (text : List ℕ) (i : ℕ) → length text ≤ i + 1 → HasNoEnd (take (i + 1) text) → HasNoEnd text
no_end_all text i l h = subst HasNoEnd (take_all (i + 1) text l) h
