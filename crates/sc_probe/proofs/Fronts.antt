-- Lists of gates, gate by gate, and what stands at a place of them.
use Rattle.std.proofs.Common.{◌≡◌, ℕ, ◌+◌, ◌<◌, ◌^◌, List, [], ◌∷◌, ◌++◌, length, Option, Some, ◌⊎◌, inl, inr, suc, zero, refl, sym, ap, subst, arith, append_assoc}
use Rattle.std.specs.Prelude.{slice_get}
use Rattle.std.specs.Option.{option_map}
use Rattle.std.proofs.lemmas.List.{append-nil, length_push}
use Rattle.std.proofs.lemmas.List.Sums.{fold_push}
use Rattle.sc_gate.specs.declared.gate.Gate.{Gate}
use Rattle.sc_probe.specs.declared.rule.Rule.{Rule}
use Rattle.sc_probe.specs.States.{raised}
use Rattle.sc_probe.specs.Rules.{start, step, folded}

along : {X : Type 0} (P : List X → Type 0) → ((xs : List X) (x : X) → P xs → P (xs ++ x ∷ [])) → (front rest : List X) → P front → P (front ++ rest)
along P more front [] p = subst P (sym (append-nil front)) p
along P more front (x ∷ rest) p = subst P (append_assoc front (x ∷ []) rest) (along P more (front ++ x ∷ []) rest (more front x p))

-- what holds of every state that fewer than so many gates lead to, from the start on
pub state_holds : (rule : Rule) (limit : ℕ) (Is : List Gate → List ℕ → Type 0) → Is [] (start rule) →
    ((front : List Gate) (gate : Gate) (state : List ℕ) → length front + 1 < limit → Is front state → Is (front ++ gate ∷ []) (step rule state gate)) →
    (gates : List Gate) → length gates < limit → Is gates (folded rule (start rule) gates)
state_holds rule limit Is none more gates =
    along (λ xs. length xs < limit → Is xs (folded rule (start rule) xs))
    (λ front gate kept short.
    let size : length (front ++ gate ∷ []) ≡ length front + 1 = length_push front gate in
    subst (Is (front ++ gate ∷ [])) (sym (fold_push (step rule) (start rule) front gate))
    (more front gate (folded rule (start rule) front) (omega arith) (kept (omega arith))))
    [] gates (λ _. none)

-- a number that fits grows
pub raised_fits : (n by : ℕ) → n + by < 2 ^ 128 → raised n by ≡ n + by
raised_fits n by fits = omega arith

-- the value of what stands at a place, if there is one
abbrev pub value_at : {X : Type 0} → (X → ℕ) → List X → ℕ → Option ℕ
value_at f xs i = option_map f (slice_get xs i)

pub value_at-front : {X : Type 0} (f : X → ℕ) (xs ys : List X) (i : ℕ) → i < length xs → value_at f (xs ++ ys) i ≡ value_at f xs i
value_at-front f [] ys i h = absurd (omega arith)
value_at-front f (x ∷ xs) ys zero h = refl
value_at-front f (x ∷ xs) ys (suc i) h = value_at-front f xs ys i (omega arith)

pub value_at-last : {X : Type 0} (f : X → ℕ) (xs : List X) (x : X) → value_at f (xs ++ x ∷ []) (length xs) ≡ Some (f x)
value_at-last f [] x = refl
value_at-last f (y ∷ xs) x = value_at-last f xs x

pub value_at-within : {X : Type 0} (f : X → ℕ) (xs : List X) (i v : ℕ) → value_at f xs i ≡ Some v → i < length xs
value_at-within f [] i v e = cc
value_at-within f (x ∷ xs) zero v e = omega arith
value_at-within f (x ∷ xs) (suc i) v e =
    let h : i < length xs = value_at-within f xs i v e in
    omega arith

-- one more at the end: the place is in front of it, or its own
pub value_at-push : {X : Type 0} (f : X → ℕ) (xs : List X) (x : X) (i v : ℕ) → value_at f (xs ++ x ∷ []) i ≡ Some v →
    (value_at f xs i ≡ Some v) ⊎ ((i ≡ length xs) × (f x ≡ v))
value_at-push f [] x zero v e = inr (refl, cc)
value_at-push f [] x (suc i) v e = cc
value_at-push f (y ∷ xs) x zero v e = inl e
value_at-push f (y ∷ xs) x (suc i) v e =
    elim (value_at-push f xs x i v e) as (λ _. (value_at f xs i ≡ Some v) ⊎ ((suc i ≡ length (y ∷ xs)) × (f x ≡ v))) [
      | inl h ↦ inl h
      | inr h ↦ inr (ap suc h.0, h.1)
    ]

pub some_same : (m n : ℕ) → Some m ≡ Some n → m ≡ n
some_same m n e = cc
