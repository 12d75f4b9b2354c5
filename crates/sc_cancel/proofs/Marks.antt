-- Marks: their links, and where their gates stand in the whole list.
use Rattle.std.proofs.Common.{◌≡◌, ℕ, zero, suc, ◌<◌, Option, Some, None, List, [], ◌∷◌, ◌++◌, inl, inr, length, refl, sym, ap, ◌∙◌, subst, arith}
use Rattle.std.specs.Prelude.{slice_get, slice_set}
use Rattle.std.specs.Option.{option_map}
use Rattle.std.proofs.lemmas.Bool.{cases_Bool}
use Rattle.sc_gate.specs.declared.gate.Wire.{Wire}
use Rattle.sc_gate.specs.declared.gate.Gate.{Gate}
use Rattle.sc_gate.specs.Gates.{operands}
use Rattle.sc_gate.specs.Wires.{member}
use Rattle.sc_gate.specs.WireTables.{numbers_by}
use Rattle.sc_cancel.specs.Keeping.{last_on, linked}

pub map_some : {A B : Type 0} (f : A → B) (o : Option A) (y : B) → option_map f o ≡ Some y → (x : A) × (o ≡ Some x) × (f x ≡ y)
map_some f None y h = cc
map_some f (Some x) y h = (x, refl, (let e : Some (f x) ≡ Some y = h in cc))

pub some_same : {A : Type 0} (x y : A) → Some x ≡ Some y → x ≡ y
some_same x y h = cc

pub none_some : {A : Type 0} (x : A) → None ≡ Some x → ⊥
none_some x h = cc

pub slice_get_here : {X : Type 0} (xs : List X) (x : X) (ys : List X) → slice_get (xs ++ x ∷ ys) (length xs) ≡ Some x
slice_get_here [] x ys = refl
slice_get_here (z ∷ xs) x ys = slice_get_here xs x ys

pub slice_get_front : {X : Type 0} (xs ys : List X) (i : ℕ) (x : X) → slice_get xs i ≡ Some x → slice_get (xs ++ ys) i ≡ Some x
slice_get_front [] ys i x h = cc
slice_get_front (z ∷ xs) ys zero x h = h
slice_get_front (z ∷ xs) ys (suc i) x h = slice_get_front xs ys i x h

pub set_here : {X : Type 0} (xs : List X) (x y : X) → slice_set (xs ++ x ∷ []) (length xs) y ≡ xs ++ y ∷ []
set_here {X = X} [] x y = refl
set_here {X = X} (z ∷ xs) x y = ap (λ (l : List X). z ∷ l) (set_here xs x y)

pub set_front : {X : Type 0} (xs ys : List X) (i : ℕ) (y : X) → i < length xs → slice_set (xs ++ ys) i y ≡ slice_set xs i y ++ ys
set_front {X = X} [] ys i y l = absurd (omega (arith, l))
set_front {X = X} (z ∷ xs) ys zero y l = refl
set_front {X = X} (z ∷ xs) ys (suc i) y l = ap (λ (l : List X). z ∷ l) (set_front xs ys i y (omega (arith, l)))

pub snoc_length : {X : Type 0} (xs : List X) (x : X) → length (xs ++ x ∷ []) ≡ suc (length xs)
snoc_length [] x = refl
snoc_length (z ∷ xs) x = ap (λ (n : ℕ). suc n) (snoc_length xs x)

-- one entry for each mark
pub length-linked : (marks : List (Option Gate)) → length (linked marks) ≡ length marks
length-linked [] = refl
length-linked (None ∷ marks) = snoc_length (linked marks) None ∙ ap (λ (n : ℕ). suc n) (length-linked marks)
length-linked (Some g ∷ marks) = snoc_length (linked marks) (Some (numbers_by (last_on marks) g)) ∙ ap (λ (n : ℕ). suc n) (length-linked marks)

pub last_below : (marks : List (Option Gate)) (w : Wire) (q : ℕ) → last_on marks w ≡ Some q → q < length marks
last_below [] w q h = cc
last_below (None ∷ marks) w q h = (let l : q < length marks = last_below marks w q h in omega (arith, l))
last_below (Some g ∷ marks) w q h = elim (cases_Bool (member w (operands g))) [
  | inl t ↦ (let e : length marks ≡ q = some_same (length marks) q (rw t at h) in omega (arith, e))
  | inr f ↦ (let l : q < length marks = last_below marks w q (rw f at h) in omega (arith, l))
]

-- each gate that stays stands in the list, where so many marks stand behind it
abbrev pub Agree : List Gate → List (Option Gate) → Type 0
Agree gates [] = Unit {0}
Agree gates (None ∷ marks) = Agree gates marks
Agree gates (Some g ∷ marks) = (slice_get gates (length marks) ≡ Some g) × Agree gates marks

pub agree_front : (front back : List Gate) (marks : List (Option Gate)) → Agree front marks → Agree (front ++ back) marks
agree_front front back [] h = h
agree_front front back (None ∷ marks) h = agree_front front back marks h
agree_front front back (Some g ∷ marks) h = (slice_get_front front back (length marks) g h.0, agree_front front back marks h.1)

-- what a gate takes out leaves as many marks, which agree
pub record IsLess (gates : List Gate) (marks ys : List (Option Gate)) : Type 0 where
  pub many : length ys ≡ length marks
  pub agree : Agree gates marks → Agree gates ys

less_none : (gates : List Gate) (marks ys : List (Option Gate)) → IsLess gates marks ys → IsLess gates (None ∷ marks) (None ∷ ys)
less_none gates marks ys l = record { many = ap (λ (n : ℕ). suc n) l.many; agree = l.agree }

less_some : (gates : List Gate) (marks ys : List (Option Gate)) (h : Gate) → IsLess gates marks ys → IsLess gates (Some h ∷ marks) (Some h ∷ ys)
less_some gates marks ys h l = record {
  many = ap (λ (n : ℕ). suc n) l.many;
  agree = λ a. (subst (λ (n : ℕ). slice_get gates n ≡ Some h) (sym l.many) a.0, l.agree a.1);
}

less_gone : (gates : List Gate) (marks : List (Option Gate)) (h : Gate) → IsLess gates (Some h ∷ marks) (None ∷ marks)
less_gone gates marks h = record { many = refl; agree = λ a. a.1 }
