-- Regions of one kind, and of more.
use Rattle.std.proofs.Common.{◌≡◌, ℕ, zero, suc, ◌<◌, Bool, true, false, Option, Some, None, List, [], ◌∷◌, length, get_or, refl, sym, ap, ◌∙◌, arith, inl, inr}
use Rattle.std.specs.Prelude.{IsTrue, ◌↔◌}
use Rattle.std.specs.List.{list_any}
use Rattle.std.proofs.lemmas.Bool.{false≢true, cases_Bool}
use Rattle.std.proofs.lemmas.List.Folds.{list_any_at}
use Rattle.sc_gate.specs.declared.gate.Kind.{Kind}
use Rattle.sc_gate.specs.declared.gate.Gate.{Gate}
use Rattle.sc_gate.specs.SameGates.{same_kind}
use Rattle.sc_sched.specs.Gates.{kind_of, kind_at}
use Rattle.sc_gate.proofs.SameGates.{same_kind-true, same_kind-refl}
use Rattle.sc_check.specs.Finding.{other_kind, is_mixed}
use Rattle.sc_check.proofs.Lowest.{none_passes}

pub other-refl : (k : Kind) → other_kind (Some k) (Some k) ≡ false
other-refl k = rw (same_kind-refl k) refl

some_kind : (a b : Kind) → Some a ≡ Some b → a ≡ b
some_kind a b h = cc

pub other_from : (a b : Option Kind) → (a ≡ b → ⊥) → other_kind a b ≡ true
other_from None b h = refl
other_from (Some a) None h = refl
other_from (Some a) (Some b) h = elim (cases_Bool (same_kind a b)) [ inl t ↦ absurd (h (ap Some (same_kind-true a b t))) | inr f ↦ rw f refl ]

pub same_from : (a b : Option Kind) → other_kind a b ≡ false → a ≡ b
same_from None b h = absurd (false≢true (sym h))
same_from (Some a) None h = absurd (false≢true (sym h))
same_from (Some a) (Some b) h = elim (cases_Bool (same_kind a b)) [ inl t ↦ ap Some (same_kind-true a b t) | inr f ↦ absurd (false≢true (sym (rw f at h))) ]

-- the kind of a gate of the list
pub kind_here : (gates : List Gate) (x : ℕ) (d : Gate) → x < length gates → kind_at gates x ≡ Some (kind_of (get_or gates x d))
kind_here [] x d l = absurd (omega (arith, l))
kind_here (g ∷ gates) zero d l = refl
kind_here (g ∷ gates) (suc x) d l = kind_here gates x d (omega (arith, l))

pub some_kind_here : (gates : List Gate) (x : ℕ) → x < length gates → (k : Kind) × (kind_at gates x ≡ Some k)
some_kind_here [] x l = absurd (omega (arith, l))
some_kind_here (g ∷ gates) zero l = (kind_of g, refl)
some_kind_here (g ∷ gates) (suc x) l = some_kind_here gates x (omega (arith, l))

pub mixed_found : (gates : List Gate) (region : List ℕ) (i : ℕ) → i < length region → (kind_at gates (get_or region 0 0) ≡ kind_at gates (get_or region i 0) → ⊥) → is_mixed gates region ≡ true
mixed_found gates region i l h =
    list_any_at (λ x. list_any (λ y. other_kind (kind_at gates x) (kind_at gates y)) region) region 0 0 (omega (arith, l))
    (list_any_at (λ y. other_kind (kind_at gates (get_or region 0 0)) (kind_at gates y)) region i 0 l (other_from _ _ h))

pub other_none : (a b : Option Kind) (k : Kind) → a ≡ Some k → b ≡ Some k → other_kind a b ≡ false
other_none a b k e f = rw (e, f) (other-refl k)

-- every gate has the kind of the first
pub mixed_none : (gates : List Gate) (region : List ℕ) → ((i : ℕ) → i < length region → get_or region i 0 < length gates) →
    ((j : ℕ) → j < length region → kind_at gates (get_or region j 0) ≡ kind_at gates (get_or region 0 0)) → is_mixed gates region ≡ false
mixed_none gates region inside h =
    none_passes (λ x. list_any (λ y. other_kind (kind_at gates x) (kind_at gates y)) region) region 0
    (λ i l. (let (kind, first) = some_kind_here gates (get_or region 0 0) (inside 0 (omega (arith, l))) in
    none_passes (λ y. other_kind (kind_at gates (get_or region i 0)) (kind_at gates y)) region 0
    (λ j k. other_none _ _ kind (h i l ∙ first) (h j k ∙ first))))

-- one turn of the loop: two gates compared
pub mixed_now : (gates : List Gate) (region : List ℕ) (i : ℕ) (d : Gate) (r : Bool) → i < length region → ((i : ℕ) → i < length region → get_or region i 0 < length gates) →
    (IsTrue r ↔ (kind_of (get_or gates (get_or region 0 0) d) ≡ kind_of (get_or gates (get_or region i 0) d))) → r ≡ false → is_mixed gates region ≡ true
mixed_now gates region i d r l inside is f = mixed_found gates region i l
    (λ e. false≢true (sym f ∙ is.1 (some_kind _ _ (sym (kind_here gates (get_or region 0 0) d (inside 0 (omega (arith, l)))) ∙ (e ∙ kind_here gates (get_or region i 0) d (inside i l))))))

pub same_now : (gates : List Gate) (region : List ℕ) (i : ℕ) (d : Gate) (r : Bool) → i < length region → ((i : ℕ) → i < length region → get_or region i 0 < length gates) →
    (IsTrue r ↔ (kind_of (get_or gates (get_or region 0 0) d) ≡ kind_of (get_or gates (get_or region i 0) d))) → r ≡ true → kind_at gates (get_or region i 0) ≡ kind_at gates (get_or region 0 0)
same_now gates region i d r l inside is t =
    kind_here gates (get_or region i 0) d (inside i l) ∙ (ap Some (sym (is.0 t)) ∙ sym (kind_here gates (get_or region 0 0) d (inside 0 (omega (arith, l)))))
