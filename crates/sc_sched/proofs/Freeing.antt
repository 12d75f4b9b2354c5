-- Gates of a step are placed, and those after them become ready.
use Rattle.std.proofs.Common.{◌≡◌, ◌≢◌, ℕ, ◌+◌, ◌<◌, Bool, true, false, Option, Some, None, List, [], ◌∷◌, ◌++◌, length, take, refl, sym, ap, ◌∙◌, arith, inl, inr, ◌&&◌, ◌||◌}
use Rattle.std.specs.Prelude.{◌==◌, IfSome, slice_index, slice_index_or, slice_set}
use Rattle.std.specs.List.{list_any}
use Rattle.std.proofs.lemmas.Bool.{false≢true, cases_Bool, cases_eq, eqb-true, eq-eqb}
use Rattle.std.proofs.lemmas.List.{get_or-set_same, get_or-set_other, take_more}
use Rattle.std.proofs.lemmas.List.Folds.{list_any-append}
use Rattle.sc_sched.specs.Neighbours.{is_number}
use Rattle.sc_sched.specs.Rounds.{stands}
use Rattle.sc_sched.proofs.Count.{either}

pub inside_of : (o : Option ℕ) (n : ℕ) → ((x : ℕ) → is_number o x ≡ true → x < n) → IfSome o (λ x. x < n)
inside_of None n h = tt
inside_of (Some y) n h = h y (eq-eqb y y refl)

two_adds : (w a b r : Bool) → ((w || (a && r)) || (b && r)) ≡ (w || ((a || b) && r))
two_adds true a b r = refl
two_adds false false b r = refl
two_adds false true b true = refl
two_adds false true true false = refl
two_adds false true false false = refl

pub three_adds : (w v u t a b c r : Bool) → v ≡ (w || (a && r)) → u ≡ (v || (b && r)) → t ≡ (u || (c && r)) → t ≡ (w || ((a || (b || c)) && r))
three_adds w v u t a b c r e f g =
    g ∙ (ap (λ (z : Bool). z || (c && r)) (f ∙ (ap (λ (z : Bool). z || (b && r)) e ∙ two_adds w a b r))
    ∙ (two_adds w (a || b) c r ∙ ap (λ (z : Bool). w || (z && r)) (or_assoc a b c)))
  where
    or_assoc : (a b c : Bool) → ((a || b) || c) ≡ (a || (b || c))
    or_assoc true b c = refl
    or_assoc false b c = refl

pub or_none : (v : Bool) → (v || false) ≡ v
or_none true = refl
or_none false = refl

any_more : (p : ℕ → Bool) (step : List ℕ) (i : ℕ) → i < length step → list_any p (take (i + 1) step) ≡ (list_any p (take i step) || p (slice_index step i))
any_more p step i l = ap (list_any p) (take_more step i 0 l) ∙ (list_any-append p (take i step) (slice_index step i ∷ []) ∙ ap (λ (v : Bool). list_any p (take i step) || v) (or_none (p (slice_index step i))))

-- one gate more has its next gates added
pub adds_more : (p : ℕ → Bool) (step : List ℕ) (i : ℕ) (w v u r : Bool) → i < length step → v ≡ (w || (list_any p (take i step) && r)) → u ≡ (v || (p (slice_index step i) && r)) → u ≡ (w || (list_any p (take (i + 1) step) && r))
adds_more p step i w v u r l e f =
    f ∙ (ap (λ (z : Bool). z || (p (slice_index step i) && r)) e ∙ (two_adds w (list_any p (take i step)) (p (slice_index step i)) r ∙ ap (λ (z : Bool). w || (z && r)) (sym (any_more p step i l))))

no_eq : (a b : ℕ) → a ≢ b → (a == b) ≡ false
no_eq a b n = elim (cases_Bool (a == b)) [ inl t ↦ absurd (n (eqb-true a b t)) | inr f ↦ f ]

or_true : (v w : Bool) → (v || (w || true)) ≡ true
or_true true w = refl
or_true false true = refl
or_true false false = refl

-- one gate more is placed
pub places_more : (old now now' : List Bool) (step : List ℕ) (i : ℕ) → i < length step → slice_index step i < length now → now' ≡ slice_set now (slice_index step i) true →
    ((z : ℕ) → slice_index_or now z false ≡ (slice_index_or old z false || stands (take i step) z)) → (z : ℕ) → slice_index_or now' z false ≡ (slice_index_or old z false || stands (take (i + 1) step) z)
places_more old now now' step i l b e h z =
    let x : ℕ = slice_index step i in
    let more : stands (take (i + 1) step) z ≡ (stands (take i step) z || (z == x)) = any_more (λ y. z == y) step i l in
    elim (cases_eq z x) [
      | inl q ↦ (let here : slice_index_or (slice_set now x true) z false ≡ true = rw q (get_or-set_same now x true false b) in
          rw (e, more, eq-eqb z x q) (here ∙ sym (or_true (slice_index_or old z false) (stands (take i step) z))))
      | inr n ↦ (let there : slice_index_or (slice_set now x true) z false ≡ slice_index_or now z false = get_or-set_other now x z true false n in
          rw (e, more, no_eq z x n, or_none (stands (take i step) z)) (there ∙ h z))
    ]

-- a gate of the list is put into a step
pub inside_more : (step step' : List ℕ) (x n : ℕ) → step' ≡ step ++ x ∷ [] → x < n → ((z : ℕ) → stands step z ≡ true → z < n) → (z : ℕ) → stands step' z ≡ true → z < n
inside_more step step' x n e b h z t = elim (either (stands step z) _ (sym (list_any-append (λ y. z == y) step (x ∷ [])) ∙ (sym (ap (λ (xs : List ℕ). stands xs z) e) ∙ t))) [
  | inl l ↦ h z l
  | inr r ↦ elim (either (z == x) false r) [ inl q ↦ (let i : z ≡ x = eqb-true z x q in omega (arith, b, i)) | inr f ↦ absurd (false≢true f) ]
]
