-- Numbers with a value.
use Rattle.std.proofs.Common.{ℕ, ◌≡◌, sym, ap, ◌∙◌, subst, ◌≤◌, ◌^◌, List, ◌∷◌, ℤ, pos, arith}
use Rattle.std.specs.Str.Parse.{AllDigits}
use Rattle.sc_base.specs.Decimals.{IsDecimal}
use Rattle.sc_base.specs.declared.Fixed.{Fixed}
use Rattle.sc_base.proofs.DecimalLemmas.{decimal_unique, AllDigits-parts}
use Rattle.sc_syntax.specs.declared.token.TokenSort.{TokenSort}
use Rattle.sc_syntax.specs.declared.token.TokenSort.TheVariants as sort
use Rattle.sc_syntax.specs.Pieces.{IsIntText, IsNumberSort}

-- neither digits alone nor a decimal that fits
pub no_number : (text : List ℕ) → (IsIntText text → ⊥) → ((units : ℕ) → IsDecimal text units → 2 ^ 63 ≤ units) → (s : TokenSort) → IsNumberSort text s → ⊥
no_number text int decimal (sort.Int n) h = int h.0
no_number text int decimal (sort.Decimal d) h = absurd (omega (arith, decimal h.0 h.1, h.2))
no_number text int decimal _ h = h

-- a decimal has a point, which is no digit
point_apart : (text : List ℕ) (units : ℕ) → AllDigits 10 text → IsDecimal text units → ⊥
point_apart text units digits d =
    let P : List ℕ → Type 0 = AllDigits 10 in
    let point = (AllDigits-parts d.whole (46 ∷ d.decimals) (subst P d.joined digits)).1.0 in
    absurd (omega arith)

same_fixed : (d e : Fixed) → d.0 ≡ e.0 → d ≡ e
same_fixed d e h = ap (λ (n : ℤ). let r : Fixed = record { 0 = n } in r) h

-- a number has one value
pub one_number_sort : (text : List ℕ) (s t : TokenSort) → IsNumberSort text s → IsNumberSort text t → s ≡ t
one_number_sort text (sort.Int m) (sort.Int n) h k = ap sort.Int (h.1 ∙ sym k.1)
one_number_sort text (sort.Int m) (sort.Decimal d) h k = absurd (point_apart text k.0 h.0.0.1 k.1)
one_number_sort text (sort.Int m) _ h k = absurd k
one_number_sort text (sort.Decimal d) (sort.Int n) h k = absurd (point_apart text h.0 k.0.0.1 h.1)
one_number_sort text (sort.Decimal d) (sort.Decimal e) h k =
    let units : h.0 ≡ k.0 = decimal_unique text h.0 k.0 h.1 k.1 in
    ap sort.Decimal (same_fixed d e (h.3 ∙ ap pos units ∙ sym k.3))
one_number_sort text (sort.Decimal d) _ h k = absurd k
one_number_sort text _ t h k = absurd h
