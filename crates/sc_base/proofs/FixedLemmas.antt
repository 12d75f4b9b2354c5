-- The text of a fixed-point number at the front of a text: one front, one number.
use Rattle.std.proofs.Common.{◌≡◌, ℕ, ◌+◌, ◌/◌, ◌%◌, ◌<◌, ◌≤◌, ◌^◌, ℤ, pos, negsuc, List, ◌∷◌, ◌++◌, length, take, drop, refl, sym, ap, ◌∙◌, arith, append_assoc, length-append, length-take}
use Rattle.std.specs.Prelude.{decimal, Option, Some, None, IfSome, IfNone}
use Rattle.std.specs.Str.Parse.{AllDigits}
use Rattle.std.proofs.lemmas.List.{take_at, drop_at}
use Rattle.std.proofs.lemmas.Fmt.{decimal_is_IsNumeral}
use Rattle.sc_base.specs.Decimals.{IsDecimal, twelve_digits, units_text}
use Rattle.sc_base.specs.Numerals.{EndsNumber, FixedFront}
use Rattle.sc_base.proofs.DecimalLemmas.{length-twelve_digits, units_text-IsDecimal, units_text_injective, decimal_unique}
use Rattle.sc_base.proofs.NumeralLemmas.{tail_is, digits_unique, decimal_digits, front_digits, no_minus_here}

-- the whole part, the point and the decimals, with text behind
units_parts : (n : ℕ) (rest : List ℕ) → units_text n ++ rest ≡ decimal (n / 10 ^ 12) ++ 46 ∷ (twelve_digits (n % 10 ^ 12) ++ rest)
unfolding units_text
units_parts n rest = append_assoc (decimal (n / 10 ^ 12)) (46 ∷ twelve_digits (n % 10 ^ 12)) rest

length-units_text : (n : ℕ) → length (units_text n) ≡ length (decimal (n / 10 ^ 12)) + 13
unfolding units_text
length-units_text n =
    omega (arith, length-append (decimal (n / 10 ^ 12)) (46 ∷ twelve_digits (n % 10 ^ 12)), length-twelve_digits (n % 10 ^ 12) (omega arith))

-- fronts of one length
same_fronts : (xs ys m l : List ℕ) → length xs ≡ length ys → xs ++ m ≡ ys ++ l → (xs ≡ ys) × (m ≡ l)
same_fronts xs ys m l long same = (
  sym (take_at xs m (length xs) refl) ∙ (ap (take (length xs)) same ∙ take_at ys l (length xs) (sym long)),
  sym (drop_at xs m (length xs) refl) ∙ (ap (drop (length xs)) same ∙ drop_at ys l (length xs) (sym long)),
)

-- texts of numbers of units are read one way
pub units_one_way : (a b : ℕ) (m l : List ℕ) → a < 2 ^ 64 → b < 2 ^ 64 → units_text a ++ m ≡ units_text b ++ l → (a ≡ b) × (m ≡ l)
unfolding units_text
units_one_way a b m l first second same =
    let cut : decimal (a / 10 ^ 12) ++ 46 ∷ (twelve_digits (a % 10 ^ 12) ++ m) ≡ decimal (b / 10 ^ 12) ++ 46 ∷ (twelve_digits (b % 10 ^ 12) ++ l) =
    sym (units_parts a m) ∙ (same ∙ units_parts b l) in
    let wholes = digits_unique (decimal (a / 10 ^ 12)) (decimal (b / 10 ^ 12)) (46 ∷ (twelve_digits (a % 10 ^ 12) ++ m)) (46 ∷ (twelve_digits (b % 10 ^ 12) ++ l))
    (decimal_digits (a / 10 ^ 12) (omega arith)) refl (decimal_digits (b / 10 ^ 12) (omega arith)) refl cut in
    let tails = tail_is 46 46 (twelve_digits (a % 10 ^ 12) ++ m) (twelve_digits (b % 10 ^ 12) ++ l) wholes.1 in
    let long : length (twelve_digits (a % 10 ^ 12)) ≡ length (twelve_digits (b % 10 ^ 12)) =
    length-twelve_digits (a % 10 ^ 12) (omega arith) ∙ sym (length-twelve_digits (b % 10 ^ 12) (omega arith)) in
    let decimals = same_fronts (twelve_digits (a % 10 ^ 12)) (twelve_digits (b % 10 ^ 12)) m l long tails in
    let texts : units_text a ≡ units_text b =
    ap (λ (z : List ℕ). z ++ 46 ∷ twelve_digits (a % 10 ^ 12)) wholes.0 ∙ ap (λ (z : List ℕ). decimal (b / 10 ^ 12) ++ 46 ∷ z) decimals.0 in
    (units_text_injective a b first second texts, decimals.1)

-- no text of units begins with a minus
no_minus_units : (n : ℕ) (xs ys : List ℕ) → n < 2 ^ 64 → units_text n ++ xs ≡ 45 ∷ ys → ⊥
no_minus_units n xs ys small same =
    let facts = decimal_is_IsNumeral (n / 10 ^ 12) (omega arith) in
    no_minus_here (decimal (n / 10 ^ 12)) (46 ∷ (twelve_digits (n % 10 ^ 12) ++ xs)) ys facts.0.1 facts.0.0 (sym (units_parts n xs) ∙ same)

pub fixed_one_way : (text : List ℕ) (y z : ℤ) (m l : List ℕ) → FixedFront text y m → FixedFront text z l → (y ≡ z) × (m ≡ l)
fixed_one_way text (pos a) (pos b) m l p q =
    let r = units_one_way a b m l (omega (arith, p.fits.sfits)) (omega (arith, q.fits.sfits)) (sym p.joined ∙ q.joined) in
    (ap pos r.0, r.1)
fixed_one_way text (pos a) (negsuc b) m l p q =
    absurd (no_minus_units a m (units_text (b + 1) ++ l) (omega (arith, p.fits.sfits)) (sym p.joined ∙ q.joined))
fixed_one_way text (negsuc a) (pos b) m l p q =
    absurd (no_minus_units b l (units_text (a + 1) ++ m) (omega (arith, q.fits.sfits)) (sym q.joined ∙ p.joined))
fixed_one_way text (negsuc a) (negsuc b) m l p q =
    let r = units_one_way (a + 1) (b + 1) m l (omega (arith, p.fits.sfits)) (omega (arith, q.fits.sfits))
    (tail_is 45 45 (units_text (a + 1) ++ m) (units_text (b + 1) ++ l) (sym p.joined ∙ q.joined)) in
    let same : a ≡ b = omega (arith, r.0) in
    (ap negsuc same, r.1)

-- where the digits of the whole part end, the text of the units ends 13 bytes later
pub units_there : (text : List ℕ) (k n : ℕ) (rest : List ℕ) → k ≤ length text → AllDigits 10 (take k text) → EndsNumber (drop k text) → n < 2 ^ 64 →
    text ≡ units_text n ++ rest → (take (k + 13) text ≡ units_text n) × (k + 13 ≤ length text)
units_there text k n rest within all ends small same =
    let parts : text ≡ decimal (n / 10 ^ 12) ++ 46 ∷ (twelve_digits (n % 10 ^ 12) ++ rest) = same ∙ units_parts n rest in
    let front = front_digits text k (decimal (n / 10 ^ 12)) (46 ∷ (twelve_digits (n % 10 ^ 12) ++ rest)) all ends (decimal_digits (n / 10 ^ 12) (omega arith)) refl parts in
    let end : length (decimal (n / 10 ^ 12)) ≡ k = sym (ap length front.0) ∙ (length-take k text ∙ omega arith) in
    let long : k + 13 ≡ length (units_text n) = omega (arith, end, length-units_text n) in (
      ap (take (k + 13)) same ∙ take_at (units_text n) rest (k + 13) (sym long),
      omega (arith, ap length same, length-append (units_text n) rest, long),
    )

-- what reading that front as a literal says of the text
pub units_read : (literal text : List ℕ) (r : Option ℕ) → ((n : ℕ) (rest : List ℕ) → n < 2 ^ 64 → text ≡ units_text n ++ rest → literal ≡ units_text n) →
    IfSome r (λ units. IsDecimal literal units) →
    IfSome r (λ units. (n : ℕ) (rest : List ℕ) → n < 2 ^ 64 → text ≡ units_text n ++ rest → units ≡ n)
units_read literal text None there read = tt
units_read literal text (Some units) there read = λ n rest small same.
    decimal_unique literal units n read (rw (there n rest small same) (units_text-IsDecimal n small))

pub units_not_read : (literal text : List ℕ) (r : Option ℕ) → ((n : ℕ) (rest : List ℕ) → n < 2 ^ 64 → text ≡ units_text n ++ rest → literal ≡ units_text n) →
    IfNone r ((units : ℕ) → IsDecimal literal units → 2 ^ 64 ≤ units) →
    IfNone r ((n : ℕ) (rest : List ℕ) → n < 2 ^ 64 → text ≡ units_text n ++ rest → ⊥)
units_not_read literal text None there read = λ n rest small same.
    let large = read n (rw (there n rest small same) (units_text-IsDecimal n small)) in
    omega (arith, large)
units_not_read literal text (Some units) there read = tt

-- the text of a number behind a minus is that of a negative one
pub fixed_negative : (bytes : List ℕ) (z : ℤ) (rest : List ℕ) → FixedFront (45 ∷ bytes) z rest →
    ((n : ℕ) × (n < 2 ^ 63) × (z ≡ negsuc n) × (bytes ≡ units_text (n + 1) ++ rest))
fixed_negative bytes (pos a) rest p = absurd (no_minus_units a rest bytes (omega (arith, p.fits.sfits)) (sym p.joined))
fixed_negative bytes (negsuc a) rest p = (a, omega (arith, p.fits.sfits), refl, tail_is 45 45 bytes (units_text (a + 1) ++ rest) p.joined)

-- and one without a minus is that of another
pub fixed_positive : (bytes : List ℕ) (z : ℤ) (rest : List ℕ) → ((more : List ℕ) → bytes ≡ 45 ∷ more → ⊥) → FixedFront bytes z rest →
    ((n : ℕ) × (n < 2 ^ 63) × (z ≡ pos n) × (bytes ≡ units_text n ++ rest))
fixed_positive bytes (pos a) rest none p = (a, omega (arith, p.fits.sfits), refl, p.joined)
fixed_positive bytes (negsuc a) rest none p = absurd (none (units_text (a + 1) ++ rest) p.joined)
