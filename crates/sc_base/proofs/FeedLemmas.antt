-- Texts without a line feed, and lines made of them.
use Rattle.std.proofs.Common.{◌≡◌, ◌≢◌, ℕ, zero, suc, ◌+◌, ◌/◌, ◌%◌, ◌<◌, ◌^◌, Bool, ◌&&◌, not, true, false, ℤ, pos, negsuc, FitsSigned, w64, List, [], ◌∷◌, ◌++◌, length, refl, sym, ◌∙◌, subst, arith, append_assoc, nat_eq, get_or, eq-eqb}
use Rattle.std.specs.Prelude.{decimal, codes, All}
use Rattle.std.specs.Fmt.{signed_decimal}
use Rattle.std.specs.List.{list_all}
use Rattle.std.specs.Str.Parse.{AllDigits}
use Rattle.std.proofs.lemmas.Bool.{false≢true}
use Rattle.std.proofs.lemmas.List.Elements.{All-append}
use Rattle.std.proofs.lemmas.Str.Parse.{digit_from_value}
use Rattle.sc_base.specs.Decimals.{twelve_digits, units_text, fixed_text}
use Rattle.sc_base.specs.Lines.{IsLine}
use Rattle.sc_base.specs.Numerals.{number_line}
use Rattle.sc_base.proofs.DecimalLemmas.{twelve_digits-value}
use Rattle.sc_base.proofs.NumeralLemmas.{decimal_digits}

-- no byte is a line feed
abbrev pub NoFeed : List ℕ → Type 0
NoFeed text = All (λ byte. byte ≢ 10) text

pub no_feed_nil : NoFeed []
no_feed_nil = λ k d within. absurd (omega (arith, within))

no_feed_at : (byte : ℕ) (text : List ℕ) → byte ≢ 10 → NoFeed text → (k d : ℕ) → k < length (byte ∷ text) → get_or (byte ∷ text) k d ≢ 10
no_feed_at byte text here rest zero d within = here
no_feed_at byte text here rest (suc k) d within = rest k d (omega (arith, within))

pub no_feed_more : (byte : ℕ) (text : List ℕ) → byte ≢ 10 → NoFeed text → NoFeed (byte ∷ text)
no_feed_more byte text here rest = no_feed_at byte text here rest

pub no_feed-append : (xs ys : List ℕ) → NoFeed xs → NoFeed ys → NoFeed (xs ++ ys)
no_feed-append xs ys first second = All-append (λ byte. byte ≢ 10) xs ys first second

-- the test that computes, for texts that stand in a definition
abbrev pub has_no_feed : List ℕ → Bool
has_no_feed text = list_all (λ byte. not (nat_eq byte 10)) text

first_of_two : (a b : Bool) → (a && b) ≡ true → (a ≡ true) × (b ≡ true)
first_of_two true true both = (refl, refl)
first_of_two true false both = cc
first_of_two false b both = cc

no_feed_byte : (byte : ℕ) → not (nat_eq byte 10) ≡ true → byte ≢ 10
no_feed_byte byte passes = λ same. false≢true (subst (λ (b : Bool). not b ≡ true) (eq-eqb byte 10 same) passes)

pub no_feed_from_test : (text : List ℕ) → has_no_feed text ≡ true → NoFeed text
no_feed_from_test [] passes = no_feed_nil
no_feed_from_test (byte ∷ text) passes =
    let both = first_of_two (not (nat_eq byte 10)) (has_no_feed text) passes in
    no_feed_more byte text (no_feed_byte byte both.0) (no_feed_from_test text both.1)

-- digits, and the texts of numbers
pub no_feed_digits : (ds : List ℕ) → AllDigits 10 ds → NoFeed ds
no_feed_digits [] all = no_feed_nil
no_feed_digits (d ∷ ds) all =
    let range = digit_from_value d all.0 in
    no_feed_more d ds (λ same. omega (arith, same, range.0)) (no_feed_digits ds all.1)

pub no_feed_decimal : (n : ℕ) → n < 2 ^ 64 → NoFeed (decimal n)
no_feed_decimal n small = no_feed_digits (decimal n) (decimal_digits n small)

pub no_feed_signed : (z : ℤ) → FitsSigned w64 z → NoFeed (signed_decimal z)
no_feed_signed (pos n) fits = no_feed_decimal n (omega (arith, fits.sfits))
no_feed_signed (negsuc n) fits = no_feed_more 45 (decimal (suc n)) (λ same. absurd (omega (arith, same))) (no_feed_decimal (suc n) (omega (arith, fits.sfits)))

pub no_feed_units : (n : ℕ) → n < 2 ^ 64 → NoFeed (units_text n)
unfolding units_text
no_feed_units n small =
    no_feed-append (decimal (n / 10 ^ 12)) (46 ∷ twelve_digits (n % 10 ^ 12)) (no_feed_decimal (n / 10 ^ 12) (omega arith))
    (no_feed_more 46 (twelve_digits (n % 10 ^ 12)) (λ same. absurd (omega (arith, same)))
    (no_feed_digits (twelve_digits (n % 10 ^ 12)) (twelve_digits-value (n % 10 ^ 12) (omega arith)).0))

pub no_feed_fixed : (z : ℤ) → FitsSigned w64 z → NoFeed (fixed_text z)
no_feed_fixed (pos n) fits = no_feed_units n (omega (arith, fits.sfits))
no_feed_fixed (negsuc n) fits = no_feed_more 45 (units_text (n + 1)) (λ same. absurd (omega (arith, same))) (no_feed_units (n + 1) (omega (arith, fits.sfits)))

-- a line
pub line_from : (front : List ℕ) → NoFeed front → IsLine (front ++ 10 ∷ [])
line_from front none = record { front = front; no_feed = none; line_is = refl }

pub number_line-IsLine : (word : List ℕ) (n : ℕ) → n < 2 ^ 64 → NoFeed word → IsLine (number_line word n)
number_line-IsLine word n small none = record {
  front = word ++ 32 ∷ decimal n;
  no_feed = no_feed-append word (32 ∷ decimal n) none (no_feed_more 32 (decimal n) (λ same. absurd (omega (arith, same))) (no_feed_decimal n small));
  line_is = append_assoc (word ++ codes " ") (decimal n) (codes "\n") ∙ (append_assoc word (codes " ") (decimal n ++ codes "\n")
      ∙ sym (append_assoc word (32 ∷ decimal n) (codes "\n")));
}
