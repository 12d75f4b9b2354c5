-- Signatures in the first lines of modules, part by part.
use Rattle.std.proofs.Common.{◌≡◌, ℕ, suc, ◌<◌, ◌≤◌, ℤ, pos, negsuc, FitsSigned, w64, List, [], ◌∷◌, ◌++◌, length, refl, sym, ap, ◌∙◌, arith, append-nil, inl, inr, min}
use Rattle.std.specs.Prelude.{decimal, codes, ◌⊎◌}
use Rattle.std.specs.Fmt.{signed_decimal}
use Rattle.std.specs.Str.Parse.{AllDigits, digits_value}
use Rattle.std.proofs.lemmas.Str.Parse.{digit_from_value}
use Rattle.sc_base.specs.Decimals.{fixed_text}
use Rattle.sc_base.specs.Numerals.{IsWhole, WholeFront, IsValueOf, IntFront}
use Rattle.sc_base.specs.declared.reader.Whole.TheVariants.{Fits}
use Rattle.sc_base.specs.declared.names.Class.{Class}
use Rattle.sc_base.specs.declared.names.Fixed.{Fixed}
use Rattle.sc_base.proofs.FixedLemmas.{fixed_one_way}
use Rattle.sc_base.proofs.NumeralLemmas.{tail_is, append_cancel, whole_one_way, decimal_digits, decimal_value, decimal_whole, int_one_way}
use Rattle.sc_gate.specs.Lines.{class_letter}
use Rattle.sc_deck.specs.declared.key.Arg.{Arg}
use Rattle.sc_deck.specs.declared.key.Arg.TheVariants.{Int, Double, One, Many}
use Rattle.sc_read.specs.HierLines.{ArgText, IsFormedArg}
use Rattle.sc_read.specs.HierFronts.{cut_number, LengthFront, ReadsArg}
use Rattle.sc_read.proofs.GateParts.{fixed_first, not_letter}

-- LENGTHS
pub no_length : (text ds m : List ℕ) (n : ℕ) → WholeFront text ds m → IsValueOf ds (Fits n) → n ≡ 0 →
    (es l : List ℕ) → WholeFront text es l → 1 ≤ digits_value 10 es → ⊥
no_length text ds m n p v none es l q some =
    let same = (whole_one_way text ds es m l p q).0 in
    let value : digits_value 10 es ≡ n = ap (digits_value 10) (sym same ∙ v.1) ∙ decimal_value n v.0 in
    omega (arith, value, none, some)

pub length_there : (text ds m : List ℕ) (n kept : ℕ) → WholeFront text ds m → IsValueOf ds (Fits n) → 0 < n → kept ≡ min n 4294967295 → LengthFront text kept m
length_there text ds m n kept p v some kept_is =
    let value : digits_value 10 ds ≡ n = ap (digits_value 10) v.1 ∙ decimal_value n v.0 in
    record { digits = ds; front = p; some = omega (arith, value, some); kept_is = kept_is ∙ ap cut_number (sym value) }

-- ONE WIRE AND ARRAYS
pub int_first : (n : ℤ) (x : List ℕ) (c : Class) (more : List ℕ) → FitsSigned w64 n → signed_decimal n ++ x ≡ class_letter c ∷ more → ⊥
int_first (pos n) x c more fits same = first (decimal n) (decimal_digits n (omega (arith, fits.sfits))) (decimal_whole n (omega (arith, fits.sfits))).numeral.0 same
  where
    first : (ds : List ℕ) → AllDigits 10 ds → 0 < length ds → ds ++ x ≡ class_letter c ∷ more → ⊥
    first [] all some same = omega (arith, some)
    first (d ∷ ds) all some same = not_letter d (ds ++ x) c more (let r = digit_from_value d all.0 in omega (arith, r.1)) same
int_first (negsuc n) x c more fits same = not_letter 45 (decimal (suc n) ++ x) c more (omega arith) same

-- what stands behind the letter of an argument
pub record IsBehindLetter (text digits : List ℕ) : Type 0 where
  pub whole : IsWhole digits
  pub some : 1 ≤ digits_value 10 digits
  pub text_is : text ≡ codes "[" ++ (digits ++ codes "]")

pub behind_letter : (class : Class) (text : List ℕ) (arg : Arg) → ArgText arg (class_letter class ∷ text) → IsFormedArg arg →
    (text ≡ []) ⊎ ((digits : List ℕ) × IsBehindLetter text digits)
behind_letter class text (Int n) is formed = absurd (int_first n [] class text formed.in_range (append-nil (signed_decimal n) ∙ sym is))
behind_letter class text (Double x) is formed = absurd (fixed_first x.0 [] class text formed.in_range (append-nil (fixed_text x.0) ∙ sym is))
behind_letter class text (One c) is formed = inl (tail_is (class_letter class) (class_letter c) text [] is)
behind_letter class text (Many c n) is formed = inr (
  is.digits,
  record {
    whole = is.length_is.whole;
    some = omega (arith, is.length_is.value, formed.has_length);
    text_is = tail_is (class_letter class) (class_letter c) text (codes "[" ++ (is.digits ++ codes "]")) is.text_is;
  },
)

pub one_read : (class : Class) (text : List ℕ) → text ≡ [] → ReadsArg (class_letter class ∷ text) (One class)
one_read class text empty = record {
  arg = One class;
  text_is = ap (λ (z : List ℕ). class_letter class ∷ z) empty;
  formed = record { in_range = tt; has_length = tt };
  kept_is = refl;
}

pub no_bracket : (class : Class) (text : List ℕ) → (text ≡ [] → ⊥) → ((more : List ℕ) → text ≡ codes "[" ++ more → ⊥) →
    (kept : Arg) → ReadsArg (class_letter class ∷ text) kept → ⊥
no_bracket class text some none kept p = elim (behind_letter class text p.arg p.text_is p.formed) [
  | inl e ↦ some e
  | inr b ↦ none (b.0 ++ codes "]") b.1.text_is
]

bracket_front : (text after digits : List ℕ) → text ≡ codes "[" ++ after → IsBehindLetter text digits → WholeFront after digits (codes "]")
bracket_front text after digits here p = record { joined = append_cancel (codes "[") after (digits ++ codes "]") (sym here ∙ p.text_is); whole = p.whole; ends = refl }

pub no_array_length : (class : Class) (text after : List ℕ) → text ≡ codes "[" ++ after →
    ((digits rest : List ℕ) → WholeFront after digits rest → 1 ≤ digits_value 10 digits → ⊥) → (kept : Arg) → ReadsArg (class_letter class ∷ text) kept → ⊥
no_array_length class text after here none kept p = elim (behind_letter class text p.arg p.text_is p.formed) [
  | inl e ↦ absurd (omega (arith, ap length (sym here ∙ e)))
  | inr b ↦ none b.0 (codes "]") (bracket_front text after b.0 here b.1) b.1.some
]

pub no_array_end : (class : Class) (text after : List ℕ) (n : ℕ) (rest : List ℕ) → text ≡ codes "[" ++ after → LengthFront after n rest → (rest ≡ codes "]" → ⊥) →
    (kept : Arg) → ReadsArg (class_letter class ∷ text) kept → ⊥
no_array_end class text after n rest here there other kept p = elim (behind_letter class text p.arg p.text_is p.formed) [
  | inl e ↦ absurd (omega (arith, ap length (sym here ∙ e)))
  | inr b ↦ other (whole_one_way after there.digits b.0 rest (codes "]") there.front (bracket_front text after b.0 here b.1)).1
]

pub many_read : (class : Class) (text after : List ℕ) (n : ℕ) (rest : List ℕ) → text ≡ codes "[" ++ after → LengthFront after n rest → rest ≡ codes "]" →
    ReadsArg (class_letter class ∷ text) (Many class n)
many_read class text after n rest here there end = record {
  arg = Many class (digits_value 10 there.digits);
  text_is = record {
    digits = there.digits;
    length_is = record { whole = there.front.whole; value = refl };
    text_is = ap (λ (z : List ℕ). class_letter class ∷ z) (here ∙ (ap (λ (z : List ℕ). codes "[" ++ z) there.front.joined ∙ ap (λ (z : List ℕ). codes "[" ++ (there.digits ++ z)) end));
  };
  formed = record { in_range = tt; has_length = there.some };
  kept_is = ap (Many class) there.kept_is;
}

-- VALUES
pub no_double : (text : List ℕ) (y : ℤ) (rest : List ℕ) → FitsSigned w64 y → text ≡ fixed_text y ++ rest → 0 < length rest → (x : ℤ) → FitsSigned w64 x → text ≡ fixed_text x → ⊥
no_double text y rest fits there some x own is =
    let same = (fixed_one_way text y x rest [] (record { joined = there; fits = fits }) (record { joined = is ∙ sym (append-nil (fixed_text x)); fits = own })).1 in
    omega (arith, ap length same, some)

pub no_int : (text : List ℕ) (y : ℤ) (rest : List ℕ) → IntFront text y rest → 0 < length rest → (x : ℤ) → FitsSigned w64 x → text ≡ signed_decimal x → ⊥
no_int text y rest there some x own is =
    let same = (int_one_way text y x rest [] there (record { joined = is ∙ sym (append-nil (signed_decimal x)); fits = own; ends = tt })).1 in
    omega (arith, ap length same, some)

pub double_read : (text : List ℕ) (x : Fixed) → text ≡ fixed_text x.0 → FitsSigned w64 x.0 → ReadsArg text (Double x)
double_read text x is fits = record { arg = Double x; text_is = is; formed = record { in_range = fits; has_length = tt }; kept_is = refl }

pub int_read : (text : List ℕ) (n : ℤ) → text ≡ signed_decimal n → FitsSigned w64 n → ReadsArg text (Int n)
int_read text n is fits = record { arg = Int n; text_is = is; formed = record { in_range = fits; has_length = tt }; kept_is = refl }

pub empty_text : (text : List ℕ) → length text ≡ 0 → text ≡ []
empty_text [] none = refl
empty_text (byte ∷ text) none = absurd (omega (arith, none))
