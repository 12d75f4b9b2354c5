-- Strict numbers at the front of a text: one front, one number.
use Rattle.std.proofs.Common.{◌≡◌, ℕ, suc, ◌+◌, ◌-◌, ◌<◌, ◌≤◌, ◌^◌, Bool, ◌&&◌, true, false, ℤ, pos, negsuc, FitsSigned, w64, List, [], ◌∷◌, ◌++◌, length, take, drop, refl, sym, ap, ◌∙◌, subst, arith, append_assoc, add-one}
use Rattle.std.specs.Prelude.{decimal, codes, Option, Some, None, SomeIff, IfSome, IfNone, MatchOption, get_or}
use Rattle.std.specs.Char.{is_ascii_digit}
use Rattle.std.specs.Fmt.{signed_decimal}
use Rattle.std.specs.List.{list_all}
use Rattle.std.specs.Str.Parse.{AllDigits, IsNumeral, digits_value}
use Rattle.std.proofs.lemmas.Bool.{false≢true}
use Rattle.std.proofs.lemmas.Int.Digits.{digits_value-lt}
use Rattle.std.proofs.lemmas.List.{take-append-drop}
use Rattle.std.proofs.lemmas.Fmt.{decimal_is_IsNumeral, decimal_injective, decimal-digits_value, length-decimal-le}
use Rattle.std.proofs.lemmas.Str.Parse.{IsNumeralModel}
use Rattle.std.proofs.Math.Seq.{take-suc}
use Rattle.sc_base.specs.Numerals.{EndsNumber, IsWhole, WholeFront, IntFront, number_line}
use Rattle.sc_base.proofs.DecimalLemmas.{test-from_AllDigits, AllDigits-from_test, AllDigits-append}

pub head_is : (x y : ℕ) (xs ys : List ℕ) → x ∷ xs ≡ y ∷ ys → x ≡ y
head_is x y xs ys same = cc

pub tail_is : (x y : ℕ) (xs ys : List ℕ) → x ∷ xs ≡ y ∷ ys → xs ≡ ys
tail_is x y xs ys same = cc

-- what follows equal fronts is equal
pub append_cancel : (front xs ys : List ℕ) → front ++ xs ≡ front ++ ys → xs ≡ ys
append_cancel [] xs ys same = same
append_cancel (f ∷ front) xs ys same = append_cancel front xs ys (tail_is f f (front ++ xs) (front ++ ys) same)

-- the first of two tests
first_true : (a b : Bool) → (a && b) ≡ true → a ≡ true
first_true true b both = refl
first_true false b both = cc

-- the first of some digits
digit_here : (c : ℕ) (cs : List ℕ) → AllDigits 10 (c ∷ cs) → is_ascii_digit c ≡ true
digit_here c cs all = first_true (is_ascii_digit c) (list_all is_ascii_digit cs) (test-from_AllDigits (c ∷ cs) all)

-- digits up to where no digit stands are one front of a text
pub digits_unique : (ds es m l : List ℕ) → AllDigits 10 ds → EndsNumber m → AllDigits 10 es → EndsNumber l → ds ++ m ≡ es ++ l → (ds ≡ es) × (m ≡ l)
digits_unique [] [] m l a b c d same = (refl, same)
digits_unique [] (e ∷ es) [] l a b c d same = cc
digits_unique [] (e ∷ es) (x ∷ m) l a b c d same =
    let s : x ≡ e = head_is x e m (es ++ l) same in
    absurd (false≢true (sym b ∙ (ap is_ascii_digit s ∙ digit_here e es c)))
digits_unique (d ∷ ds) [] m [] a b c q same = cc
digits_unique (d ∷ ds) [] m (x ∷ l) a b c q same =
    let s : d ≡ x = head_is d x (ds ++ m) l same in
    absurd (false≢true (sym q ∙ (ap is_ascii_digit (sym s) ∙ digit_here d ds a)))
digits_unique (d ∷ ds) (e ∷ es) m l a b c q same =
    let r = digits_unique ds es m l a.1 b c.1 q (tail_is d e (ds ++ m) (es ++ l) same) in
    let s : d ≡ e = head_is d e (ds ++ m) (es ++ l) same in
    (ap (λ (z : ℕ). z ∷ ds) s ∙ ap (λ (z : List ℕ). e ∷ z) r.0, r.1)

-- one front of any length
pub whole_one_way : (text ds es m l : List ℕ) → WholeFront text ds m → WholeFront text es l → (ds ≡ es) × (m ≡ l)
whole_one_way text ds es m l p q = digits_unique ds es m l p.whole.numeral.1 p.ends q.whole.numeral.1 q.ends (sym p.joined ∙ q.joined)

pub decimal_digits : (n : ℕ) → n < 2 ^ 64 → AllDigits 10 (decimal n)
decimal_digits n small = (decimal_is_IsNumeral n small).0.1

-- numbers before something that is no digit are read one way
pub number_unique : (m n : ℕ) (xs ys : List ℕ) → m < 2 ^ 64 → n < 2 ^ 64 → EndsNumber xs → EndsNumber ys → decimal m ++ xs ≡ decimal n ++ ys → (m ≡ n) × (xs ≡ ys)
number_unique m n xs ys a b c d same =
    let r = digits_unique (decimal m) (decimal n) xs ys (decimal_digits m a) c (decimal_digits n b) d same in
    (decimal_injective m n a b r.0, r.1)

-- the words of numerals
model : IsNumeralModel (AllDigits 10) (digits_value 10)
model = record { to = λ ds all. all; from = λ ds all. all; same = λ ds all. refl }

-- a zero in front that stands alone, by the first digit
pub whole_from : (ds : List ℕ) → AllDigits 10 ds → 0 < length ds → (get_or ds 0 0 ≡ 48 → length ds ≡ 1) → IsWhole ds
whole_from [] all some alone = absurd (omega (arith, some))
whole_from (d ∷ ds) all some alone = record {
  numeral = (some, all);
  no_zeros = λ more same. one_left d ds more same (alone (head_is d 48 ds more same));
}
  where
    one_left : (d : ℕ) (ds more : List ℕ) → d ∷ ds ≡ 48 ∷ more → length (d ∷ ds) ≡ 1 → more ≡ []
    one_left d [] more same one = sym (tail_is d 48 [] more same)
    one_left d (e ∷ ds) more same one = absurd (omega (arith, one))

pub whole_first : (ds : List ℕ) → IsWhole ds → get_or ds 0 0 ≡ 48 → length ds ≡ 1
whole_first [] whole first = absurd (omega (arith, whole.numeral.0))
whole_first (d ∷ ds) whole first = let none : ds ≡ [] = whole.no_zeros ds (ap (λ (z : ℕ). z ∷ ds) first) in rw none refl

-- a strict numeral below 2^64 is the decimal text of its value
pub whole_decimal : (ds : List ℕ) → IsWhole ds → digits_value 10 ds < 2 ^ 64 → decimal (digits_value 10 ds) ≡ ds
whole_decimal ds whole small = decimal-digits_value model ds whole.numeral.1 whole.numeral.0 (whole_first ds whole) small

-- and the decimal text of a number is a strict numeral of it
zeros_none : (n : ℕ) (more : List ℕ) → n < 2 ^ 64 → decimal n ≡ 48 ∷ more → more ≡ []
zeros_none n [] small same = refl
zeros_none n (m ∷ ms) small same =
    let facts = decimal_is_IsNumeral n small in
    let all : AllDigits 10 (48 ∷ m ∷ ms) = subst (AllDigits 10) same facts.0.1 in
    let value : digits_value 10 (m ∷ ms) ≡ n = sym (ap (digits_value 10) same) ∙ facts.1 in
    let bound : digits_value 10 (m ∷ ms) < 10 ^ length (m ∷ ms) = digits_value-lt 10 (m ∷ ms) all.1 in
    let short : length (decimal n) ≤ length (m ∷ ms) = length-decimal-le (length (m ∷ ms)) n (omega arith) (rw (← value) bound) small in
    absurd (omega (arith, short, ap length same))

pub decimal_whole : (n : ℕ) → n < 2 ^ 64 → IsWhole (decimal n)
decimal_whole n small = record { numeral = (decimal_is_IsNumeral n small).0; no_zeros = λ more same. zeros_none n more small same }

pub decimal_value : (n : ℕ) → n < 2 ^ 64 → digits_value 10 (decimal n) ≡ n
decimal_value n small = (decimal_is_IsNumeral n small).1

-- a number before something that is no digit is a front
pub decimal_front : (text : List ℕ) (n : ℕ) (rest : List ℕ) → n < 2 ^ 64 → EndsNumber rest → text ≡ decimal n ++ rest → WholeFront text (decimal n) rest
decimal_front text n rest small ends same = record { joined = same; whole = decimal_whole n small; ends = ends }

-- the digits at the front of a text are those of its number
pub front_digits : (bytes : List ℕ) (k : ℕ) (ds rest : List ℕ) → AllDigits 10 (take k bytes) → EndsNumber (drop k bytes) → AllDigits 10 ds → EndsNumber rest →
    bytes ≡ ds ++ rest → (take k bytes ≡ ds) × (drop k bytes ≡ rest)
front_digits bytes k ds rest all ends digits more same =
    digits_unique (take k bytes) ds (drop k bytes) rest all ends digits more (take-append-drop k bytes ∙ same)

pub digits_more : (bytes : List ℕ) (i d : ℕ) → i < length bytes → AllDigits 10 (take i bytes) → is_ascii_digit (get_or bytes i d) ≡ true → AllDigits 10 (take (i + 1) bytes)
digits_more bytes i d within so_far here =
    rw (add-one, take-suc bytes i d within) (AllDigits-append (take i bytes) (get_or bytes i d ∷ []) so_far (AllDigits-from_test (get_or bytes i d ∷ []) (rw here refl)))

-- no digits begin with a minus
pub no_minus_here : (ds xs ys : List ℕ) → AllDigits 10 ds → 0 < length ds → ds ++ xs ≡ 45 ∷ ys → ⊥
no_minus_here [] xs ys all some same = omega (arith, some)
no_minus_here (d ∷ ds) xs ys all some same =
    let s : d ≡ 45 = head_is d 45 (ds ++ xs) ys same in
    false≢true (ap is_ascii_digit (sym s) ∙ digit_here d ds all)

-- numbers with a sign are read one way
pub int_one_way : (text : List ℕ) (y z : ℤ) (m l : List ℕ) → IntFront text y m → IntFront text z l → (y ≡ z) × (m ≡ l)
int_one_way text (pos a) (pos b) m l p q =
    let r = number_unique a b m l (omega (arith, p.fits.sfits)) (omega (arith, q.fits.sfits)) p.ends q.ends (sym p.joined ∙ q.joined) in
    (ap pos r.0, r.1)
int_one_way text (pos a) (negsuc b) m l p q =
    let facts = decimal_is_IsNumeral a (omega (arith, p.fits.sfits)) in
    absurd (no_minus_here (decimal a) m (decimal (suc b) ++ l) facts.0.1 facts.0.0 (sym p.joined ∙ q.joined))
int_one_way text (negsuc a) (pos b) m l p q =
    let facts = decimal_is_IsNumeral b (omega (arith, q.fits.sfits)) in
    absurd (no_minus_here (decimal b) l (decimal (suc a) ++ m) facts.0.1 facts.0.0 (sym q.joined ∙ p.joined))
int_one_way text (negsuc a) (negsuc b) m l p q =
    let r = number_unique (suc a) (suc b) m l (omega (arith, p.fits.sfits)) (omega (arith, q.fits.sfits)) p.ends q.ends
    (tail_is 45 45 (decimal (suc a) ++ m) (decimal (suc b) ++ l) (sym p.joined ∙ q.joined)) in
    let same : a ≡ b = omega (arith, r.0) in
    (ap negsuc same, r.1)

-- the parts of a number's line
pub line_parts : (word : List ℕ) (n : ℕ) (more : List ℕ) → number_line word n ++ more ≡ word ++ (32 ∷ (decimal n ++ 10 ∷ more))
line_parts word n more =
    append_assoc (word ++ codes " " ++ decimal n) (codes "\n") more ∙ (append_assoc (word ++ codes " ") (decimal n) (10 ∷ more) ∙ append_assoc word (codes " ") (decimal n ++ 10 ∷ more))

-- what follows the word of a number's line, and what follows the space after it
pub after_word_is : (bytes word after : List ℕ) (n : ℕ) (more : List ℕ) → bytes ≡ word ++ after → bytes ≡ number_line word n ++ more → after ≡ 32 ∷ (decimal n ++ 10 ∷ more)
after_word_is bytes word after n more is line = append_cancel word after (32 ∷ (decimal n ++ 10 ∷ more)) (sym is ∙ (line ∙ line_parts word n more))

pub after_space_is : (bytes word after last : List ℕ) (n : ℕ) (more : List ℕ) → bytes ≡ word ++ after → after ≡ 32 ∷ last → bytes ≡ number_line word n ++ more → last ≡ decimal n ++ 10 ∷ more
after_space_is bytes word after last n more is space line = tail_is 32 32 last (decimal n ++ 10 ∷ more) (sym space ∙ after_word_is bytes word after n more is line)

-- the number that was read there, and what follows it
pub number_there : (bytes word after last : List ℕ) (m n : ℕ) (end more : List ℕ) → m < 2 ^ 64 → n < 2 ^ 64 → bytes ≡ word ++ after → after ≡ 32 ∷ last → last ≡ decimal m ++ end → EndsNumber end →
    bytes ≡ number_line word n ++ more → (m ≡ n) × (end ≡ 10 ∷ more)
number_there bytes word after last m n end more a b is space number ends line =
    number_unique m n end (10 ∷ more) a b ends refl (sym number ∙ after_space_is bytes word after last n more is space line)

-- lines of numbers from one word are read one way
pub number_line_one_way : (word : List ℕ) (m n : ℕ) (xs ys : List ℕ) → m < 2 ^ 64 → n < 2 ^ 64 → number_line word m ++ xs ≡ number_line word n ++ ys → (m ≡ n) × (xs ≡ ys)
number_line_one_way word m n xs ys a b same =
    let left : number_line word m ++ xs ≡ word ++ (32 ∷ (decimal m ++ 10 ∷ xs)) = line_parts word m xs in
    let both = number_there (number_line word m ++ xs) word (32 ∷ (decimal m ++ 10 ∷ xs)) (decimal m ++ 10 ∷ xs) m n (10 ∷ xs) ys a b left refl refl refl same in
    (both.0, tail_is 10 10 xs ys both.1)

pub if_some : {X : Type 0} (r : Option X) (P : Type 0) (Q : X → Type 0) → MatchOption r P Q → IfSome r Q
if_some None P Q is = tt
if_some (Some x) P Q is = is

pub if_none : {X : Type 0} (r : Option X) (P : Type 0) (Q : X → Type 0) → MatchOption r P Q → IfNone r P
if_none None P Q is = is
if_none (Some x) P Q is = tt

-- a numeral that reads as no number of 64 bits is too large, and one that reads as a number is its text
pub read_past : (ds : List ℕ) (r : Option ℕ) → IsWhole ds → SomeIff r (IsNumeral 10 ds × (digits_value 10 ds < 2 ^ 64)) (digits_value 10 ds) → r ≡ None → 2 ^ 64 ≤ digits_value 10 ds
read_past ds r whole read none =
    let no : SomeIff None (IsNumeral 10 ds × (digits_value 10 ds < 2 ^ 64)) (digits_value 10 ds) =
    subst (λ (z : Option ℕ). SomeIff z (IsNumeral 10 ds × (digits_value 10 ds < 2 ^ 64)) (digits_value 10 ds)) none read in
    let large : digits_value 10 ds < 2 ^ 64 → ⊥ = λ small. no (whole.numeral, small) in
    omega (arith, large)

pub read_fits : (ds : List ℕ) (r : Option ℕ) (x : ℕ) → IsWhole ds → SomeIff r (IsNumeral 10 ds × (digits_value 10 ds < 2 ^ 64)) (digits_value 10 ds) → r ≡ Some x →
    (x < 2 ^ 64) × (ds ≡ decimal x)
read_fits ds r x whole read some =
    let yes : SomeIff (Some x) (IsNumeral 10 ds × (digits_value 10 ds < 2 ^ 64)) (digits_value 10 ds) =
    subst (λ (z : Option ℕ). SomeIff z (IsNumeral 10 ds × (digits_value 10 ds < 2 ^ 64)) (digits_value 10 ds)) some read in
    let value : x ≡ digits_value 10 ds = yes.1 in
    (omega (arith, value, yes.0.1), sym (whole_decimal ds whole yes.0.1) ∙ ap decimal (sym value))

-- a number behind a minus is negative
pub int_negative : (bytes : List ℕ) (z : ℤ) (rest : List ℕ) → IntFront (45 ∷ bytes) z rest →
    ((n : ℕ) × (n < 2 ^ 63) × (z ≡ negsuc n) × (bytes ≡ decimal (suc n) ++ rest))
int_negative bytes (pos a) rest p =
    let facts = decimal_is_IsNumeral a (omega (arith, p.fits.sfits)) in
    absurd (no_minus_here (decimal a) rest bytes facts.0.1 facts.0.0 (sym p.joined))
int_negative bytes (negsuc a) rest p = (a, omega (arith, p.fits.sfits), refl, tail_is 45 45 bytes (decimal (suc a) ++ rest) p.joined)

pub int_positive : (bytes : List ℕ) (z : ℤ) (rest : List ℕ) → ((more : List ℕ) → bytes ≡ 45 ∷ more → ⊥) → IntFront bytes z rest →
    ((n : ℕ) × (n < 2 ^ 63) × (z ≡ pos n) × (bytes ≡ decimal n ++ rest))
int_positive bytes (pos a) rest none p = (a, omega (arith, p.fits.sfits), refl, p.joined)
int_positive bytes (negsuc a) rest none p = absurd (none (decimal (suc a) ++ rest) p.joined)

-- what is read behind a minus, or without one, is a front
pub negative_front : (bytes : List ℕ) (number : ℕ) (z : ℤ) (rest : List ℕ) → 0 < number → number ≤ 2 ^ 63 → z ≡ negsuc (number - 1) →
    bytes ≡ decimal number ++ rest → EndsNumber rest → IntFront (45 ∷ bytes) z rest
negative_front bytes number z rest some small value same ends =
    let again : suc (number - 1) ≡ number = omega arith in
    let text : 45 ∷ bytes ≡ signed_decimal z ++ rest = rw (value, again) (ap (λ (t : List ℕ). 45 ∷ t) same) in
    let fits : FitsSigned w64 z = rw value (record { sfits = omega arith }) in
    record { joined = text; fits = fits; ends = ends }

pub positive_front : (bytes : List ℕ) (number : ℕ) (z : ℤ) (rest : List ℕ) → number < 2 ^ 63 → z ≡ pos number →
    bytes ≡ decimal number ++ rest → EndsNumber rest → IntFront bytes z rest
positive_front bytes number z rest small value same ends =
    let fits : FitsSigned w64 z = rw value (record { sfits = small }) in
    let text : bytes ≡ signed_decimal z ++ rest = rw value same in
    record { joined = text; fits = fits; ends = ends }
