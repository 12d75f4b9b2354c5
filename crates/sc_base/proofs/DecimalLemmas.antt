-- Digits, decimal literals and the text of fixed-point numbers.
use Rattle.std.proofs.Common.{◌≡◌, ℕ, ◌+◌, ◌-◌, ◌*◌, ◌/◌, ◌%◌, ◌^◌, ◌<◌, ◌≤◌, List, [], ◌∷◌, ◌++◌, length, take, drop, replicate, ℤ, pos, negsuc, ◌≤ℤ◌, unsigned_abs, get_or, zero, suc, Bool, ◌&&◌, length-take, length-drop, pow-suc, position, decimal, refl, sym, ap, ◌∙◌, arith, append_assoc, length-append, Option, Some, None, SomeIff, IfSome, IfNone, true, false, nat_eq, nat_le, nat_lt, cond}
use Rattle.std.specs.Char.{digit_value, is_ascii_digit}
use Rattle.std.specs.Fmt.{sign_text}
use Rattle.std.specs.Int.{is_negative}
use Rattle.std.specs.List.{list_all, position_or_len}
use Rattle.std.specs.Str.Parse.{AllDigits, IsNumeral, digits_value, digits_value_after}
use Rattle.std.proofs.lemmas.Bool.Decides.{nat_tests}
use Rattle.std.proofs.lemmas.Fmt.{decimal_is_IsNumeral, length-decimal-le}
use Rattle.std.proofs.lemmas.Int.{ints}
use Rattle.std.proofs.lemmas.List.{at_drop_more, drop_more, append-nil, take-append-drop, take_at, drop_at, take-replicate, length-replicate, drop-drop, take_all}
use Rattle.std.proofs.lemmas.Str.Parse.{digit_from_value}
use Rattle.std.proofs.lemmas.Str.{digit_value_digit}
use Rattle.std.proofs.lemmas.List.Sums.{passes_at_first}
use Rattle.std.proofs.lemmas.Option.{cond_some, none-some}
use Rattle.sc_base.specs.Decimals.{IsDecimal, twelve, twelve_digits, units_text, fixed_text}

-- all bytes are digits where all bytes of both parts are
pub AllDigits-append : (xs ys : List ℕ) → AllDigits 10 xs → AllDigits 10 ys → AllDigits 10 (xs ++ ys)
AllDigits-append [] ys first second = second
AllDigits-append (x ∷ xs) ys first second = (first.0, AllDigits-append xs ys first.1 second)

-- and the other way round
pub AllDigits-parts : (xs ys : List ℕ) → AllDigits 10 (xs ++ ys) → AllDigits 10 xs × AllDigits 10 ys
AllDigits-parts [] ys all = (tt, all)
AllDigits-parts (x ∷ xs) ys all = let rest = AllDigits-parts xs ys all.1 in ((all.0, rest.0), rest.1)

-- both tests hold
both_true : (a b : Bool) → (a && b) ≡ true → (a ≡ true) × (b ≡ true)
both_true true true e = (refl, refl)
both_true true false e = cc
both_true false b e = cc

-- the test of one byte
digit-from_test : (c : ℕ) → is_ascii_digit c ≡ true → digit_value c < 10
digit-from_test c passes =
    let range = both_true (nat_le 48 c) (nat_le c 57) passes in
    let digit = digit_value_digit c (grind (arith, nat_tests)) in
    grind (arith, nat_tests)

test-from_digit : (c : ℕ) → digit_value c < 10 → is_ascii_digit c ≡ true
test-from_digit c digit =
    let range = digit_from_value c digit in
    grind (arith, nat_tests)

-- the test of all bytes
pub AllDigits-from_test : (ds : List ℕ) → list_all is_ascii_digit ds ≡ true → AllDigits 10 ds
AllDigits-from_test [] passes = tt
AllDigits-from_test (d ∷ ds) passes =
    let both = both_true (is_ascii_digit d) (list_all is_ascii_digit ds) passes in
    (digit-from_test d both.0, AllDigits-from_test ds both.1)

pub test-from_AllDigits : (ds : List ℕ) → AllDigits 10 ds → list_all is_ascii_digit ds ≡ true
test-from_AllDigits [] all = refl
test-from_AllDigits (d ∷ ds) all = rw (test-from_digit d all.0, test-from_AllDigits ds all.1) refl

-- digits behind digits
pub digits_value_after-append : (n : ℕ) (xs ys : List ℕ) → digits_value_after 10 n (xs ++ ys) ≡ digits_value_after 10 (digits_value_after 10 n xs) ys
digits_value_after-append n [] ys = refl
digits_value_after-append n (x ∷ xs) ys = digits_value_after-append (n * 10 + digit_value x) xs ys

-- digits behind a number make room for themselves
pub digits_value_after-is : (n : ℕ) (ds : List ℕ) → digits_value_after 10 n ds ≡ n * 10 ^ length ds + digits_value 10 ds
digits_value_after-is n [] = omega arith
digits_value_after-is n (d ∷ ds) =
    let first = digits_value_after-is (n * 10 + digit_value d) ds in
    let second = digits_value_after-is (0 + digit_value d) ds in
    rw (first, second, pow-suc) (omega arith)

-- leading zeros count nothing
pub digits_value-zeros : (k : ℕ) (ds : List ℕ) → digits_value 10 (replicate k 48 ++ ds) ≡ digits_value 10 ds
digits_value-zeros zero ds = refl
digits_value-zeros (suc k) ds = digits_value-zeros k ds

-- zeros are digits
pub AllDigits-zeros : (k : ℕ) → AllDigits 10 (replicate k 48)
AllDigits-zeros zero = tt
AllDigits-zeros (suc k) = (omega arith, AllDigits-zeros k)

-- more digits never make a number smaller
pub digits_value_after-ge : (n : ℕ) (ds : List ℕ) → n ≤ digits_value_after 10 n ds
digits_value_after-ge n [] = omega arith
digits_value_after-ge n (d ∷ ds) = omega (arith, digits_value_after-ge (n * 10 + digit_value d) ds)

-- the number is too large where it is too large after one more digit
pub overflows : (bound n start : ℕ) (ds : List ℕ) (i d : ℕ) → i < length ds → digits_value_after 10 n (drop i ds) ≡ digits_value_after 10 start ds →
    bound ≤ n * 10 + digit_value (get_or ds i d) → bound ≤ digits_value_after 10 start ds
overflows bound n start ds i d within value large =
    let step : digits_value_after 10 n (drop i ds) ≡ digits_value_after 10 (n * 10 + digit_value (get_or ds i d)) (drop (i + 1) ds) =
    at_drop_more (digits_value_after 10 n) ds i d within in
    let more = digits_value_after-ge (n * 10 + digit_value (get_or ds i d)) (drop (i + 1) ds) in
    omega arith

-- where no digit is left, the number is that of all digits
pub number_at_end : (bound n start : ℕ) (ds rest : List ℕ) → rest ≡ [] → digits_value_after 10 n rest ≡ digits_value_after 10 start ds →
    (AllDigits 10 rest → AllDigits 10 ds) → n < bound → (AllDigits 10 ds × (digits_value_after 10 start ds < bound)) × (n ≡ digits_value_after 10 start ds)
number_at_end bound n start ds rest none value from_rest fits =
    let same : n ≡ digits_value_after 10 start ds = rw none at value in
    let all : AllDigits 10 ds = (rw none at from_rest) tt in
    ((all, omega arith), same)

-- the first point stands behind the digits of the whole part
pub point_place : (whole decimals : List ℕ) → AllDigits 10 whole → position_or_len (λ byte. nat_eq byte 46) (whole ++ 46 ∷ decimals) ≡ length whole
point_place [] decimals all = refl
point_place (d ∷ ds) decimals all =
    let range = digit_from_value d all.0 in
    let other : nat_eq d 46 ≡ false = grind (arith, nat_tests) in
    rw (other, point_place ds decimals all.1) (omega arith)

-- the parts of a decimal literal, by the place of its first point
pub record DecimalAt (text : List ℕ) (units at : ℕ) : Type 0 where
  pub whole : AllDigits 10 (take at text)
  pub decimals : AllDigits 10 (drop (at + 1) text)
  pub long : 1 < length text
  pub value : units ≡ digits_value_after 10 (digits_value 10 (take at text)) (twelve (drop (at + 1) text))

-- what stands before and behind the point
before_point : (whole decimals : List ℕ) → take (length whole) (whole ++ 46 ∷ decimals) ≡ whole
before_point whole decimals = take_at whole (46 ∷ decimals) (length whole) refl

behind_point : (whole decimals : List ℕ) → drop (length whole + 1) (whole ++ 46 ∷ decimals) ≡ decimals
behind_point whole decimals =
    sym (drop-drop 1 (length whole) (whole ++ 46 ∷ decimals)) ∙ ap (drop 1) (drop_at whole (46 ∷ decimals) (length whole) refl)

parts_joined : (whole decimals : List ℕ) (units : ℕ) → IsNumeral 10 (whole ++ decimals) → units ≡ digits_value 10 (whole ++ twelve decimals) →
    DecimalAt (whole ++ 46 ∷ decimals) units (length whole)
parts_joined whole decimals units digits value =
    let parts = AllDigits-parts whole decimals digits.1 in
    record {
      whole = rw (before_point whole decimals) parts.0;
      decimals = rw (behind_point whole decimals) parts.1;
      long = omega (arith, digits.0, length-append whole decimals, length-append whole (46 ∷ decimals));
      value = rw (before_point whole decimals, behind_point whole decimals) (value ∙ digits_value_after-append 0 whole (twelve decimals));
    }

pub IsDecimal-at : (text : List ℕ) (units : ℕ) → IsDecimal text units → DecimalAt text units (position_or_len (λ byte. nat_eq byte 46) text)
IsDecimal-at text units d =
    let place = point_place d.whole d.decimals (AllDigits-parts d.whole d.decimals d.digits.1).0 in
    rw (d.joined, place) (parts_joined d.whole d.decimals units d.digits d.value)

pub IsDecimal-from : (text : List ℕ) (units at : ℕ) → at < length text → get_or text at 0 ≡ 46 → DecimalAt text units at → IsDecimal text units
IsDecimal-from text units at within point d =
    let rest : drop at text ≡ 46 ∷ drop (at + 1) text = drop_more text at 0 within ∙ ap (λ byte. byte ∷ drop (at + 1) text) point in
    record {
      whole = take at text;
      decimals = drop (at + 1) text;
      joined = sym (take-append-drop at text) ∙ ap (λ rest. take at text ++ rest) rest;
      digits = (
        omega (arith, d.long, length-append (take at text) (drop (at + 1) text), length-take at text, length-drop (at + 1) text),
        AllDigits-append (take at text) (drop (at + 1) text) d.whole d.decimals,
      );
      value = d.value ∙ sym (digits_value_after-append 0 (take at text) (twelve (drop (at + 1) text)));
    }

-- where the first point stands
pub first_point : (text : List ℕ) (at : ℕ) → position (λ byte. nat_eq byte 46) text ≡ Some at →
    (position_or_len (λ byte. nat_eq byte 46) text ≡ at) × (at < length text) × (get_or text at 0 ≡ 46)
first_point text at found =
    let both = cond_some (nat_lt (position_or_len (λ byte. nat_eq byte 46) text) (length text)) (position_or_len (λ byte. nat_eq byte 46) text) at found in
    let within : position_or_len (λ byte. nat_eq byte 46) text < length text = grind (arith, nat_tests) in
    let passes = passes_at_first (λ byte. nat_eq byte 46) text 0 within in
    (both.1, rw (both.1) at within, grind (arith, nat_tests))

-- a literal has a point
pub no_point : (text : List ℕ) (units : ℕ) → position (λ byte. nat_eq byte 46) text ≡ None → IsDecimal text units → ⊥
no_point text units none d =
    let place : position_or_len (λ byte. nat_eq byte 46) text ≡ length d.whole =
    rw d.joined (point_place d.whole d.decimals (AllDigits-parts d.whole d.decimals d.digits.1).0) in
    let long : length d.whole < length text = omega (arith, ap length d.joined, length-append d.whole (46 ∷ d.decimals)) in
    let test : nat_lt (position_or_len (λ byte. nat_eq byte 46) text) (length text) ≡ true = rw place (grind (arith, nat_tests)) in
    none-some (position_or_len (λ byte. nat_eq byte 46) text) (sym none ∙ ap (λ b. cond b (Some (position_or_len (λ byte. nat_eq byte 46) text)) None) test)

-- a literal, by the place of its first point
pub IsDecimal-at_first : (text : List ℕ) (units at : ℕ) → position (λ byte. nat_eq byte 46) text ≡ Some at → IsDecimal text units → DecimalAt text units at
IsDecimal-at_first text units at found d = rw (first_point text at found).0 at (IsDecimal-at text units d)

-- a whole part that is too large makes the value too large
pub whole_too_large : (bound : ℕ) (text : List ℕ) (units at : ℕ) → DecimalAt text units at →
    (AllDigits 10 (take at text) × (digits_value 10 (take at text) < bound) → ⊥) → bound ≤ units
whole_too_large bound text units at d large =
    let too_large : digits_value 10 (take at text) < bound → ⊥ = λ small. large (d.whole, small) in
    let more = digits_value_after-ge (digits_value 10 (take at text)) (twelve (drop (at + 1) text)) in
    omega (arith, d.value)

-- twelve decimals are digits
AllDigits-twelve : (decimals : List ℕ) → AllDigits 10 decimals → AllDigits 10 (twelve decimals)
AllDigits-twelve decimals all =
    let split : AllDigits 10 (take 12 decimals ++ drop 12 decimals) = rw (take-append-drop 12 decimals) all in
    AllDigits-append (take 12 decimals) _ (AllDigits-parts (take 12 decimals) (drop 12 decimals) split).0 (AllDigits-zeros (12 - length decimals))

-- what reading the twelve decimals behind the whole part says of the literal
pub read_some : (bound : ℕ) (text : List ℕ) (at number : ℕ) (r : Option ℕ) → at < length text → get_or text at 0 ≡ 46 → 1 < length text →
    AllDigits 10 (take at text) → AllDigits 10 (drop (at + 1) text) → number ≡ digits_value 10 (take at text) →
    SomeIff r (AllDigits 10 (twelve (drop (at + 1) text)) × (digits_value_after 10 number (twelve (drop (at + 1) text)) < bound))
    (digits_value_after 10 number (twelve (drop (at + 1) text))) →
    IfSome r (λ units. IsDecimal text units)
read_some bound text at number None within point long whole decimals same read = tt
read_some bound text at number (Some units) within point long whole decimals same read =
    let value : units ≡ digits_value_after 10 (digits_value 10 (take at text)) (twelve (drop (at + 1) text)) = rw (← same) read.1 in
    IsDecimal-from text units at within point (record { whole = whole; decimals = decimals; long = long; value = value })

pub read_none : (bound : ℕ) (text : List ℕ) (at number : ℕ) (r : Option ℕ) → position (λ byte. nat_eq byte 46) text ≡ Some at →
    AllDigits 10 (drop (at + 1) text) → number ≡ digits_value 10 (take at text) →
    SomeIff r (AllDigits 10 (twelve (drop (at + 1) text)) × (digits_value_after 10 number (twelve (drop (at + 1) text)) < bound))
    (digits_value_after 10 number (twelve (drop (at + 1) text))) →
    IfNone r ((units : ℕ) → IsDecimal text units → bound ≤ units)
read_none bound text at number None found decimals same read = λ units d.
    let parts = IsDecimal-at_first text units at found d in
    let too_large : digits_value_after 10 number (twelve (drop (at + 1) text)) < bound → ⊥ =
    λ small. read (AllDigits-twelve (drop (at + 1) text) decimals, small) in
    let value : units ≡ digits_value_after 10 number (twelve (drop (at + 1) text)) = rw same parts.value in
    omega arith
read_none bound text at number (Some units) found decimals same read = tt

-- a literal has one value
pub decimal_unique : (text : List ℕ) (m n : ℕ) → IsDecimal text m → IsDecimal text n → m ≡ n
decimal_unique text m n first second = (IsDecimal-at text m first).value ∙ sym (IsDecimal-at text n second).value

-- zeros and then the digits of a number
pub twelve_digits_is : (n start : ℕ) (text : List ℕ) → start + length (decimal n) ≡ 12 → drop start text ≡ decimal n ++ [] →
    take start text ≡ take start (replicate 12 48) → text ≡ twelve_digits n
unfolding twelve_digits
twelve_digits_is n start text long digits zeros =
    let front : take start text ≡ replicate start 48 = zeros ∙ take-replicate start 12 48 (omega arith) in
    let count : 12 - length (decimal n) ≡ start = omega arith in
    sym (take-append-drop start text) ∙ (rw (front, digits, append-nil, count) refl)

-- A text was put into a buffer from one place to another, and what stands behind it is as it was.
pub record Placed (at end : ℕ) (old new text : List ℕ) : Type 0 where
  pub ends : end ≡ at + length text
  pub written : take end new ≡ take at old ++ text
  pub rest : drop end new ≡ drop end old

-- one text behind another
pub placed_then : (at mid end : ℕ) (old between new x y : List ℕ) → Placed at mid old between x → Placed mid end between new y → Placed at end old new (x ++ y)
placed_then at mid end old between new x y first second =
    let far : end ≡ mid + length y = second.ends in
    let later : (text : List ℕ) → drop end text ≡ drop (length y) (drop mid text) = λ text. rw far (sym (drop-drop (length y) mid text)) in
    record {
      ends = omega (arith, first.ends, second.ends, length-append x y);
      written = second.written ∙ ap (λ front. front ++ y) first.written ∙ append_assoc (take at old) x y;
      rest = second.rest ∙ later between ∙ ap (drop (length y)) first.rest ∙ sym (later old);
    }

-- the number of digits
pub length-twelve_digits : (n : ℕ) → n < 10 ^ 12 → length (twelve_digits n) ≡ 12
unfolding twelve_digits
length-twelve_digits n small =
    omega (
      arith,
      length-append (replicate (12 - length (decimal n)) 48) (decimal n),
      length-replicate {A = ℕ} (12 - length (decimal n)) 48,
      length-decimal-le 12 n (omega arith) small (omega arith),
    )

-- and their value
pub twelve_digits-value : (n : ℕ) → n < 10 ^ 12 → AllDigits 10 (twelve_digits n) × (digits_value 10 (twelve_digits n) ≡ n)
unfolding twelve_digits
twelve_digits-value n small =
    let numeral = decimal_is_IsNumeral n (omega arith) in (
      AllDigits-append (replicate (12 - length (decimal n)) 48) (decimal n) (AllDigits-zeros (12 - length (decimal n))) numeral.0.1,
      digits_value-zeros (12 - length (decimal n)) (decimal n) ∙ numeral.1,
    )

-- twelve decimals are twelve decimals
twelve-at_twelve : (decimals : List ℕ) → length decimals ≡ 12 → twelve decimals ≡ decimals
twelve-at_twelve decimals long =
    let none : 12 - length decimals ≡ 0 = omega arith in
    rw (none, take_all 12 decimals (omega arith)) (append-nil decimals)

-- the text of a number of at least 0 is a literal of that value
pub units_text-IsDecimal : (n : ℕ) → n < 2 ^ 64 → IsDecimal (units_text n) n
unfolding units_text
units_text-IsDecimal n small =
    let whole = decimal_is_IsNumeral (n / 10 ^ 12) (omega arith) in
    let below : n % 10 ^ 12 < 10 ^ 12 = omega arith in
    let decimals = twelve_digits-value (n % 10 ^ 12) below in
    let long = length-twelve_digits (n % 10 ^ 12) below in
    let same = twelve-at_twelve (twelve_digits (n % 10 ^ 12)) long in
    let value = digits_value_after-append 0 (decimal (n / 10 ^ 12)) (twelve_digits (n % 10 ^ 12)) in
    let place = digits_value_after-is (n / 10 ^ 12) (twelve_digits (n % 10 ^ 12)) in
    record {
      whole = decimal (n / 10 ^ 12);
      decimals = twelve_digits (n % 10 ^ 12);
      joined = refl;
      digits = (
        omega (arith, whole.0.0, length-append (decimal (n / 10 ^ 12)) (twelve_digits (n % 10 ^ 12))),
        AllDigits-append (decimal (n / 10 ^ 12)) (twelve_digits (n % 10 ^ 12)) whole.0.1 decimals.0,
      );
      value = rw (same, value, whole.1, place, long, decimals.1) (omega arith);
    }

-- the text in four parts
pub fixed_text-parts : (z : ℤ) (units : ℕ) → units ≡ unsigned_abs z →
    fixed_text z ≡ ((sign_text (is_negative z) ++ decimal (units / 10 ^ 12)) ++ 46 ∷ []) ++ twelve_digits (units % 10 ^ 12)
unfolding units_text
fixed_text-parts (pos n) units same =
    let positive : is_negative (pos n) ≡ false = grind (arith, nat_tests) in
    rw (positive, same) (sym (append_assoc (decimal (n / 10 ^ 12)) (46 ∷ []) (twelve_digits (n % 10 ^ 12))))
fixed_text-parts (negsuc n) units same =
    let more : units ≡ n + 1 = omega (arith, same) in
    rw more (sym (append_assoc (45 ∷ decimal ((n + 1) / 10 ^ 12)) (46 ∷ []) (twelve_digits ((n + 1) % 10 ^ 12))))

-- the text of a fixed-point number of at least 0 is a literal of that value
pub fixed_text-IsDecimal : (z : ℤ) → pos 0 ≤ℤ z → unsigned_abs z < 2 ^ 64 → IsDecimal (fixed_text z) (unsigned_abs z)
fixed_text-IsDecimal (pos n) positive small = units_text-IsDecimal n small
fixed_text-IsDecimal (negsuc n) positive small = absurd (omega (arith, ints))

-- no literal begins with a minus
no_minus_in_parts : (whole decimals rest : List ℕ) → AllDigits 10 whole → 45 ∷ rest ≡ whole ++ 46 ∷ decimals → ⊥
no_minus_in_parts [] decimals rest all same =
    let first : get_or (45 ∷ rest) 0 0 ≡ get_or (46 ∷ decimals) 0 0 = ap (λ text. get_or text 0 0) same in
    omega arith
no_minus_in_parts (d ∷ ds) decimals rest all same =
    let range = digit_from_value d all.0 in
    let first : 45 ≡ d = cc in
    omega (arith, range.0)

pub no_minus : (rest : List ℕ) (units : ℕ) → IsDecimal (45 ∷ rest) units → ⊥
no_minus rest units d = no_minus_in_parts d.whole d.decimals rest (AllDigits-parts d.whole d.decimals d.digits.1).0 d.joined

-- two numbers of one text are one number
pub units_text_injective : (m n : ℕ) → m < 2 ^ 64 → n < 2 ^ 64 → units_text m ≡ units_text n → m ≡ n
units_text_injective m n first second same =
    decimal_unique (units_text m) m n (units_text-IsDecimal m first) (rw same (units_text-IsDecimal n second))

pub fixed_text_injective : (y z : ℤ) → unsigned_abs y < 2 ^ 64 → unsigned_abs z < 2 ^ 64 → fixed_text y ≡ fixed_text z → y ≡ z
fixed_text_injective (pos m) (pos n) first second same = ap pos (units_text_injective m n first second same)
fixed_text_injective (pos m) (negsuc n) first second same =
    absurd (no_minus (units_text (n + 1)) m (rw same at (units_text-IsDecimal m first)))
fixed_text_injective (negsuc m) (pos n) first second same =
    absurd (no_minus (units_text (m + 1)) n (rw (← same) at (units_text-IsDecimal n second)))
fixed_text_injective (negsuc m) (negsuc n) first second same =
    let behind : units_text (m + 1) ≡ units_text (n + 1) = cc in
    let more = units_text_injective (m + 1) (n + 1) (omega arith) (omega arith) behind in
    let equal : m ≡ n = omega arith in
    ap negsuc equal
