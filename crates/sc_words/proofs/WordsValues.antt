-- Numbers and entries of times lists as they are read.
use Rattle.std.proofs.Common.{◌≡◌, ◌∙◌, ◌<◌, ◌≤◌, ◌+◌, ◌^◌, ◌&&◌, ◌||◌, ℕ, Bool, cond, not, true, false, suc, refl, sym, ap, arith, List, [], ◌∷◌, drop, length, get_or, Some, None, true≢false}
use Rattle.std.specs.Prelude.{MatchOption, SomeIff, map, nat_le, option_and_then, option_map, slice_set, if◌then◌else◌}
use Rattle.std.specs.Borrow.{Bor}
use Rattle.std.specs.Char.{is_ascii_digit}
use Rattle.std.specs.List.{after_first, before_first, list_all, list_any, position_or_len}
use Rattle.std.specs.Str.Parse.{IsNumeral, digits_value}
use Rattle.std.proofs.lemmas.Bool.Decides.{nat_tests}
use Rattle.std.proofs.lemmas.List.{at_drop_more}
use Rattle.sc_base.specs.GateNames.{gate_named, place_of}
use Rattle.sc_base.specs.declared.names.GateName.{GateName}
use Rattle.sc_base.proofs.DecimalLemmas.{AllDigits-from_test, test-from_AllDigits}
use Rattle.sc_words.proofs.WordsRow.{both_true}
use Rattle.sc_words.specs.Words.{is_equals, number, times_entry, times_from, with_entry}

-- ---- numbers

le_true : (a b : ℕ) → a ≤ b → nat_le a b ≡ true
le_true a b e = grind (arith, nat_tests)

le_from : (a b : ℕ) → nat_le a b ≡ true → a ≤ b
le_from a b e = grind (arith, nat_tests)

pub number_some : (low high n : ℕ) (text : List ℕ) → length text ≤ 20 → SomeIff (Some n) (IsNumeral 10 text × (digits_value 10 text < 2 ^ 64)) (digits_value 10 text) → low ≤ n → n ≤ high → Some n ≡ number low high text
number_some low high n text short read least most =
    let is : n ≡ digits_value 10 text = read.1 in
    rw (le_true 1 (length text) (omega (arith, read.0.0.0)), le_true (length text) 20 short, test-from_AllDigits text read.0.0.1, le_true low (digits_value 10 text) (omega arith), le_true (digits_value 10 text) high (omega arith))
    (ap Some is)

pub number_none : (low high : ℕ) (text : List ℕ) → (length text ≤ 20 → IsNumeral 10 text → low ≤ digits_value 10 text → digits_value 10 text ≤ high → ⊥) → None ≡ number low high text
number_none low high text never = go (nat_le 1 (length text) && (nat_le (length text) 20 && (list_all is_ascii_digit text && (nat_le low (digits_value 10 text) && nat_le (digits_value 10 text) high)))) refl
  where
    go : (b : Bool) → (nat_le 1 (length text) && (nat_le (length text) 20 && (list_all is_ascii_digit text && (nat_le low (digits_value 10 text) && nat_le (digits_value 10 text) high)))) ≡ b
        → None ≡ (if b then Some (digits_value 10 text) else None)
    go false e = refl
    go true e =
        let a = both_true (nat_le 1 (length text)) _ e in
        let b = both_true (nat_le (length text) 20) _ a.1 in
        let c = both_true (list_all is_ascii_digit text) _ b.1 in
        let d = both_true (nat_le low (digits_value 10 text)) (nat_le (digits_value 10 text) high) c.1 in
        let some : 1 ≤ length text = le_from 1 (length text) a.0 in
        absurd (never (le_from (length text) 20 b.0) (omega arith, AllDigits-from_test text c.0) (le_from low (digits_value 10 text) d.0) (le_from (digits_value 10 text) high d.1))

-- ---- entries

all_pass : {X : Type 0} (p : X → Bool) (xs : List X) → position_or_len p xs ≡ length xs → list_any p xs ≡ false
all_pass p [] e = refl
all_pass p (x ∷ xs) e = go (p x) (all_pass p xs) e
  where
    go : (b : Bool) → (position_or_len p xs ≡ length xs → list_any p xs ≡ false) → cond (not b) (1 + position_or_len p xs) 0 ≡ suc (length xs) → (b || list_any p xs) ≡ false
    go true more e = absurd (omega arith)
    go false more e = more (omega arith)

one_passes : {X : Type 0} (p : X → Bool) (xs : List X) → position_or_len p xs < length xs → list_any p xs ≡ true
one_passes p [] lt = absurd (omega arith)
one_passes p (x ∷ xs) lt = go (p x) (one_passes p xs) lt
  where
    go : (b : Bool) → (position_or_len p xs < length xs → list_any p xs ≡ true) → cond (not b) (1 + position_or_len p xs) 0 < suc (length xs) → (b || list_any p xs) ≡ true
    go true more lt = refl
    go false more lt = more (omega arith)

-- the parts of an entry, where it is cut at `=`
pub entry_cut : (entry gate value : List ℕ) → position_or_len is_equals entry < length entry → gate ≡ before_first is_equals entry → value ≡ after_first is_equals entry
    → times_entry entry ≡ option_and_then (λ g. option_map (λ duration. (g, duration)) (number 1 1000000 value)) (gate_named gate)
entry_cut entry gate value lt g v = rw (one_passes is_equals entry lt, g, v) refl

pub entry_whole : (entry : List ℕ) → position_or_len is_equals entry ≡ length entry → None ≡ times_entry entry
entry_whole entry e = rw (all_pass is_equals entry e) refl

pub number_low : (low high n : ℕ) (text : List ℕ) → Some n ≡ number low high text → (low ≤ n) × (n ≤ high)
number_low low high n text e = go (nat_le 1 (length text) && (nat_le (length text) 20 && (list_all is_ascii_digit text && (nat_le low (digits_value 10 text) && nat_le (digits_value 10 text) high)))) refl e
  where
    go : (b : Bool) → (nat_le 1 (length text) && (nat_le (length text) 20 && (list_all is_ascii_digit text && (nat_le low (digits_value 10 text) && nat_le (digits_value 10 text) high)))) ≡ b
        → Some n ≡ (if b then Some (digits_value 10 text) else None) → (low ≤ n) × (n ≤ high)
    go false e s = absurd (true≢false (ap Rattle.std.specs.Option.is_some s))
    go true e s =
        let is : n ≡ digits_value 10 text = ap (λ o. Rattle.std.specs.Prelude.unwrap_or o n) s in
        let a = both_true (nat_le 1 (length text)) _ e in
        let b = both_true (nat_le (length text) 20) _ a.1 in
        let c = both_true (list_all is_ascii_digit text) _ b.1 in
        let d = both_true (nat_le low (digits_value 10 text)) (nat_le (digits_value 10 text) high) c.1 in
        let least = le_from low (digits_value 10 text) d.0 in
        let most = le_from (digits_value 10 text) high d.1 in
        (omega arith, omega arith)

-- ---- the list

-- the next entry is taken
pub entry_more : (parts : List (List ℕ)) (k least : ℕ) (times entry : List ℕ) (gate : GateName) (duration : ℕ) → k < length parts → entry ≡ get_or parts k entry → Some (gate, duration) ≡ times_entry entry → least ≤ place_of gate
    → times_from (drop k parts) least times ≡ times_from (drop (k + 1) parts) (place_of gate + 1) (slice_set times (place_of gate) duration)
entry_more parts k least times entry gate duration lt at is le =
    at_drop_more (λ ps. times_from ps least times) parts k entry lt ∙ ap (λ e. with_entry least times (times_from (drop (k + 1) parts)) (times_entry e)) (sym at)
    ∙ ap (with_entry least times (times_from (drop (k + 1) parts))) (sym is) ∙ rw (le_true least (place_of gate) le) refl

-- the next entry is refused
pub entry_refused : (parts : List (List ℕ)) (k least : ℕ) (times entry : List ℕ) → k < length parts → entry ≡ get_or parts k entry → None ≡ times_entry entry → times_from (drop k parts) least times ≡ None
entry_refused parts k least times entry lt at is =
    at_drop_more (λ ps. times_from ps least times) parts k entry lt ∙ ap (λ e. with_entry least times (times_from (drop (k + 1) parts)) (times_entry e)) (sym at)
    ∙ ap (with_entry least times (times_from (drop (k + 1) parts))) (sym is)

pub entry_early : (parts : List (List ℕ)) (k least : ℕ) (times entry : List ℕ) (gate : GateName) (duration : ℕ) → k < length parts → entry ≡ get_or parts k entry → Some (gate, duration) ≡ times_entry entry → place_of gate < least
    → times_from (drop k parts) least times ≡ None
entry_early parts k least times entry gate duration lt at is early =
    let late : nat_le least (place_of gate) ≡ false = grind (arith, nat_tests) in
    at_drop_more (λ ps. times_from ps least times) parts k entry lt ∙ ap (λ e. with_entry least times (times_from (drop (k + 1) parts)) (times_entry e)) (sym at)
    ∙ ap (with_entry least times (times_from (drop (k + 1) parts))) (sym is) ∙ rw late refl
