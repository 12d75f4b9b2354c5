-- Sets of numbers as bits of words: one bit changes, and the first bit that is set is found.
use Rattle.std.proofs.Common.{◌≡◌, ◌≢◌, ℕ, zero, suc, get_or, ◌+◌, ◌-◌, ◌*◌, ◌/◌, ◌%◌, ◌<◌, ◌≤◌, ◌^◌, Bool, true, false, not, List, length, refl, sym, ap, ◌∙◌, arith, inl, inr, min}
use Rattle.std.specs.Prelude.{Option, Some, None, IfSome, IfNone, slice_index, slice_index_or, slice_set, ◌==◌, replicate}
use Rattle.std.specs.Int.{bit_at}
use lib.Bits.{bit_and}
use mathlib.Core.Bool.{beq}
use Rattle.std.proofs.lemmas.Bool.{false≢true, cases_Bool, cases_lt, cases_eq, eqb-true}
use Rattle.std.proofs.lemmas.List.{length-map, length-set, get_or-set_same, get_or-set_other, ext_get_or, get_or-replicate, length-replicate}
use Rattle.std.proofs.lemmas.List.{get_or-map, get_or_past}
use Rattle.std.proofs.lemmas.Nat.Bits.{bit_at_and, bit_at-lt, bit_at-zero, bit_at_mask_inside, bit_at_mask_below, ones_shl}
use Rattle.sc_sched.specs.Schedule.{positions}
use Rattle.sc_sched.specs.WordSets.{is_member, members, IsWordSet}
use Rattle.sc_sched.proofs.PlaceLemmas.{length_positions, positions_at}

-- the bits of a word from one on
pub masked_in : (word from k : ℕ) → from ≤ k → k < 64 → bit_at (bit_and word ((2 ^ 64 - 1) * 2 ^ from % 2 ^ 64)) k ≡ bit_at word k
masked_in word from k l b = rw (ones_shl 64 from (omega (arith, l, b)), bit_at_and word (2 ^ 64 - 2 ^ from) k, bit_at_mask_inside from 64 k l b) (least (bit_at word k) (bit_at-lt word k))
  where
    least : (n : ℕ) → n < 2 → min n 1 ≡ n
    least n l = omega (arith, l)

pub masked_out : (word from k : ℕ) → from < 64 → k < from → bit_at (bit_and word ((2 ^ 64 - 1) * 2 ^ from % 2 ^ 64)) k ≡ 0
masked_out word from k b l = rw (ones_shl 64 from (omega (arith, b)), bit_at_and word (2 ^ 64 - 2 ^ from) k, bit_at_mask_below from 64 k l) (least (bit_at word k))
  where
    least : (n : ℕ) → min n 0 ≡ 0
    least n = omega arith

pub many_members : (words : List ℕ) (bound : ℕ) → length (members words bound) ≡ bound
many_members words bound = length-map (positions bound) (is_member words) ∙ length_positions bound

pub member_at : (words : List ℕ) (used : List Bool) (bound low : ℕ) → IsWordSet words used bound low → (i : ℕ) → slice_index_or (members words bound) i false ≡ is_member words i
member_at words used bound low w i = elim (cases_lt i bound) [
  | inl l ↦ get_or-map (is_member words) (positions bound) i 0 false (omega (arith, l, length_positions bound)) ∙ ap (is_member words) (positions_at bound i 0 l)
  | inr g ↦ get_or_past (members words bound) i false (omega (arith, g, many_members words bound)) ∙ sym (w.past i g)
]

is_clear : (words : List ℕ) (k : ℕ) → bit_at (slice_index words (k / 64)) (k % 64) ≡ 0 → is_member words k ≡ false
is_clear words k e = ap (λ (n : ℕ). n == 1) e

clear_word : (words : List ℕ) (k : ℕ) → slice_index words (k / 64) ≡ 0 → is_member words k ≡ false
clear_word words k e = is_clear words k (ap (λ (w : ℕ). bit_at w (k % 64)) e ∙ bit_at-zero (k % 64))

nothing : (n : ℕ) → not (n == 0) ≡ false → n ≡ 0
nothing n h = elim (cases_Bool (n == 0)) [ inl t ↦ eqb-true n 0 t | inr f ↦ absurd (false≢true (sym h ∙ ap not f)) ]

-- the number of a bit of a word
word_of : (h b : ℕ) → b < 64 → (64 * h + b) / 64 ≡ h
word_of h b l = omega (arith, l)

bit_of : (h b : ℕ) → b < 64 → (64 * h + b) % 64 ≡ b
bit_of h b l = omega (arith, l)

is_set : (words : List ℕ) (h b : ℕ) → b < 64 → bit_at (slice_index words h) b ≡ 1 → is_member words (64 * h + b) ≡ true
is_set words h b l e = rw (word_of h b l, bit_of h b l, e) refl

-- the least member from a number on
abbrev pub FirstFrom : List Bool → ℕ → ℕ → Type 0
FirstFrom s from i = (from ≤ i) × (i < length s) × (slice_index_or s i false ≡ true) × ((k : ℕ) → from ≤ k → k < i → slice_index_or s k false ≡ false)

-- where none is a member from a number up to another, the least from the other on is the least from the first on
pub first_sooner : (s : List Bool) (from start : ℕ) (r : Option ℕ) → from ≤ start → ((k : ℕ) → from ≤ k → k < start → slice_index_or s k false ≡ false) → IfSome r (FirstFrom s start) → IfSome r (FirstFrom s from)
first_sooner s from start None l none h = tt
first_sooner s from start (Some i) l none h = (
  omega (arith, h.0, l),
  h.1,
  h.2,
  λ k m b. elim (cases_lt k start) [ inl c ↦ none k m c | inr g ↦ h.3 k g b ],
)

pub none_sooner : (s : List Bool) (from start : ℕ) (r : Option ℕ) → ((k : ℕ) → from ≤ k → k < start → slice_index_or s k false ≡ false) →
    IfNone r ((k : ℕ) → start ≤ k → k < length s → slice_index_or s k false ≡ false) → IfNone r ((k : ℕ) → from ≤ k → k < length s → slice_index_or s k false ≡ false)
none_sooner s from start None none h = λ k m b. elim (cases_lt k start) [ inl c ↦ none k m c | inr g ↦ h k g b ]
none_sooner s from start (Some i) none h = tt

pub same_empty : (a b : Bool) → not (beq a b) ≡ false → not a ≡ not b
same_empty true true h = refl
same_empty true false h = absurd (false≢true (sym h))
same_empty false true h = absurd (false≢true (sym h))
same_empty false false h = refl

module _ (words : List ℕ) (used : List Bool) (bound low : ℕ) (w : IsWordSet words used bound low) where
  inside : (i : ℕ) → is_member words i ≡ true → i < bound
  inside i t = elim (cases_lt i bound) [ inl l ↦ l | inr g ↦ absurd (false≢true (sym (w.past i g) ∙ t)) ]

  used_false : (j : ℕ) → j < length words → slice_index_or used j false ≡ false → slice_index words j ≡ 0
  used_false j l h = nothing (slice_index words j) (sym (w.used_is j l) ∙ h)

  -- no member from a number on in its word, nor in the words behind it
  module _ (from here there : ℕ) (e : here ≡ from / 64) (rest : (k : ℕ) → from % 64 ≤ k → k < 64 → bit_at (slice_index words here) k ≡ 0)
      (none : (j : ℕ) → here + 1 ≤ j → j < there → slice_index_or used j false ≡ false) where
    none_before : (k : ℕ) → from ≤ k → k / 64 < there → k / 64 < length words → is_member words k ≡ false
    none_before k l b c = elim (cases_eq (k / 64) here) [
      | inl q ↦ is_clear words k (ap (λ (j : ℕ). bit_at (slice_index words j) (k % 64)) q ∙ rest (k % 64) (omega (arith, l, q, e)) (omega arith))
      | inr d ↦ clear_word words k (used_false (k / 64) c (none (k / 64) (omega (arith, l, d, e)) b))
    ]

    pub none_from : length words ≤ there → (k : ℕ) → from ≤ k → k < length (members words bound) → slice_index_or (members words bound) k false ≡ false
    none_from b k l c =
        let d : k / 64 < length words = omega (arith, c, many_members words bound, w.many) in
        member_at words used bound low w k ∙ none_before k l (omega (arith, d, b)) d

    pub found_there : here + 1 ≤ there → there < length words → (bit : ℕ) → bit < 64 → bit_at (slice_index words there) bit ≡ 1 → ((k : ℕ) → k < bit → bit_at (slice_index words there) k ≡ 0) →
        (from ≤ 64 * there + bit) × (64 * there + bit < length (members words bound)) × (slice_index_or (members words bound) (64 * there + bit) false ≡ true)
        × ((k : ℕ) → from ≤ k → k < 64 * there + bit → slice_index_or (members words bound) k false ≡ false)
    found_there after b bit l t lowest =
        let set : is_member words (64 * there + bit) ≡ true = is_set words there bit l t in (
          omega (arith, after, e),
          (let i : 64 * there + bit < bound = inside (64 * there + bit) set in omega (arith, i, many_members words bound)),
          member_at words used bound low w (64 * there + bit) ∙ set,
          λ k m c. member_at words used bound low w k ∙ elim (cases_eq (k / 64) there) [
            | inl q ↦ is_clear words k (ap (λ (j : ℕ). bit_at (slice_index words j) (k % 64)) q ∙ lowest (k % 64) (omega (arith, c, q)))
            | inr d ↦ (let f : k / 64 < there = omega (arith, c, d, l) in none_before k m f (omega (arith, f, b)))
          ],
        )

  pub found_here : (from here bit : ℕ) → here ≡ from / 64 → from % 64 ≤ bit → bit < 64 → bit_at (slice_index words here) bit ≡ 1 → ((k : ℕ) → from % 64 ≤ k → k < bit → bit_at (slice_index words here) k ≡ 0) →
      (from ≤ 64 * here + bit) × (64 * here + bit < length (members words bound)) × (slice_index_or (members words bound) (64 * here + bit) false ≡ true)
      × ((k : ℕ) → from ≤ k → k < 64 * here + bit → slice_index_or (members words bound) k false ≡ false)
  found_here from here bit e a l t lowest =
      let set : is_member words (64 * here + bit) ≡ true = is_set words here bit l t in (
        omega (arith, e, a),
        (let i : 64 * here + bit < bound = inside (64 * here + bit) set in omega (arith, i, many_members words bound)),
        member_at words used bound low w (64 * here + bit) ∙ set,
        λ k m c. (let q : k / 64 ≡ here = omega (arith, m, c, e, l) in
            member_at words used bound low w k ∙ is_clear words k (ap (λ (j : ℕ). bit_at (slice_index words j) (k % 64)) q ∙ lowest (k % 64) (omega (arith, m, q, e)) (omega (arith, c, q)))),
      )

  -- a bit of a word changes
  module _ (i word : ℕ) (is_in : Bool) (b : i < bound) (bit : (bit_at word (i % 64) == 1) ≡ is_in)
      (others : (k : ℕ) → k < 64 → k ≢ i % 64 → bit_at word k ≡ bit_at (slice_index words (i / 64)) k) where
    there : i / 64 < length words
    there = omega (arith, b, w.many)

    put_here : is_member (slice_set words (i / 64) word) i ≡ is_in
    put_here = rw (get_or-set_same words (i / 64) word 0 there) bit

    put_other : (k : ℕ) → k ≢ i → is_member (slice_set words (i / 64) word) k ≡ is_member words k
    put_other k d = elim (cases_eq (k / 64) (i / 64)) [
      | inl q ↦ rw (q, get_or-set_same words (i / 64) word 0 there) (ap (λ (n : ℕ). n == 1) (others (k % 64) (omega arith) (λ e. d (omega (arith, e, q)))))
      | inr n ↦ rw (get_or-set_other words (i / 64) (k / 64) word 0 n) refl
    ]

    pub put_members : members (slice_set words (i / 64) word) bound ≡ slice_set (members words bound) i is_in
    put_members = ext_get_or false (members (slice_set words (i / 64) word) bound) (slice_set (members words bound) i is_in)
        (many_members (slice_set words (i / 64) word) bound ∙ (sym (many_members words bound) ∙ sym (length-set (members words bound) i is_in)))
        (λ k l. (let c : k < bound = omega (arith, l, many_members (slice_set words (i / 64) word) bound) in
        let at : slice_index_or (members (slice_set words (i / 64) word) bound) k false ≡ is_member (slice_set words (i / 64) word) k =
        get_or-map (is_member (slice_set words (i / 64) word)) (positions bound) k 0 false (omega (arith, c, length_positions bound)) ∙ ap (is_member (slice_set words (i / 64) word)) (positions_at bound k 0 c) in
        at ∙ elim (cases_eq k i) [
          | inl e ↦ rw e (put_here ∙ sym (get_or-set_same (members words bound) i is_in false (omega (arith, b, many_members words bound))))
          | inr d ↦ put_other k d ∙ (sym (member_at words used bound low w k) ∙ sym (get_or-set_other (members words bound) i k is_in false d))
        ]))

    put_below : (low' : ℕ) → ((k : ℕ) → k < low' → k ≢ i → k < low) → (is_in ≡ true → low' ≤ i) → (k : ℕ) → k < low' → is_member (slice_set words (i / 64) word) k ≡ false
    put_below low' others_low here_low k l = elim (cases_eq k i) [
      | inr d ↦ put_other k d ∙ w.below k (others_low k l d)
      | inl e ↦ ap (is_member (slice_set words (i / 64) word)) e ∙ elim (cases_Bool is_in) [
        | inl t ↦ absurd (omega (arith, here_low t, l, e))
        | inr f ↦ put_here ∙ f
      ]
    ]

    put_past : (k : ℕ) → bound ≤ k → is_member (slice_set words (i / 64) word) k ≡ false
    put_past k l = put_other k (λ e. omega (arith, e, l, b)) ∙ w.past k l

    put_used : (low' : ℕ) → ((k : ℕ) → k < low' → k ≢ i → k < low) → (is_in ≡ true → low' ≤ i) → (used' : List Bool) → length used' ≡ length used → slice_index_or used' (i / 64) false ≡ not (word == 0) → ((j : ℕ) → j ≢ i / 64 → slice_index_or used' j false ≡ slice_index_or used j false) →
        IsWordSet (slice_set words (i / 64) word) used' bound low'
    put_used low' others_low here_low used' many here rest = record {
      many = length-set words (i / 64) word ∙ w.many;
      many_used = many ∙ (w.many_used ∙ sym (length-set words (i / 64) word));
      used_is = λ j l. elim (cases_eq j (i / 64)) [
        | inl e ↦ rw (e, get_or-set_same words (i / 64) word 0 there) here
        | inr d ↦ rw (get_or-set_other words (i / 64) j word 0 d) (rest j d ∙ w.used_is j (omega (arith, l, length-set words (i / 64) word)))
      ];
      past = put_past;
      below = put_below low' others_low here_low;
    }

    -- the word has a member now as it had before
    pub put_same : (low' : ℕ) → ((k : ℕ) → k < low' → k ≢ i → k < low) → (is_in ≡ true → low' ≤ i) → not (slice_index words (i / 64) == 0) ≡ not (word == 0) →
        IsWordSet (slice_set words (i / 64) word) used bound low'
    put_same low' others_low here_low same = put_used low' others_low here_low used refl (w.used_is (i / 64) there ∙ same) (λ j d. refl)

    pub put_changed : (low' : ℕ) → ((k : ℕ) → k < low' → k ≢ i → k < low) → (is_in ≡ true → low' ≤ i) → (has : Bool) → has ≡ not (word == 0) →
        IsWordSet (slice_set words (i / 64) word) (slice_set used (i / 64) has) bound low'
    put_changed low' others_low here_low has e = put_used low' others_low here_low (slice_set used (i / 64) has) (length-set used (i / 64) has) (get_or-set_same used (i / 64) has false (omega (arith, there, w.many_used)) ∙ e) (λ j d. get_or-set_other used (i / 64) j has false d)

-- no member
none_zero : (many i : ℕ) → is_member (replicate many 0) i ≡ false
none_zero many i = clear_word (replicate many 0) i (zeros many (i / 64))
  where
    zeros : (n j : ℕ) → slice_index (replicate n 0) j ≡ 0
    zeros zero j = refl
    zeros (suc n) zero = refl
    zeros (suc n) (suc j) = zeros n j

pub none_members : (many bound : ℕ) → members (replicate many 0) bound ≡ replicate bound false
none_members many bound = ext_get_or false (members (replicate many 0) bound) (replicate bound false)
    (many_members (replicate many 0) bound ∙ sym (length-replicate {A = Bool} bound false))
    (λ k l. (let c : k < bound = omega (arith, l, many_members (replicate many 0) bound) in
    get_or-map (is_member (replicate many 0)) (positions bound) k 0 false (omega (arith, c, length_positions bound)) ∙ (none_zero many (get_or (positions bound) k 0) ∙ sym (get_or-replicate {A = Bool} bound k false false c))))

pub none_set : (many bound : ℕ) → many ≡ bound / 64 + 1 → IsWordSet (replicate many 0) (replicate many false) bound bound
none_set many bound e = record {
  many = length-replicate {A = ℕ} many 0 ∙ e;
  many_used = length-replicate {A = Bool} many false ∙ sym (length-replicate {A = ℕ} many 0);
  used_is = λ j l. both_none many j;
  past = λ i l. none_zero many i;
  below = λ i l. none_zero many i;
}
  where
    both_none : (n j : ℕ) → slice_index_or (replicate n false) j false ≡ not (slice_index (replicate n 0) j == 0)
    both_none zero j = refl
    both_none (suc n) zero = refl
    both_none (suc n) (suc j) = both_none n j
